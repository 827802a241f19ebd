-- `ask_span::span_within` meets its contract: by the offsets of its columns. Assumes nothing.
use borrow.Author.Rules.{rules}
use Rattle.store_read.specs.Back.{blocked_in, read_back}
use Rattle.ask_span.specs.Reading.{span_of}
use Rattle.ask_span.proofs.span_within.Goals as goal

pub returns : goal.returns
unfolding span_of
returns c = let a = c.args in
    c.span_by.ensures (read_back (blocked_in a.offsets)) (λ i r p. search rules)
