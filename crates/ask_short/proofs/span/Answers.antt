-- `ask_short::span` meets its contract: by the short offsets. Assumes nothing.
use borrow.Author.Rules.{rules}
use Rattle.store.specs.Blocked.{read_back}
use Rattle.ask_span.specs.Reading.{span_of}
use Rattle.ask_short.specs.Lean.{short_of}
use Rattle.ask_short.proofs.span.Goals as goal

pub returns : goal.returns
unfolding span_of
returns c = c.span_by.ensures (read_back (short_of c.args.bases.now c.args.short.now)) (λ i r p. search rules)
