-- `answer_replies::packed` meets its contract: both ends fit their halves, or one does not. Assumes nothing.
use native.Mathlib.Omega.{arith}
use borrow.Author.Tests.{lt-ltb, le-ltb}
use Rattle.columns.specs.Lists.{all_of}
use Rattle.columns.specs.Columns.{accepts}
use Rattle.answer_replies.specs.Reply.{span_number}
use Rattle.answer_replies.proofs.packed.Goals as goal

pub returns-then-start-ge4294967296 : goal.returns-then-start-ge4294967296
unfolding span_number accepts all_of
returns-then-start-ge4294967296 c = rw (le-ltb c.args.start 4294967296 c.if-start-ge4294967296.true)

pub returns-then-end-ge4294967295 : goal.returns-then-end-ge4294967295
unfolding span_number accepts all_of
returns-then-end-ge4294967295 c = rw (lt-ltb c.args.start 4294967296 (omega (arith, c.if-start-ge4294967296.false)), le-ltb c.args.end 4294967295 c.if-end-ge4294967295.true)

pub returns : goal.returns
unfolding span_number accepts all_of
returns c = rw (lt-ltb c.args.start 4294967296 (omega (arith, c.if-start-ge4294967296.false)), lt-ltb c.args.end 4294967295 (omega (arith, c.if-end-ge4294967295.false)))
