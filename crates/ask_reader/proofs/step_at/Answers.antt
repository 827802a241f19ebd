-- `ask_reader::step_at` meets its contract: by whether both parts have the position. Assumes nothing.
use borrow.Author.Tests.{lt-ltb, le-ltb}
use Rattle.ask_reader.specs.Read.{step_at}
use Rattle.ask_reader.proofs.step_at.Goals as goal

pub returns-then-targets-at : goal.returns-then-targets-at
unfolding step_at
returns-then-targets-at c = simp (le-ltb _ _ c.if-targets-at.true)

pub returns-then-codes-at : goal.returns-then-codes-at
unfolding step_at
returns-then-codes-at c = simp (lt-ltb _ _ c.if-targets-at.false, le-ltb _ _ c.if-codes-at.true)

pub returns : goal.returns
unfolding step_at
returns c = simp (lt-ltb _ _ c.if-targets-at.false, lt-ltb _ _ c.if-codes-at.false)
