-- `ask_each_rows::lacks_room` meets its contract: at each return the tests that led there say which column is too short, if one is. Assumes nothing.
use borrow.Author.Tests.{lt-ltb, le-ltb}
use Rattle.columns.specs.Lists.{any_of}
use Rattle.ask_each_rows.proofs.lacks_room.Goals as goal

pub returns-then-targets-asked : goal.returns-then-targets-asked
unfolding any_of
returns-then-targets-asked c = rw (lt-ltb _ _ c.if-targets-asked.true)

pub returns-then-marks-asked : goal.returns-then-marks-asked
unfolding any_of
returns-then-marks-asked c = rw (le-ltb _ _ c.if-targets-asked.false, lt-ltb _ _ c.if-marks-asked.true)

pub returns : goal.returns
unfolding any_of
returns c = rw (le-ltb _ _ c.if-targets-asked.false, le-ltb _ _ c.if-marks-asked.false)
