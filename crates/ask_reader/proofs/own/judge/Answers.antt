-- `ask_reader::own::judge` meets its contract: at each return the tests that led there say the answer. Assumes nothing.
use borrow.Author.Tests.{lt-ltb, le-ltb}
use Rattle.ask_reader.specs.Own.{own_says}
use Rattle.ask_reader.proofs.own.judge.Goals as goal

pub returns-then-read-n : goal.returns-then-read-n
unfolding own_says
returns-then-read-n c = simp (lt-ltb _ _ c.if-read-n.true)

pub returns-then-room-n : goal.returns-then-room-n
unfolding own_says
returns-then-room-n c = simp (le-ltb _ _ c.if-read-n.false, lt-ltb _ _ c.if-room-n.true)

pub returns : goal.returns
unfolding own_says
returns c = simp (le-ltb _ _ c.if-read-n.false, le-ltb _ _ c.if-room-n.false)
