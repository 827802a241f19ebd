-- `ask_late::steps_of` meets its contract: at each return the tests that led there say what the code is. Assumes nothing.
use native.Mathlib.Omega.{arith}
use borrow.Author.Tests.{lt-leb, le-leb, le-ltb, lt-ltb}
use Rattle.columns.specs.Lists.{all_of}
use Rattle.ask_late.specs.Late.{steps_of}
use Rattle.ask_late.proofs.steps_of.Goals as goal

pub returns-then-code-lt-ELEMENT : goal.returns-then-code-lt-ELEMENT
unfolding steps_of all_of
returns-then-code-lt-ELEMENT c = (rw (lt-leb 32768 c.args.code c.if-code-lt-ELEMENT.true), omega arith)

pub returns-then-code-eq-ESCAPED_ELEMENT : goal.returns-then-code-eq-ESCAPED_ELEMENT
unfolding steps_of all_of
returns-then-code-eq-ESCAPED_ELEMENT c = let a = c.args in (rw (le-leb 32768 a.code c.if-code-lt-ELEMENT.false, le-ltb a.code 65535 (omega arith)), omega arith)

pub returns : goal.returns
unfolding steps_of all_of
returns c = let a = c.args in (rw (le-leb 32768 a.code c.if-code-lt-ELEMENT.false, lt-ltb a.code 65535 (omega (arith, c.if-code-eq-ESCAPED_ELEMENT.false))), omega arith)
