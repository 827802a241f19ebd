-- `ask_span::within` meets its contract: at each return the tests that led there say which case of `ended` holds. Assumes nothing.
use borrow.Author.Tests.{le-leb, lt-leb}
use Rattle.columns.specs.Lists.{all_of}
use Rattle.columns.specs.Columns.{accepts}
use Rattle.ask_span.specs.Reading.{ended}
use Rattle.ask_span.proofs.within.Goals as goal

pub returns-then-end-start : goal.returns-then-end-start
unfolding ended all_of accepts
returns-then-end-start c = simp (lt-leb _ _ c.if-end-start.true)

pub returns-then-codes-end : goal.returns-then-codes-end
unfolding ended all_of accepts
returns-then-codes-end c = simp (le-leb _ _ c.if-end-start.false, lt-leb _ _ c.if-codes-end.true)

pub returns-then-targets-end : goal.returns-then-targets-end
unfolding ended all_of accepts
returns-then-targets-end c = simp (le-leb _ _ c.if-end-start.false, le-leb _ _ c.if-codes-end.false, lt-leb _ _ c.if-targets-end.true)

pub returns : goal.returns
unfolding ended all_of accepts
returns c = simp (le-leb _ _ c.if-end-start.false, le-leb _ _ c.if-codes-end.false, le-leb _ _ c.if-targets-end.false)
