-- `labels::Codes::exact` meets its contract: by whether the code is an element's. Assumes nothing.
use borrow.Author.Tests.{lt-leb, le-leb}
use Rattle.labels.specs.Reading.{exact_back}
use Rattle.labels.proofs.Codes.exact.Goals as goal

pub returns-then-self-start-ge-ELEMENT : goal.returns-then-self-start-ge-ELEMENT
unfolding exact_back
returns-then-self-start-ge-ELEMENT c = simp (le-leb _ _ c.if-self-start-ge-ELEMENT.true) c.walk.ensures

pub returns : goal.returns
unfolding exact_back
returns c = simp (lt-leb _ _ c.if-self-start-ge-ELEMENT.false) c.read.ensures
