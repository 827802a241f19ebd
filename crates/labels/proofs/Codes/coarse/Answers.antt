-- `labels::Codes::coarse` meets its contract: by whether the code is an element's. Assumes nothing.
use borrow.Author.Tests.{lt-leb, le-leb}
use Rattle.labels.specs.Reading.{coarse_back}
use Rattle.labels.proofs.Codes.coarse.Goals as goal

pub returns-then-self-edge-ge-ELEMENT : goal.returns-then-self-edge-ge-ELEMENT
unfolding coarse_back
returns-then-self-edge-ge-ELEMENT c = simp (le-leb _ _ c.if-self-edge-ge-ELEMENT.true)

pub returns : goal.returns
unfolding coarse_back
returns c = simp (lt-leb _ _ c.if-self-edge-ge-ELEMENT.false) c.read.ensures
