-- `labels::read::field` meets its contract: at each return the tests that led there say which case of `field_back` holds. Assumes nothing.
use borrow.Author.Tests.{lt-ltb, le-ltb, lt-leb, le-leb}
use Rattle.columns.specs.Lists.{all_of}
use Rattle.rules.specs.Types.{array_element_label}
use Rattle.labels.specs.Reading.{field_back}
use Rattle.labels.proofs.read.field.Goals as goal

pub returns-then-fields-at : goal.returns-then-fields-at
unfolding field_back all_of
returns-then-fields-at c = simp (le-ltb _ _ c.if-fields-at.true)

pub returns-then-label-ge-ARRAY_ELEMENT : goal.returns-then-label-ge-ARRAY_ELEMENT
unfolding field_back all_of
returns-then-label-ge-ARRAY_ELEMENT c = simp (lt-ltb _ _ c.if-fields-at.false, le-leb array_element_label _ c.if-label-ge-ARRAY_ELEMENT.true)

pub returns : goal.returns
unfolding field_back all_of
returns c = simp (lt-ltb _ _ c.if-fields-at.false, lt-leb array_element_label _ c.if-label-ge-ARRAY_ELEMENT.false)
