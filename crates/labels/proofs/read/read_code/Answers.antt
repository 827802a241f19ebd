-- `labels::read::read_code` meets its contract: at each return the tests that led there say which case of `code_back` holds. Assumes nothing.
use borrow.Author.Tests.{lt-leb, le-leb, eq-eqb, ne_eqb}
use Rattle.labels.specs.Reading.{code_back}
use Rattle.labels.proofs.read.read_code.Goals as goal

pub returns-then-code-eq-ESCAPED : goal.returns-then-code-eq-ESCAPED
unfolding code_back
returns-then-code-eq-ESCAPED c = simp (eq-eqb _ _ c.if-code-eq-ESCAPED.true) c.escape.ensures

pub returns-then-code-ge-ELEMENT : goal.returns-then-code-ge-ELEMENT
unfolding code_back
returns-then-code-ge-ELEMENT c = simp (ne_eqb _ _ c.if-code-eq-ESCAPED.false, le-leb _ _ c.if-code-ge-ELEMENT.true) (rw c.from.ensures at c.element.ensures)

pub returns : goal.returns
unfolding code_back
returns c = simp (ne_eqb _ _ c.if-code-eq-ESCAPED.false, lt-leb _ _ c.if-code-ge-ELEMENT.false) (rw c.from-2.ensures at c.field.ensures)
