-- `ask_field::seek` meets its contract: at each return the tests that led there say which case of `sought_in` holds. Assumes nothing.
use mathlib.Core.Path.{ap, ◌∙◌}
use Rattle.std.specs.Prelude.{Ok}
use Rattle.ask_field.specs.Sought.{with_rows}
use Rattle.ask_field.proofs.Fields.{sought_element, sought_other, sought_field}
use Rattle.ask_field.proofs.seek.Goals as goal

pub returns-then-label-eq-ARRAY_ELEMENT : goal.returns-then-label-eq-ARRAY_ELEMENT
returns-then-label-eq-ARRAY_ELEMENT g c = let a = c.args in λ rows h.
    ap Ok c.first_element.ensures ∙ sought_element (with_rows a.edge_codes.now a.fields.now rows) a.start a.count a.label c.if-label-eq-ARRAY_ELEMENT.true

pub returns-then-label-ge-ARRAY_ELEMENT : goal.returns-then-label-ge-ARRAY_ELEMENT
returns-then-label-ge-ARRAY_ELEMENT g c = let a = c.args in λ rows h.
    sought_other (with_rows a.edge_codes.now a.fields.now rows) a.start a.count a.label c.if-label-eq-ARRAY_ELEMENT.false c.if-label-ge-ARRAY_ELEMENT.true

pub returns : goal.returns
returns g c = let a = c.args in λ rows h.
    c.first_label.ensures rows h ∙ sought_field (with_rows a.edge_codes.now a.fields.now rows) a.start a.count a.label c.if-label-ge-ARRAY_ELEMENT.false
