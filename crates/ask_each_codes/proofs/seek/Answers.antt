-- `ask_each_codes::seek` meets its contract: at each return the tests that led there say which case of `sought_in` holds. Assumes nothing.
use mathlib.Core.Path.{ap, ◌∙◌}
use Rattle.std.specs.Prelude.{Ok}
use Rattle.ask_field.proofs.Fields.{sought_element, sought_other, sought_field}
use Rattle.ask_short.specs.Lean.{plain_of}
use Rattle.ask_each_codes.proofs.seek.Goals as goal

pub returns-then-label-eq-ARRAY_ELEMENT : goal.returns-then-label-eq-ARRAY_ELEMENT
returns-then-label-eq-ARRAY_ELEMENT c = let a = c.args in
    λ q. ap Ok c.first_element.ensures ∙ sought_element (plain_of a.edge_codes.now a.fields.now) a.start a.count a.label c.if-label-eq-ARRAY_ELEMENT.true

pub returns-then-label-ge-ARRAY_ELEMENT : goal.returns-then-label-ge-ARRAY_ELEMENT
returns-then-label-ge-ARRAY_ELEMENT c = let a = c.args in
    λ q. sought_other (plain_of a.edge_codes.now a.fields.now) a.start a.count a.label c.if-label-eq-ARRAY_ELEMENT.false c.if-label-ge-ARRAY_ELEMENT.true

pub first_code-requires : goal.first_code-requires
first_code-requires c = record { count_in_bounds = (c.requires.count_in_bounds, c.if-label-ge-ARRAY_ELEMENT.false); sole = c.requires.sole }

pub returns : goal.returns
returns c = let a = c.args in
    λ q. c.first_code.ensures q ∙ sought_field (plain_of a.edge_codes.now a.fields.now) a.start a.count a.label c.if-label-ge-ARRAY_ELEMENT.false
