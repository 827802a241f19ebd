-- `label_codes::code_of` meets its contract: by whether the label is an element. Assumes nothing.
use mathlib.Core.Path.{ap}
use Prim.Native.Nat.{ℕ}
use native.Mathlib.Omega.{arith}
use borrow.Author.Tests.{lt-leb, le-leb}
use Rattle.columns.specs.Lists.{◌!◌}
use Rattle.rules.specs.Types.{array_element_label}
use Rattle.labels.specs.Coding.{code_by}
use Rattle.labels.proofs.Table.{slot_within}
use Rattle.label_codes.proofs.code_of.Goals as goal

pub offset_bounds-table-slot_of : goal.offset_bounds-table-slot_of
offset_bounds-table-slot_of c = omega (arith, slot_within c.args.names c.args.label)

pub bounds-table-slot_of : goal.bounds-table-slot_of
bounds-table-slot_of c = omega (arith, slot_within c.args.names c.args.label)

pub returns-then-label-lt-ARRAY_ELEMENT : goal.returns-then-label-lt-ARRAY_ELEMENT
unfolding code_by
returns-then-label-lt-ARRAY_ELEMENT c = simp (lt-leb array_element_label _ c.if-label-lt-ARRAY_ELEMENT.true) (ap (λ (s : ℕ). c.args.table.now ! s) c.slot_of.ensures)

pub returns : goal.returns
unfolding code_by
returns c = simp (le-leb array_element_label _ c.if-label-lt-ARRAY_ELEMENT.false) (omega arith)
