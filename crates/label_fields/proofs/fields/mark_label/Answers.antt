-- `label_fields::fields::mark_label` meets its contract: at the label's place. Assumes nothing.
use native.Mathlib.Omega.{arith}
use Rattle.labels.proofs.Table.{slot_within}
use Rattle.label_fields.proofs.fields.mark_label.Goals as goal

pub offset_bounds-table-slot_of : goal.offset_bounds-table-slot_of
offset_bounds-table-slot_of c = omega (arith, slot_within c.args.names c.args.label)

pub bounds-table-slot_of : goal.bounds-table-slot_of
bounds-table-slot_of c = omega (arith, slot_within c.args.names c.args.label)
