-- `label_fields::fields::mark_slots` meets its contract: the labels from `from` up to i are marked. Assumes nothing.
use Rattle.labels.specs.Fields.{slots_named}
use Rattle.label_fields.proofs.Marks.{Marking}
use Rattle.label_fields.proofs.fields.mark_slots.Given as goal

abbrev pub invariant-loop-label : goal.invariant-loop-label
invariant-loop-label l = Marking l.names l.initial.table (slots_named l.slot_labels l.from l.label-index) l.table
