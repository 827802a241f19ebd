-- `label_fields::fields::mark_named` meets its contract: the labels and names of the first c classes are marked. Assumes nothing.
use Rattle.labels.specs.Fields.{naming, named_by}
use Rattle.label_fields.proofs.Marks.{Marking}
use Rattle.label_fields.proofs.fields.mark_named.Given as goal

abbrev pub invariant-loop-c : goal.invariant-loop-c
invariant-loop-c l = Marking l.names l.initial.table (named_by (naming l.slot_starts l.slot_ends l.static_starts l.static_ends l.slot_labels l.static_names l.static_types) l.c) l.table
