-- `label_fields::fields::mark_statics` meets its contract: the names of the object statics from `from` up to i are marked. Assumes nothing.
use Prim.Native.Nat.{◌-◌}
use Rattle.labels.specs.Fields.{statics_named}
use Rattle.label_fields.proofs.Marks.{Marking}
use Rattle.label_fields.proofs.fields.mark_statics.Given as goal

abbrev pub invariant-loop-i : goal.invariant-loop-i
invariant-loop-i l = Marking l.names l.initial.table (statics_named l.static_names l.static_types l.from (l.i - l.from)) l.table
