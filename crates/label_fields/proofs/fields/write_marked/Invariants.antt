-- `label_fields::fields::write_marked` meets its contract: the labels of the k marked places below i are written. Assumes nothing.
use mathlib.Core.List.{map}
use Rattle.columns.specs.Lists.{places}
use Rattle.columns.proofs.Written.{Written}
use Rattle.labels.specs.Fields.{table_label}
use Rattle.label_fields.specs.Marks.{is_marked}
use Rattle.label_fields.proofs.fields.write_marked.Given as goal

abbrev pub invariant-loop-i : goal.invariant-loop-i
invariant-loop-i l = Written (map (table_label l.names) (places (is_marked l.table) l.i)) l.initial.fields l.fields l.k
