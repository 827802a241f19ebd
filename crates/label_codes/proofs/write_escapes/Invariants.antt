-- `label_codes::write_escapes` meets its contract: the k escapes among the codes of the first e labels are written. Assumes nothing.
use Rattle.columns.proofs.Written.{Written}
use Rattle.labels.specs.Coding.{escaped_to, labels_to}
use Rattle.label_codes.proofs.write_escapes.Given as goal

abbrev pub invariant-loop-e : goal.invariant-loop-e
invariant-loop-e l = Written (escaped_to l.edge_codes l.e) l.initial.escape_at l.escape_at l.k × Written (labels_to l.labels l.edge_codes l.e) l.initial.escape_label l.escape_label l.k
