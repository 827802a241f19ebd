-- `check_parts::edges::first_label` meets its contract: the labels of the first o objects are without fault. Assumes nothing.
use Rattle.check_parts.proofs.Faults.{LabelsTested}
use Rattle.check_parts.proofs.edges.first_label.Given as goal

abbrev pub invariant-loop-o : goal.invariant-loop-o
invariant-loop-o l = LabelsTested l.names l.offsets l.labels l.o
