-- `incoming_read::pass::spans_from` meets its contract: the spans of the objects before o read. Assumes nothing.
use lib.ListN.{length}
use Rattle.store_read.specs.Back.{blocked_in}
use Rattle.incoming_read.proofs.Spanning.{Spanning}
use Rattle.incoming_read.proofs.pass.spans_from.Given as goal

abbrev pub invariant-loop-o : goal.invariant-loop-o
invariant-loop-o l = Spanning (blocked_in l.graph.offsets) (length l.graph.labels.codes.now) (length l.graph.targets.now) l.last l.narrow l.o
