-- `incoming_read::first_unread` meets its contract: every object before o can be read. Assumes nothing.
use Prim.Native.Nat.{◌-◌}
use lib.ListN.{length}
use Rattle.columns.proofs.First.{Searching}
use Rattle.ask_span.specs.Graph.{strong_in}
use Rattle.incoming_read.proofs.Lowest.{unread}
use Rattle.incoming_read.proofs.first_unread.Given as goal

abbrev pub invariant-loop-o : goal.invariant-loop-o
invariant-loop-o l = Searching (unread (strong_in l.graph)) (length l.graph.offsets.short.now - 1) l.o
