-- `incoming_stages::long_rows` meets its contract: a block whose last offset is short has no long one. Assumes nothing.
use Prim.Native.Nat.{◌-◌}
use lib.ListN.{length}
use Rattle.incoming_stages.proofs.Laws.{Short}
use Rattle.incoming_stages.proofs.long_rows.Given as goal

abbrev pub invariant-loop-start : goal.invariant-loop-start
invariant-loop-start l = Short l.values l.start

abbrev pub decreases-loop-start : goal.decreases-loop-start
decreases-loop-start l = length l.values - l.start
