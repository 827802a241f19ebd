-- `lookup::down` meets its contract: the rank stays between the front and hi. Assumes nothing.
use native.Mathlib.Omega.{arith}
use Rattle.lookup.proofs.Search.{held_up, held_down}
use Rattle.lookup.proofs.down.Goals as goal

pub within-requires : goal.within-requires
within-requires c = held_up c.loop-over.invariant _ (omega arith) c.if-ids-at.true

pub loop-over-preserved : goal.loop-over-preserved
loop-over-preserved c = held_down c.loop-over.invariant _ (omega arith) (omega arith) c.if-ids-at.false
