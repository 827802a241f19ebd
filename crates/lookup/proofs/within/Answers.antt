-- `lookup::within` meets its contract: the rank stays between lo and hi. Assumes nothing.
use native.Mathlib.Omega.{arith}
use Rattle.lookup.proofs.Search.{held_up, held_down}
use Rattle.lookup.proofs.within.Goals as goal

pub loop-lo-preserved-then-ids-mid : goal.loop-lo-preserved-then-ids-mid
loop-lo-preserved-then-ids-mid c = held_up c.loop-lo.invariant _ (omega arith) c.if-ids-mid.true

pub loop-lo-preserved : goal.loop-lo-preserved
loop-lo-preserved c = held_down c.loop-lo.invariant _ (omega arith) (omega arith) c.if-ids-mid.false
