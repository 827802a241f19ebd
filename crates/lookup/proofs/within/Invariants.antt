-- `lookup::within` meets its contract: the rank stays between lo and hi. Assumes nothing.
use Prim.Native.Nat.{◌-◌}
use Rattle.lookup.specs.Lookup.{Held}
use Rattle.lookup.proofs.within.Given as goal

abbrev pub invariant-loop-lo : goal.invariant-loop-lo
invariant-loop-lo l = Held l.ids l.id l.lo l.hi

abbrev pub decreases-loop-lo : goal.decreases-loop-lo
decreases-loop-lo l = l.hi - l.lo
