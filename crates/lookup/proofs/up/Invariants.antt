-- `lookup::up` meets its contract: the rank stays between lo and the end. Assumes nothing.
use Prim.Native.Nat.{◌-◌}
use lib.ListN.{length}
use Rattle.lookup.specs.Lookup.{Held}
use Rattle.lookup.proofs.up.Given as goal

abbrev pub invariant-loop-over : goal.invariant-loop-over
invariant-loop-over l = Held l.ids l.id l.lo (length l.ids)

abbrev pub decreases-loop-over : goal.decreases-loop-over
decreases-loop-over l = length l.ids - l.lo
