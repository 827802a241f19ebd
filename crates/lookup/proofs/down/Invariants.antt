-- `lookup::down` meets its contract: the rank stays between the front and hi. Assumes nothing.
use Rattle.lookup.specs.Lookup.{Held}
use Rattle.lookup.proofs.down.Given as goal

abbrev pub invariant-loop-over : goal.invariant-loop-over
invariant-loop-over l = Held l.ids l.id 0 l.hi

abbrev pub decreases-loop-over : goal.decreases-loop-over
decreases-loop-over l = l.hi
