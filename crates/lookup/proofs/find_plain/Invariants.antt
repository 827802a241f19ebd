-- `lookup::find_plain` meets its contract: the first i ids are passed. Assumes nothing.
use Rattle.lookup.proofs.Walk.{PassedBy}
use Rattle.lookup.proofs.find_plain.Given as goal

abbrev pub invariant-loop-i : goal.invariant-loop-i
invariant-loop-i l = PassedBy l.ids l.id l.below l.i
