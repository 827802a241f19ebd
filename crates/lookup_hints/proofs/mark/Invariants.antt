-- `lookup_hints::mark` meets its contract: the ids from i on are marked. Assumes nothing.
use Rattle.lookup_hints.proofs.Hinting.{Hinting}
use Rattle.lookup_hints.proofs.mark.Given as goal

abbrev pub invariant-loop-i : goal.invariant-loop-i
invariant-loop-i l = Hinting l.ids l.initial.short l.short l.i
