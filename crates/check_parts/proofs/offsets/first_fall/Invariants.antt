-- `check_parts::offsets::first_fall` meets its contract: no offset before i is below the one before it. Assumes nothing.
use lib.ListN.{length}
use Rattle.columns.proofs.First.{Searching}
use Rattle.rules.specs.Parts.{below}
use Rattle.check_parts.proofs.offsets.first_fall.Given as goal

abbrev pub invariant-loop-i : goal.invariant-loop-i
invariant-loop-i l = Searching (below l.offsets) (length l.offsets) l.i
