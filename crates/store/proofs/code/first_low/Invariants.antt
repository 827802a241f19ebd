-- `store::code::first_low` meets its contract: no place before i is low. Assumes nothing.
use lib.ListN.{length}
use Rattle.columns.proofs.First.{Searching}
use Rattle.store.specs.Blocked.{is_low}
use Rattle.store.proofs.code.first_low.Given as goal

abbrev pub invariant-loop-i : goal.invariant-loop-i
invariant-loop-i l = Searching (is_low l.values) (length l.values) l.i
