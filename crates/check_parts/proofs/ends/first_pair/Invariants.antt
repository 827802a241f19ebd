-- `check_parts::ends::first_pair` meets its contract: no pair before i is at fault, and (a0, b0) is the pair before it. Assumes nothing.
use mathlib.Core.Path.{◌≡◌}
use lib.ListN.{length}
use Rattle.columns.proofs.First.{Searching}
use Rattle.rules.specs.Parts.{bad_pair}
use Rattle.check_tables.proofs.Faults.{prior}
use Rattle.check_parts.proofs.ends.first_pair.Given as goal

abbrev pub invariant-loop-i : goal.invariant-loop-i
invariant-loop-i l = Searching (bad_pair l.objects l.weak_from l.weak_to) (length l.weak_from) l.i × (l.a0 ≡ prior l.weak_from l.i) × (l.b0 ≡ prior l.weak_to l.i)
