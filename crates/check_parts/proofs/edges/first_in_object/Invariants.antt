-- `check_parts::edges::first_in_object` meets its contract: no label before k is at fault, and `next` is what is expected there. Assumes nothing.
use mathlib.Core.Path.{◌≡◌}
use lib.ListN.{length}
use Rattle.columns.proofs.First.{Searching}
use Rattle.rules.specs.Labels.{expected}
use Rattle.rules.specs.Parts.{bad_label}
use Rattle.check_parts.proofs.edges.first_in_object.Given as goal

abbrev pub invariant-loop-k : goal.invariant-loop-k
invariant-loop-k l = Searching (bad_label l.names l.labels) (length l.labels) l.k × (l.next ≡ expected l.labels l.k)
