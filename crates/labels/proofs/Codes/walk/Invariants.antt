-- `labels::Codes::walk` meets its contract: next is what is expected behind the first i edges, and all of them read. Assumes nothing.
use mathlib.Core.Path.{◌≡◌}
use mathlib.Core.List.{[], ◌∷◌}
use Rattle.labels.specs.Reading.{coded_in, next_back}
use Rattle.labels.proofs.Codes.walk.Given as goal

abbrev pub invariant-loop-i : goal.invariant-loop-i
invariant-loop-i l = next_back (coded_in l.self) l.start l.i ≡ l.next ∷ []
