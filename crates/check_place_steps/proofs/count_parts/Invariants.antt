-- `check_place_steps::count_parts` meets its contract: the sum so far is that of the objects before o. Assumes nothing.
use mathlib.Core.Path.{◌≡◌}
use Prim.Native.Nat.{◌*◌, ◌≤◌}
use lib.ListN.{length}
use Rattle.columns.specs.Lists.{total}
use Rattle.check_place_steps.specs.Place.{part_at}
use Rattle.check_place_steps.proofs.count_parts.Given as goal

abbrev pub invariant-loop-o : goal.invariant-loop-o
invariant-loop-o l = (l.o ≤ length l.kinds) × (l.sum ≡ total (part_at l.kinds l.classes l.lengths l.slot_starts l.slot_ends) l.o) × (l.sum ≤ l.o * 4294967295)
