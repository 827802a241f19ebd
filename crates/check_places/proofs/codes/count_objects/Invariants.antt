-- `check_places::codes::count_objects` meets its contract: the sum so far is that of the objects before o. Assumes nothing.
use mathlib.Core.Path.{◌≡◌}
use Prim.Native.Nat.{◌*◌, ◌≤◌}
use lib.ListN.{length}
use Rattle.columns.specs.Lists.{total}
use Rattle.check_places.specs.Placing.{held_at}
use Rattle.check_places.proofs.codes.count_objects.Given as goal

abbrev pub invariant-loop-o : goal.invariant-loop-o
invariant-loop-o l = (l.o ≤ length l.kinds) × (l.sum ≡ total (held_at l.kinds l.classes l.lengths l.class_kinds l.slot_starts l.slot_ends l.slot_weak l.codes l.starts l.policy) l.o) × (l.sum ≤ l.o * 4294967295)
