-- `check_places::codes::count_slots` meets its contract: the sum so far is that of the slots before k. Assumes nothing.
use mathlib.Core.Path.{◌≡◌}
use Prim.Native.Nat.{◌≤◌}
use Rattle.columns.specs.Lists.{total}
use Rattle.check_places.specs.Placing.{one_slot}
use Rattle.check_places.proofs.codes.count_slots.Given as goal

abbrev pub invariant-loop-k : goal.invariant-loop-k
invariant-loop-k l = (l.k ≤ l.n) × (l.sum ≡ total (one_slot l.codes l.slot_weak l.kept l.start l.first) l.k) × (l.sum ≤ l.k)
