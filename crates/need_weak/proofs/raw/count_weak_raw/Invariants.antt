-- `need_weak::raw::count_weak_raw` meets its contract: n is the number of pairs of the first o objects. Assumes nothing.
use mathlib.Core.Path.{◌≡◌}
use Prim.Native.Nat.{◌*◌, ◌≤◌}
use Rattle.need_weak.specs.Pairs.{raw_total}
use Rattle.need_weak.proofs.raw.count_weak_raw.Given as goal

abbrev pub invariant-loop-o : goal.invariant-loop-o
invariant-loop-o l = (l.n ≤ l.o * 268435456) × (l.n ≡ raw_total l.ids l.kinds l.classes l.starts l.bodies l.bytes l.size l.class_kinds l.slot_starts l.slot_ends l.slot_offsets l.slot_weak l.policy l.o)
