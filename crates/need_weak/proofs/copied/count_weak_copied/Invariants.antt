-- `need_weak::copied::count_weak_copied` meets its contract: n is the number of pairs of the first o objects. Assumes nothing.
use mathlib.Core.Path.{◌≡◌}
use Prim.Native.Nat.{◌*◌, ◌≤◌}
use Rattle.index.specs.Copied.{ids_of}
use Rattle.need_weak.specs.Pairs.{copied_total}
use Rattle.need_weak.proofs.copied.count_weak_copied.Given as goal

abbrev pub invariant-loop-o : goal.invariant-loop-o
invariant-loop-o l = (l.n ≤ l.o * 268435456) × (l.n ≡ copied_total l.ids l.kinds l.classes l.starts (ids_of l.codes l.escape_places l.escape_ids l.base) l.class_kinds l.slot_starts l.slot_ends l.slot_weak l.policy l.o)
