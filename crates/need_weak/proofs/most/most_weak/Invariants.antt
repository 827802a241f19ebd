-- `need_weak::most::most_weak` meets its contract: n is that of the first o objects. Assumes nothing.
use mathlib.Core.Path.{◌≡◌}
use Prim.Native.Nat.{◌*◌, ◌≤◌}
use Rattle.need_weak.specs.Pairs.{most_weak}
use Rattle.need_weak.proofs.most.most_weak.Given as goal

abbrev pub invariant-loop-o : goal.invariant-loop-o
invariant-loop-o l = (l.n ≤ l.o * 268435456) × (l.n ≡ most_weak l.kinds l.classes l.class_kinds l.slot_starts l.slot_ends l.slot_weak l.policy l.o)
