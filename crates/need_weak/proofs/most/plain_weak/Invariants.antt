-- `need_weak::most::plain_weak` meets its contract: none of the classes before has a weak slot. Assumes nothing.
use mathlib.Core.Path.{◌≡◌}
use mathlib.Core.Bool.{false}
use Rattle.columns.specs.Lists.{any}
use Rattle.need_weak.specs.Pairs.{plain_weak}
use Rattle.need_weak.proofs.most.plain_weak.Given as goal

abbrev pub invariant-loop-class : goal.invariant-loop-class
invariant-loop-class l = any (plain_weak l.class_kinds l.slot_starts l.slot_ends l.slot_weak) l.class ≡ false
