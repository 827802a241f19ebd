-- `check_places::statics::count_classes` meets its contract: the sum so far is that of the classes before this one. Assumes nothing.
use mathlib.Core.Path.{◌≡◌}
use Prim.Native.Nat.{◌*◌, ◌≤◌}
use lib.ListN.{length}
use Rattle.columns.specs.Lists.{total}
use Rattle.check_places.specs.Placing.{class_places}
use Rattle.check_places.proofs.statics.count_classes.Given as goal

abbrev pub invariant-loop-class : goal.invariant-loop-class
invariant-loop-class l = (l.class ≤ length l.class_ids) × (l.sum ≡ total (class_places l.every l.ids l.class_ids l.loaders l.dumped l.static_starts l.static_ends l.static_types l.static_values) l.class) × (l.sum ≤ l.class * 4294967296)
