-- `check_places::statics::count_statics` meets its contract: the sum so far is that of the statics before i. Assumes nothing.
use mathlib.Core.Path.{◌≡◌}
use Prim.Native.Nat.{◌-◌, ◌≤◌}
use Rattle.columns.specs.Lists.{total}
use Rattle.check_places.specs.Placing.{one_static}
use Rattle.check_places.proofs.statics.count_statics.Given as goal

abbrev pub invariant-loop-i : goal.invariant-loop-i
invariant-loop-i l = (l.from ≤ l.i) × (l.i ≤ l.to) × (l.sum ≡ total (one_static l.every l.ids l.static_types l.static_values l.from) (l.i - l.from)) × (l.sum ≤ l.i - l.from)
