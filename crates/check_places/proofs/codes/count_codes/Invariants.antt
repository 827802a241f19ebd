-- `check_places::codes::count_codes` meets its contract: the sum so far is that of the codes before k. Assumes nothing.
use mathlib.Core.Path.{◌≡◌}
use Prim.Native.Nat.{◌≤◌}
use Rattle.columns.specs.Lists.{total}
use Rattle.check_places.specs.Placing.{one_code}
use Rattle.check_places.proofs.codes.count_codes.Given as goal

abbrev pub invariant-loop-k : goal.invariant-loop-k
invariant-loop-k l = (l.k ≤ l.n) × (l.sum ≡ total (one_code l.codes l.start) l.k) × (l.sum ≤ l.k)
