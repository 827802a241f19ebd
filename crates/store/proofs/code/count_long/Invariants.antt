-- `store::code::count_long` meets its contract: rows is the number of long places below i. Assumes nothing.
use mathlib.Core.Path.{◌≡◌}
use Prim.Native.Nat.{◌≤◌}
use lib.ListN.{length}
use Rattle.columns.specs.Lists.{places}
use Rattle.store.specs.Blocked.{is_long}
use Rattle.store.proofs.code.count_long.Given as goal

abbrev pub invariant-loop-i : goal.invariant-loop-i
invariant-loop-i l = (l.rows ≤ l.i) × (l.rows ≡ length (places (is_long l.values) l.i))
