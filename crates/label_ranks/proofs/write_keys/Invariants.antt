-- `label_ranks::write_keys` meets its contract: the keys of the k used labels at places below i are written. Assumes nothing.
use mathlib.Core.List.{map}
use Prim.Native.Nat.{◌≤◌}
use Rattle.columns.specs.Lists.{places}
use Rattle.columns.proofs.Written.{Written}
use Rattle.label_ranks.specs.Keys.{key_at, is_used}
use Rattle.label_ranks.proofs.write_keys.Given as goal

abbrev pub invariant-loop-i : goal.invariant-loop-i
invariant-loop-i l = (l.k ≤ l.i) × Written (map (key_at l.names l.counting) (places (is_used l.counting) l.i)) l.initial.ranking l.ranking l.k
