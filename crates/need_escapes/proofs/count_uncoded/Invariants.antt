-- `need_escapes::count_uncoded` meets its contract: rows is what the layers up to this one come to. Assumes nothing.
use mathlib.Core.Path.{◌≡◌}
use Prim.Native.Nat.{◌-◌, ◌*◌, ◌≤◌}
use Rattle.need_escapes.specs.Uncoded.{used_more, layers}
use Rattle.need_escapes.proofs.count_uncoded.Given as goal

abbrev pub invariant-loop-n : goal.invariant-loop-n
invariant-loop-n l = (l.times ≤ 65534) × (l.n ≡ used_more l.names l.table l.times) × (l.rows ≡ layers 32767 l.names l.table l.times) × (l.rows ≤ l.times * 2147483648)

abbrev pub decreases-loop-n : goal.decreases-loop-n
decreases-loop-n l = 65535 - l.times
