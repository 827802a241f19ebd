-- `store::code::count_long` meets its contract: rows is the number of long places below i. Assumes nothing.
use mathlib.Core.Path.{refl, ◌∙◌}
use Prim.Native.Nat.{◌<◌, ◌≤◌}
use native.Mathlib.Omega.{arith}
use borrow.Author.Tests.{le-leb, lt-leb}
use Rattle.columns.specs.Lists.{places}
use Rattle.columns.proofs.Lists.{count-hit, count_miss}
use Rattle.store.specs.Blocked.{above_at}
use Rattle.store.proofs.code.count_long.Goals as goal
use Rattle.store.proofs.code.count_long.Goals.{then-above-ge65535, else-above-ge65535}

pub loop-i-init : goal.loop-i-init
unfolding places
loop-i-init c = (omega arith, refl)

pub loop-i-preserved : goal.loop-i-preserved
loop-i-preserved c = elim c.if-above-ge65535.branch [
  | then-above-ge65535 w ↦
      let l : 65535 ≤ above_at c.args.values.now c.loop-i.i = omega arith in
      (omega arith, w.rows-is ∙ count-hit _ _ c.loop-i.invariant.1 (le-leb _ _ l))
  | else-above-ge65535 w ↦
      let l : above_at c.args.values.now c.loop-i.i < 65535 = omega arith in
      (omega arith, w.rows-is ∙ count_miss _ _ c.loop-i.invariant.1 (lt-leb _ _ l))
]
