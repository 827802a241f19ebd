-- `store::code::write_short` meets its contract: the first i short numbers are written. Assumes nothing.
use mathlib.Core.Path.{ap, ◌∙◌}
use Prim.Native.Nat.{ℕ, min}
use native.Mathlib.Omega.{arith}
use Rattle.columns.specs.Lists.{tab}
use Rattle.columns.proofs.Written.{written_none, written_tab}
use Rattle.store.specs.Blocked.{above_at}
use Rattle.store.proofs.code.write_short.Goals as goal

pub loop-i-init : goal.loop-i-init
unfolding tab
loop-i-init c = written_none _

pub loop-i-preserved : goal.loop-i-preserved
loop-i-preserved c =
    let e = c.short_of.ensures ∙ ap (λ (x : ℕ). min x 65535) c.above.ensures in
    written_tab (λ i. min (above_at c.args.values.now i) 65535) c.loop-i.i _ c.loop-i.invariant (omega arith) e
