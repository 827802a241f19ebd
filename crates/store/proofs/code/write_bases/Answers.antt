-- `store::code::write_bases` meets its contract: the first b bases are written. Assumes nothing.
use mathlib.Core.Path.{refl}
use Prim.Native.Nat.{◌*◌}
use native.Mathlib.Omega.{arith}
use lib.ListN.{get_or}
use Rattle.columns.specs.Lists.{tab}
use Rattle.columns.proofs.Written.{written_none, written_tab}
use Rattle.store.proofs.code.write_bases.Goals as goal

pub loop-b-init : goal.loop-b-init
unfolding tab
loop-b-init c = written_none _

pub loop-b-preserved : goal.loop-b-preserved
loop-b-preserved c = written_tab (λ b. get_or c.args.values.now (b * 256) 0) c.loop-b.b _ c.loop-b.invariant (omega arith) refl
