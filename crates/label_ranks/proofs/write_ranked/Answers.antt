-- `label_ranks::write_ranked` meets its contract: the labels of the first i keys are written. Assumes nothing.
use mathlib.Core.Path.{refl}
use native.Mathlib.Omega.{arith}
use Rattle.columns.specs.Lists.{◌!◌, tab}
use Rattle.columns.proofs.Written.{written_none, written_tab}
use Rattle.label_ranks.specs.Keys.{key_label}
use Rattle.label_ranks.proofs.write_ranked.Goals as goal

pub loop-i-init : goal.loop-i-init
unfolding tab
loop-i-init c = written_none _

pub loop-i-preserved : goal.loop-i-preserved
loop-i-preserved c = written_tab (λ i. key_label (c.args.ranking.now ! i)) c.loop-i.i _ c.loop-i.invariant (omega arith) refl
