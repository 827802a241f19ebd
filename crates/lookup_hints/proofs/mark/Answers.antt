-- `lookup_hints::mark` meets its contract: the ids from i on are marked. Assumes nothing.
use Rattle.lookup_hints.proofs.Hinting.{hinting_none, hinting_more, hinting_all}
use native.Mathlib.Omega.{arith}
use Rattle.lookup_hints.proofs.mark.Goals as goal

pub loop-i-init : goal.loop-i-init
loop-i-init c = hinting_none _ _

pub loop-i-preserved : goal.loop-i-preserved
loop-i-preserved c = hinting_more c.loop-i.invariant (omega arith) c.scale-scale.ensures c.step_of.ensures c.put.ensures
    c.put.auto.short

pub returns : goal.returns
returns c = hinting_all c.loop-i.invariant (omega arith)
