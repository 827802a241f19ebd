-- `ask_late::block_steps` meets its contract: sum has the steps of the first i codes of the block. Assumes nothing.
use native.Mathlib.Omega.{arith}
use Rattle.ask_late.proofs.Steps.{summed_start, summed_more, summed_end}
use Rattle.ask_late.proofs.block_steps.Goals as goal

pub loop-i-init : goal.loop-i-init
loop-i-init c = summed_start _ _

pub overflow_add-sum : goal.overflow_add-sum
overflow_add-sum c = omega (arith, c.loop-i.invariant.small, c.steps_of-sum.ensures.1)

pub loop-i-preserved : goal.loop-i-preserved
loop-i-preserved c = summed_more _ _ _ _ c.loop-i.invariant c.loop-i-test.true c.steps_of-sum.ensures.0 c.steps_of-sum.ensures.1

pub returns : goal.returns
returns c = summed_end _ _ _ _ c.loop-i.invariant c.loop-i-test.false
