-- `ask_late::back_by_blocks` meets its contract: as `back`, 32 edges at a time. Assumes nothing.
use mathlib.Core.Path.{sym, ◌∙◌}
use Prim.Native.Nat.{◌+◌, ◌-◌, ◌<◌}
use native.Mathlib.Omega.{arith}
use Rattle.labels.specs.Reading.{coded_in}
use Rattle.ask_late.specs.Late.{block_steps}
use Rattle.ask_late.proofs.Steps.{back_start, block_passed, block_far}
use Rattle.ask_late.proofs.back_by_blocks.Goals as goal

pub loop-left-init : goal.loop-left-init
loop-left-init c = back_start _ _ _ _ c.requires.1.0 c.requires.1.1

pub returns-then-more-ge-OTHER : goal.returns-then-more-ge-OTHER
returns-then-more-ge-OTHER c = c.back.ensures ∙ sym c.loop-left.invariant.same

pub overflow_add-steps : goal.overflow_add-steps
overflow_add-steps c = omega (arith, c.loop-left.invariant.high)

pub returns-then-steps-gt-ARRAY_ELEMENT : goal.returns-then-steps-gt-ARRAY_ELEMENT
returns-then-steps-gt-ARRAY_ELEMENT c = let a = c.args in
    let d = coded_in a.coded in
    let few : block_steps a.coded.codes.now (a.start + (c.loop-left.left - 32)) < 67108864 = omega (arith, c.block_steps-more.ensures) in
    block_far d a.start a.k a.first _ _ c.loop-left.invariant c.loop-left-test.true few (omega (arith, c.block_steps-more.ensures))

pub loop-left-preserved : goal.loop-left-preserved
loop-left-preserved c = let a = c.args in
    let d = coded_in a.coded in
    let few : block_steps a.coded.codes.now (a.start + (c.loop-left.left - 32)) < 67108864 = omega (arith, c.block_steps-more.ensures) in
    rw c.block_steps-more.ensures (block_passed d a.start a.k a.first _ _ c.loop-left.invariant c.loop-left-test.true few (omega (arith, c.block_steps-more.ensures)))

pub returns : goal.returns
returns c = c.back-2.ensures ∙ sym c.loop-left.invariant.same
