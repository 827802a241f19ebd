-- `lookup_hints::step_of` meets its contract: a shift to the right divides by a power of two, one to the left multiplies in 64 bits. Assumes nothing.
use Rattle.lookup_hints.proofs.Scales.{step_below, step_right, step_left, step_lost}
use Rattle.lookup_hints.proofs.step_of.Goals as goal

pub returns-then-id-first : goal.returns-then-id-first
returns-then-id-first c = step_below _ _ _ c.if-id-first.true

pub returns-then-scale-lt64 : goal.returns-then-scale-lt64
returns-then-scale-lt64 c = step_right _ _ _ c.if-scale-lt64.true

pub returns-then-scale-gt127 : goal.returns-then-scale-gt127
returns-then-scale-gt127 c = step_lost _ _ _ c.if-scale-gt127.true

pub returns : goal.returns
returns c = step_left _ _ _ c.if-scale-lt64.false
