-- `lookup_hints::scale` meets its contract: its tests are the definition's. Assumes nothing.
use native.Mathlib.Omega.{arith}
use borrow.Author.Rules.{rules}
use Rattle.lookup_hints.proofs.Scales.{bits_within, scale_none, scale_empty, scale_right, scale_left}
use Rattle.lookup_hints.proofs.scale.Goals as goal

pub returns-then-is_empty : goal.returns-then-is_empty
returns-then-is_empty c = scale_empty _ _ (search rules)

pub returns-then-last-first : goal.returns-then-last-first
returns-then-last-first c = scale_none _ _ c.if-last-first.true

pub overflow_add-result : goal.overflow_add-result
overflow_add-result c = omega (arith, bits_within _ c.bits_for-most.ensures)

pub returns-then-most-bits : goal.returns-then-most-bits
returns-then-most-bits c = scale_right _ _ c.if-last-first.false c.bits_of-bits.ensures c.bits_for-most.ensures c.if-most-bits.true

pub returns-else-most-bits : goal.returns-else-most-bits
returns-else-most-bits c = scale_left _ _ c.if-last-first.false c.bits_of-bits.ensures c.bits_for-most.ensures c.if-most-bits.false
