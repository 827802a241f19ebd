-- `need_weak::most::class_weak` meets its contract: the tests in their order, and then the slots. Assumes nothing.
use Rattle.need_weak.proofs.Bound.{other_kind, no_start, no_end, not_ordered, not_in, slots-told}
use native.Mathlib.Omega.{arith}
use Rattle.need_weak.proofs.most.class_weak.Goals as goal

pub returns-then-class_kinds-class : goal.returns-then-class_kinds-class
returns-then-class_kinds-class c = let a = c.args in other_kind a.class_kinds.now a.slot_starts.now a.slot_ends.now a.slot_weak.now a.class c.if-class_kinds-class.true

pub returns-then-slot_starts-class : goal.returns-then-slot_starts-class
returns-then-slot_starts-class c = let a = c.args in no_start a.class_kinds.now a.slot_starts.now a.slot_ends.now a.slot_weak.now a.class c.if-class_kinds-class.false c.if-slot_starts-class.true

pub returns-then-slot_ends-class : goal.returns-then-slot_ends-class
returns-then-slot_ends-class c = let a = c.args in no_end a.class_kinds.now a.slot_starts.now a.slot_ends.now a.slot_weak.now a.class c.if-class_kinds-class.false c.if-slot_ends-class.true

pub returns-then-last-first : goal.returns-then-last-first
returns-then-last-first c = let a = c.args in not_ordered a.class_kinds.now a.slot_starts.now a.slot_ends.now a.slot_weak.now a.class c.if-class_kinds-class.false c.index-first.ensures
    c.index-last.ensures c.if-last-first.true

pub returns-then-slot_weak-last : goal.returns-then-slot_weak-last
returns-then-slot_weak-last c = let a = c.args in not_in a.class_kinds.now a.slot_starts.now a.slot_ends.now a.slot_weak.now a.class c.if-class_kinds-class.false
    c.index-last.ensures c.if-slot_weak-last.true

pub returns : goal.returns
returns c = let a = c.args in slots-told a.class_kinds.now a.slot_starts.now a.slot_ends.now a.slot_weak.now a.class c.if-class_kinds-class.false
    (omega (arith, c.if-slot_starts-class.false)) (omega (arith, c.if-slot_ends-class.false)) c.index-first.ensures c.index-last.ensures (omega (arith, c.if-last-first.false))
    (omega (arith, c.if-slot_weak-last.false)) c.slots.ensures.is
