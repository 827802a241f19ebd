-- `check_tables::classes::first_class` meets its contract: no class before this one is at fault, and none of its slots before this one. Assumes nothing.
use mathlib.Core.Path.{ap, ◌∙◌}
use Prim.Native.Nat.{ℕ, ◌+◌}
use native.Mathlib.Nat.{sub_self}
use native.Mathlib.Omega.{arith}
use Rattle.columns.proofs.First.{searching_start, passing_start, passing_more}
use Rattle.check_tables.proofs.Laws.{searching_over}
use Rattle.check_tables.proofs.Faults.{low_more, class_ranges, slot_here, row_stops, slot_stops, static_stops, class_passed}
use Rattle.check_tables.proofs.classes.first_class.Goals as goal

pub loop-class-init : goal.loop-class-init
loop-class-init c = searching_start _ _

pub returns-then-row_fault : goal.returns-then-row_fault
returns-then-row_fault c = row_stops _ c.loop-class.invariant c.loop-class-test.true c.row_fault.ensures c.if-row_fault.true

pub loop-slot-init : goal.loop-slot-init
loop-slot-init c = let r = class_ranges _ c.loop-class.invariant c.row_fault.ensures c.if-row_fault.false in
    rw c.index-slot.ensures (passing_start _ _ _ r.0, rw (sub_self _), r.1)

pub returns-then-slot_fault : goal.returns-then-slot_fault
returns-then-slot_fault c = let p = c.loop-slot.invariant in
    slot_stops _ c.loop-class.invariant c.loop-class-test.true c.row_fault.ensures c.if-row_fault.false p.0 (omega arith)
    (slot_here _ c.loop-class.invariant p.0 p.1 c.from-offset.ensures c.slot_fault.ensures ∙ c.if-slot_fault.true)

pub loop-slot-preserved : goal.loop-slot-preserved
loop-slot-preserved c = let p = c.loop-slot.invariant in (
  passing_more _ _ _ p.0 (omega arith) (slot_here _ c.loop-class.invariant p.0 p.1 c.from-offset.ensures c.slot_fault.ensures ∙ c.if-slot_fault.false),
  ap (λ (o : ℕ). o + 1) c.from-offset.ensures ∙ low_more c.args.slot_offsets.now _ c.loop-slot.slot p.0.low,
  p.2,
)

pub statics_fault-requires : goal.statics_fault-requires
statics_fault-requires c = let r = class_ranges _ c.loop-class.invariant c.row_fault.ensures c.if-row_fault.false in
    (omega (arith, r.2), omega (arith, r.3), c.requires.types_long)

pub returns-then-statics_fault : goal.returns-then-statics_fault
returns-then-statics_fault c =
    static_stops _ c.loop-class.invariant c.loop-class-test.true c.row_fault.ensures c.if-row_fault.false c.loop-slot.invariant.0 (omega arith) c.index-from.ensures c.index-to.ensures
    c.statics_fault.ensures c.if-statics_fault.true

pub loop-class-preserved : goal.loop-class-preserved
loop-class-preserved c =
    class_passed _ c.loop-class.invariant c.loop-class-test.true c.row_fault.ensures c.if-row_fault.false c.loop-slot.invariant.0 (omega arith) c.index-from.ensures c.index-to.ensures
    c.statics_fault.ensures c.if-statics_fault.false

pub returns-after-loop-class : goal.returns-after-loop-class
returns-after-loop-class c = searching_over c.loop-class.invariant c.loop-class-test.false
