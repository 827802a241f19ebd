-- `need_weak::raw::slots` meets its contract: the first k slots end within the body, and n is the number of their pairs. Assumes nothing.
use mathlib.Core.Path.{refl, sym, ◌∙◌}
use mathlib.Core.Bool.{false}
use mathlib.Core.List.{[]}
use Prim.Native.Nat.{◌+◌, ◌≤◌}
use borrow.Author.Tests.{ltb-true, ltb-false}
use Rattle.columns.specs.Lists.{◌!◌}
use Rattle.edge_append.proofs.Bytes.{read_none, read_next, read_stop, raw-slot}
use Rattle.need_weak.proofs.Counting.{pairs-weak, pairs_other, pairs_none, pair_few}
use native.Mathlib.Omega.{arith}
use borrow.Author.Rules.{rules}
use Rattle.need_weak.proofs.raw.slots.Goals as goal
use Rattle.need_weak.proofs.raw.slots.Goals.{then-slot_weak-first-eq1, else-slot_weak-first-eq1}

pub loop-k-init : goal.loop-k-init
loop-k-init c = let a = c.args in
    (search rules, read_none a.slot_offsets.now a.size a.body a.first 0, pairs_none _ _)

pub returns-then-ends_past : goal.returns-then-ends_past
returns-then-ends_past c = let a = c.args in
    let k = c.loop-k.k in
    let w = c.loop-k.invariant in
    let h = ltb-true _ _ (sym c.ends_past.ensures ∙ c.if-ends_past.true) in
    record {
      is = rw (sym (read_stop a.slot_offsets.now a.size a.body a.first k w.1 h a.count (omega arith))) at w.2;
      few = omega arith;
    }

pub overflow_add-n : goal.overflow_add-n
overflow_add-n c = omega (arith, c.loop-k.invariant.0, c.pair_to-n.ensures, pair_few c.args.ids.now c.id_at_bytes-id.result)

pub loop-k-preserved : goal.loop-k-preserved
loop-k-preserved c =
    let ends : let a = c.args in a.slot_offsets.now ! (a.first + c.loop-k.k) + a.size ≤ a.body =
    ltb-false _ _ (sym c.ends_past.ensures ∙ c.if-ends_past.false) in
    let a = c.args in
    let k = c.loop-k.k in
    let w = c.loop-k.invariant in
    let read = read_next a.slot_offsets.now a.size a.body a.first k w.1 ends in
    elim c.if-slot_weak-first-eq1.branch [
      | then-slot_weak-first-eq1 v ↦ (
        omega (arith, w.0, v.n-is, v.pair_to-n.ensures, pair_few a.ids.now v.id_at_bytes-id.result),
        read,
        v.n-is ∙ pairs-weak _ _ k w.2 [] a.slot_weak.now (a.first + k) v.id_at_bytes-id.result
            (raw-slot a.bytes.now a.size a.start a.slot_offsets.now [] a.slot_weak.now false a.first k v.index.ensures v.id_at_bytes-id.ensures) v.if-slot_weak-first-eq1.true v.pair_to-n.ensures,
      )
      | else-slot_weak-first-eq1 v ↦ (
        omega (arith, w.0, v.n-is),
        read,
        v.n-is ∙ pairs_other _ _ k w.2 [] a.slot_weak.now (a.first + k) _
            (raw-slot a.bytes.now a.size a.start a.slot_offsets.now [] a.slot_weak.now false a.first k refl refl) v.if-slot_weak-first-eq1.false,
      )
    ]
