-- `need_weak::copied::slots` meets its contract: n is the number of pairs of the first k slots. Assumes nothing.
use mathlib.Core.Path.{refl, ◌∙◌}
use mathlib.Core.Bool.{false}
use mathlib.Core.List.{[]}
use Prim.Native.Nat.{◌+◌}
use native.Mathlib.Omega.{arith}
use Rattle.edge_append.proofs.Reading.{copied-slot}
use Rattle.need_weak.proofs.Counting.{pairs-weak, pairs_other, pairs_none, pair_few}
use Rattle.need_weak.proofs.copied.slots.Goals as goal
use Rattle.need_weak.proofs.copied.slots.Goals.{then-slot_weak-first-eq1, else-slot_weak-first-eq1}

pub loop-k-init : goal.loop-k-init
loop-k-init c = (omega arith, pairs_none _ _)

pub overflow_add-n : goal.overflow_add-n
overflow_add-n c = omega (arith, c.loop-k.invariant.0, c.pair_to-n.ensures, pair_few c.args.ids.now c.id_held-id.result)

pub loop-k-preserved : goal.loop-k-preserved
loop-k-preserved c = let a = c.args in
    let k = c.loop-k.k in
    let w = c.loop-k.invariant in
    elim c.if-slot_weak-first-eq1.branch [
      | then-slot_weak-first-eq1 v ↦ (
        omega (arith, w.0, v.n-is, v.pair_to-n.ensures, pair_few a.ids.now v.id_held-id.result),
        v.n-is ∙ pairs-weak _ _ k w.1 [] a.slot_weak.now (a.first + k) v.id_held-id.result
            (copied-slot _ a.start k v.id_held-id.ensures [] a.slot_weak.now false a.first) v.if-slot_weak-first-eq1.true v.pair_to-n.ensures,
      )
      | else-slot_weak-first-eq1 v ↦ (
        omega (arith, w.0, v.n-is),
        v.n-is ∙ pairs_other _ _ k w.1 [] a.slot_weak.now (a.first + k) _ (copied-slot _ a.start k refl [] a.slot_weak.now false a.first) v.if-slot_weak-first-eq1.false,
      )
    ]
