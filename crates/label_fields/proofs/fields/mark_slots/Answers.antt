-- `label_fields::fields::mark_slots` meets its contract: the labels so far are marked. Assumes nothing.
use mathlib.Core.List.{[], ◌∷◌}
use Prim.Native.Nat.{◌<◌, ◌-◌}
use native.Mathlib.Omega.{arith}
use lib.ListN.{drop, length-take}
use Rattle.columns.specs.Lists.{◌!◌, tab, part}
use Rattle.label_fields.proofs.Marks.{marking_none, marking_more, slots_more}
use Rattle.label_fields.proofs.fields.mark_slots.Goals as goal

pub loop-label-init : goal.loop-label-init
unfolding tab
loop-label-init c = marking_none _ _

pub loop-label-preserved : goal.loop-label-preserved
loop-label-preserved c = let a = c.args in
    let i = c.loop-label.label-index in
    let l : i < a.to - a.from = omega (arith, length-take (a.to - a.from) (drop a.from a.slot_labels.now)) in
    marking_more (part a.slot_labels.now a.from a.to ! i ∷ []) c.loop-label.invariant (slots_more a.slot_labels.now a.from a.to i l) c.mark_label.ensures
