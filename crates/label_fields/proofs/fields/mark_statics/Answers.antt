-- `label_fields::fields::mark_statics` meets its contract: the names of the object statics from `from` up to i are marked. Assumes nothing.
use mathlib.Core.List.{[], ◌∷◌}
use native.Mathlib.Nat.{sub_self}
use borrow.Author.Tests.{eq-eqb, ne_eqb}
use Rattle.columns.specs.Lists.{◌!◌, places}
use Rattle.label_fields.proofs.Marks.{marking_none, marking_more, statics-hit, statics_miss}
use Rattle.label_fields.proofs.fields.mark_statics.Goals as goal
use Rattle.label_fields.proofs.fields.mark_statics.Goals.{then-static_types-i-eq2, else-static_types-i-eq2}

pub loop-i-init : goal.loop-i-init
unfolding places
loop-i-init c = rw (sub_self c.args.from) (marking_none _ _)

pub loop-i-preserved : goal.loop-i-preserved
loop-i-preserved c = let a = c.args in
    let v = c.loop-i.invariant in
    let i = c.loop-i.i in
    let sn = a.static_names.now in
    elim c.if-static_types-i-eq2.branch [
      | then-static_types-i-eq2 w ↦
          rw w.table-is (marking_more (sn ! i ∷ []) v (statics-hit sn a.from i c.loop-i.auto.i a.static_types.now (eq-eqb _ _ w.if-static_types-i-eq2.true)) w.mark_label.ensures)
      | else-static_types-i-eq2 w ↦ rw (w.table-is, statics_miss sn a.from i c.loop-i.auto.i a.static_types.now (ne_eqb _ _ w.if-static_types-i-eq2.false)) v
    ]
