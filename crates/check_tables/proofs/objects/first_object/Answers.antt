-- `check_tables::objects::first_object` meets its contract: no object before o is at fault, and `before` is the id before it. Assumes nothing.
use mathlib.Core.Path.{refl, sym, ap, ◌∙◌}
use lib.ListN.{length}
use Rattle.columns.specs.Lists.{◌!◌}
use Rattle.columns.proofs.First.{searching_start, searching_more, searching_hit}
use Rattle.check_tables.proofs.Laws.{searching_over}
use Rattle.check_tables.specs.Reads.{object_fault}
use Rattle.check_tables.proofs.Faults.{prior_more, object_fault_lem}
use Rattle.check_tables.proofs.objects.first_object.Goals as goal

pub loop-o-init : goal.loop-o-init
loop-o-init c = (searching_start _ _, refl)

pub returns-then-object_fault : goal.returns-then-object_fault
returns-then-object_fault c = let a = c.args in
    searching_hit _ _ c.loop-o.invariant.0 c.loop-o-test.true
    (object_fault_lem a.ids.now a.kinds.now a.classes.now a.lengths.now a.class_ids.now c.loop-o.o
    ∙ ap (λ b. object_fault b (a.ids.now ! c.loop-o.o) (a.kinds.now ! c.loop-o.o) (a.classes.now ! c.loop-o.o) (a.lengths.now ! c.loop-o.o) (length a.class_ids.now))
    (sym c.loop-o.invariant.1)
    ∙ sym c.object_fault.ensures ∙ c.if-object_fault.true)

pub loop-o-preserved : goal.loop-o-preserved
loop-o-preserved c = let a = c.args in (
  searching_more _ _ c.loop-o.invariant.0 c.loop-o-test.true
      (object_fault_lem a.ids.now a.kinds.now a.classes.now a.lengths.now a.class_ids.now c.loop-o.o
      ∙ ap (λ b. object_fault b (a.ids.now ! c.loop-o.o) (a.kinds.now ! c.loop-o.o) (a.classes.now ! c.loop-o.o) (a.lengths.now ! c.loop-o.o)
      (length a.class_ids.now)) (sym c.loop-o.invariant.1)
      ∙ sym c.object_fault.ensures ∙ c.if-object_fault.false),
  prior_more a.ids.now c.loop-o.o,
)

pub returns : goal.returns
returns c = searching_over c.loop-o.invariant.0 c.loop-o-test.false
