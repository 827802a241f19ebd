-- `check_tables::found::first_marked` meets its contract: no class before this one is found at fault, and those are marked. Assumes nothing.
use mathlib.Core.Path.{◌≡◌, ◌∙◌}
use native.Mathlib.Omega.{arith}
use lib.ListN.{length}
use Rattle.columns.proofs.First.{searching_start, searching_more, searching_hit}
use Rattle.check_tables.proofs.Laws.{searching_over}
use Rattle.check_tables.specs.Found.{find_columns}
use Rattle.check_tables.proofs.Marks.{marked_start, marked_next, marked_last, marked_end, tells}
use Rattle.check_tables.proofs.found.first_marked.Goals as goal

pub loop-class-init : goal.loop-class-init
loop-class-init c = (searching_start _ _, marked_start _ _ _ c.requires.working_value)

pub mark_class-requires : goal.mark_class-requires
mark_class-requires c = record { kinds_in_bounds = omega (arith, c.requires.kinds_len, c.requires.ids_in_bounds, c.loop-class.invariant.1.same); class_bound = omega (arith, c.loop-class-test.true, c.well_formed) }

pub returns-then-mark_class : goal.returns-then-mark_class
returns-then-mark_class c = let a = c.args in record {
  value = searching_hit _ _ c.loop-class.invariant.0 c.loop-class-test.true (tells (find_columns a.ids.now a.kinds.now a.class_ids.now a.dumped.now) (length a.working.now)
      c.requires.rises c.requires.kinds_len c.requires.ids_in_bounds c.loop-class.invariant.1 c.place_for-o.ensures c.mark_class.ensures.value c.mark_class.ensures.working_after ∙ c.if-mark_class.true);
  working_after = marked_last (find_columns a.ids.now a.kinds.now a.class_ids.now a.dumped.now) (length a.working.now) c.requires.rises c.requires.kinds_len c.requires.ids_in_bounds
      c.loop-class.invariant.1 c.place_for-o.ensures c.mark_class.ensures.value c.mark_class.ensures.working_after c.if-mark_class.true;
}

pub loop-class-preserved : goal.loop-class-preserved
loop-class-preserved c = let a = c.args in (
  searching_more _ _ c.loop-class.invariant.0 c.loop-class-test.true (tells (find_columns a.ids.now a.kinds.now a.class_ids.now a.dumped.now) (length a.working.now)
      c.requires.rises c.requires.kinds_len c.requires.ids_in_bounds c.loop-class.invariant.1 c.place_for-o.ensures c.mark_class.ensures.value c.mark_class.ensures.working_after ∙ c.if-mark_class.false),
  marked_next (find_columns a.ids.now a.kinds.now a.class_ids.now a.dumped.now) (length a.working.now) c.requires.rises c.requires.kinds_len c.requires.ids_in_bounds
      c.loop-class.invariant.1 c.place_for-o.ensures c.mark_class.ensures.value c.mark_class.ensures.working_after c.if-mark_class.false,
)

pub returns : goal.returns
returns c = let e : c.loop-class.class ≡ length c.args.class_ids.now = omega (arith, c.loop-class.invariant.0.within) in
    record { value = searching_over c.loop-class.invariant.0 c.loop-class-test.false; working_after = rw (← e) (marked_end _ _ c.loop-class.invariant.1) }
