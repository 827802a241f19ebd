-- `check_whole::tables::first_dumped` meets its contract: the lower of the two. Assumes nothing.
use mathlib.Core.Path.{◌∙◌}
use Rattle.check_whole.proofs.Either.{either_first, either_second}
use Rattle.check_whole.proofs.Narrow.{dumped_both}
use Rattle.check_whole.proofs.tables.first_dumped.Goals as goal

pub returns-then-class-found : goal.returns-then-class-found
returns-then-class-found c = record {
  result_value = either_first _ _ _ _ (dumped_both _ _ _ _ _ _ _ _ _ _ _ _ _ _ _) (rw (← c.requires.dumped_len) c.first_class-class.ensures) c.first_find-found.ensures.value c.if-class-found.true;
  working_value_2 = c.first_find-found.ensures.working_after ∙ rw c.first_find-found.ensures.value;
}

pub returns-else-class-found : goal.returns-else-class-found
returns-else-class-found c = record {
  result_value = either_second _ _ _ _ (dumped_both _ _ _ _ _ _ _ _ _ _ _ _ _ _ _) (rw (← c.requires.dumped_len) c.first_class-class.ensures) c.first_find-found.ensures.value c.if-class-found.false;
  working_value_2 = c.first_find-found.ensures.working_after ∙ rw c.first_find-found.ensures.value;
}
