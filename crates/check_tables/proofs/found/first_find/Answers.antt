-- `check_tables::found::first_find` meets its contract: with marks where there is room. Assumes nothing.
use mathlib.Core.Path.{◌∙◌}
use borrow.Author.Tests.{lt-ltb, le-ltb}
use Rattle.check_tables.specs.Found.{marks_if}
use Rattle.check_tables.proofs.found.first_find.Goals as goal

pub first_marked-requires : goal.first_marked-requires
first_marked-requires c = record { rises = c.requires.rises; kinds_len = c.requires.kinds_len; dumped_len = c.requires.dumped_len; ids_in_bounds = c.if-ids-working.true; working_value = c.requires.working_value }

pub returns-then-ids-working : goal.returns-then-ids-working
unfolding marks_if
returns-then-ids-working c = record { value = c.first_marked.ensures.value; working_after = c.first_marked.ensures.working_after ∙ rw (lt-ltb _ _ c.if-ids-working.true) }

pub returns : goal.returns
unfolding marks_if
returns c = record { value = c.first_compared.ensures; working_after = c.requires.working_value ∙ rw (le-ltb _ _ c.if-ids-working.false) }
