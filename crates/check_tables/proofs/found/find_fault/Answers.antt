-- `check_tables::found::find_fault` meets its contract: what is left where the first two tests fail. Assumes nothing.
use Rattle.check_tables.proofs.Marks.{find-test}
use Rattle.check_tables.proofs.found.find_fault.Goals as goal

pub returns-else-kinds-o-lt3 : goal.returns-else-kinds-o-lt3
returns-else-kinds-o-lt3 c = let a = c.args in
    find-test a.ids.now a.kinds.now a.class_ids.now a.dumped.now a.o a.class c.if-o-ids.true c.if-kinds-o-lt3.false c.dumped_before.ensures
