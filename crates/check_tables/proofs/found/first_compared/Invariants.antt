-- `check_tables::found::first_compared` meets its contract: no class before this one is found at fault. Assumes nothing.
use lib.ListN.{length}
use Rattle.columns.proofs.First.{Searching}
use Rattle.rules.specs.Verdict.{bad_find}
use Rattle.check_tables.specs.Found.{find_columns}
use Rattle.check_tables.proofs.found.first_compared.Given as goal

abbrev pub invariant-loop-class : goal.invariant-loop-class
invariant-loop-class l = Searching (bad_find (find_columns l.ids l.kinds l.class_ids l.dumped)) (length l.class_ids) l.class
