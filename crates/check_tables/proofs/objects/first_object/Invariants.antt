-- `check_tables::objects::first_object` meets its contract: no object before o is at fault, and `before` is the id before it. Assumes nothing.
use mathlib.Core.Path.{◌≡◌}
use lib.ListN.{length}
use Rattle.columns.proofs.First.{Searching}
use Rattle.rules.specs.Verdict.{bad_object}
use Rattle.check_tables.specs.Reads.{object_columns}
use Rattle.check_tables.proofs.Faults.{prior}
use Rattle.check_tables.proofs.objects.first_object.Given as goal

abbrev pub invariant-loop-o : goal.invariant-loop-o
invariant-loop-o l = Searching (bad_object (object_columns l.ids l.kinds l.classes l.lengths l.class_ids)) (length l.ids) l.o × (l.before ≡ prior l.ids l.o)
