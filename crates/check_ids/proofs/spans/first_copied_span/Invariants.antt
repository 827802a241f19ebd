-- `check_ids::spans::first_copied_span` meets its contract: no object before o has a part past the codes. Assumes nothing.
use lib.ListN.{length}
use Rattle.columns.proofs.First.{Searching}
use Rattle.rules.specs.Verdict.{bad_span}
use Rattle.check_ids.specs.Spans.{copied_spans}
use Rattle.check_ids.proofs.spans.first_copied_span.Given as goal

abbrev pub invariant-loop-o : goal.invariant-loop-o
invariant-loop-o l = Searching (bad_span (copied_spans l.kinds l.classes l.lengths l.slot_starts l.slot_ends l.codes l.starts)) (length l.kinds) l.o
