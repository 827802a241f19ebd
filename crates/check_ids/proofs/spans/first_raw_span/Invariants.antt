-- `check_ids::spans::first_raw_span` meets its contract: no object before o has a body at fault. Assumes nothing.
use lib.ListN.{length}
use Rattle.columns.proofs.First.{Searching}
use Rattle.rules.specs.Verdict.{bad_span}
use Rattle.check_ids.specs.Spans.{raw_spans}
use Rattle.check_ids.proofs.spans.first_raw_span.Given as goal

abbrev pub invariant-loop-o : goal.invariant-loop-o
invariant-loop-o l = Searching (bad_span (raw_spans l.kinds l.lengths l.bytes l.size l.starts l.bodies)) (length l.kinds) l.o
