-- `incoming_judge::judge` meets its contract: by the spans, and then by the edges. Assumes nothing.
use Rattle.std.proofs.Common.{sym, arith}
use Rattle.incoming_judge.proofs.Laws.{judged_none, judged_spans}
use Rattle.incoming_judge.proofs.judge.Goals as goal

pub returns-then-graph-lt2 : goal.returns-then-graph-lt2
returns-then-graph-lt2 c = judged_none _ _ (omega arith)

pub returns-in-None : goal.returns-in-None
returns-in-None c = judged_spans _ _ (sym c.in-None.ensures.good) c.first_unread.ensures
