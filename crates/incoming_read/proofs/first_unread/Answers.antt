-- `incoming_read::first_unread` meets its contract: every object before o can be read. Assumes nothing.
use Rattle.std.proofs.Common.{sym, ap, ◌∙◌, not, arith}
use Rattle.columns.proofs.First.{searching_start, searching_more, searching_hit}
use Rattle.incoming_read.proofs.Lowest.{lists_fall}
use Rattle.incoming_read.proofs.first_unread.Goals as goal

pub returns-then-not-lists_rise : goal.returns-then-not-lists_rise
returns-then-not-lists_rise c = lists_fall _ (sym c.lists_rise.ensures ∙ c.if-not-lists_rise.true)

pub loop-o-init : goal.loop-o-init
loop-o-init c = searching_start _ _

pub loop-o-preserved : goal.loop-o-preserved
loop-o-preserved c = searching_more _ _ c.loop-o.invariant (omega arith) (ap not (sym c.reads.ensures ∙ c.if-not-reads.false))

pub returns-then-not-reads : goal.returns-then-not-reads
returns-then-not-reads c = searching_hit _ _ c.loop-o.invariant (omega arith) (ap not (sym c.reads.ensures ∙ c.if-not-reads.true))
