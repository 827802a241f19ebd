-- `incoming_stages::long_rows` meets its contract: a block whose last offset is short has no long one. Assumes nothing.
use native.Mathlib.Omega.{arith}
use Rattle.incoming_stages.proofs.Laws.{far, short_start, short_more, short-rows}
use Rattle.incoming_stages.proofs.long_rows.Goals as goal

pub loop-start-init : goal.loop-start-init
loop-start-init c = short_start _

pub overflow_sub-values : goal.overflow_sub-values
overflow_sub-values c = let last = c.last_of-last.ensures in
    far c.args.values.now c.requires c.loop-start.start c.last_of-last.result (omega (arith, last)) (omega (arith, last))

pub loop-start-preserved : goal.loop-start-preserved
loop-start-preserved c = short_more _ c.requires c.loop-start.invariant (omega arith) (rw c.last_of-last.ensures at c.if-values-last-ge65535.false)

pub returns : goal.returns
returns c = short-rows _ c.requires c.loop-start.invariant (omega arith)
