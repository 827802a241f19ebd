-- `incoming_read::pass::spans_from` meets its contract: the spans of the objects before o read. Assumes nothing.
use Rattle.std.proofs.Common.{◌<◌, arith}
use Rattle.incoming_read.proofs.Spanning.{offset_some, offset_none, spanning_start, spans_bad, span-falls, span_past, spanning_more, span_refused}
use Rattle.incoming_read.proofs.pass.spans_from.Goals as goal
use Rattle.incoming_read.proofs.pass.spans_from.Goals.{then-end-last-via-then-end-last, then-end-last-via-else-end-last+then-limit-end}

pub loop-o-init : goal.loop-o-init
loop-o-init c = spanning_start _ _ _ c.requires.long_value_value

pub returns-in_err-end : goal.returns-in_err-end
returns-in_err-end c =
    rw c.from_residual.ensures
    (spans_bad _ _ _ c.loop-o-test.true (span_refused _ _ _ c.loop-o.invariant c.loop-o-test.true (offset_none _ c.in_err-end.ensures.value c.at.ensures)))

pub returns-then-end-last : goal.returns-then-end-last
returns-then-end-last c =
    let l = c.loop-o.invariant in
    let m = c.loop-o-test.true in
    let next = offset_some _ c.in_ok-end.ensures.value c.at.ensures in
    elim c.then-end-last.branch [
      | then-end-last-via-then-end-last w ↦ spans_bad _ _ _ m (span-falls _ _ _ l m next w.if-end-last.true)
      | then-end-last-via-else-end-last+then-limit-end w ↦ spans_bad _ _ _ m (span_past _ _ _ l m next (rw c.span_limit-limit.ensures at w.if-limit-end.true))
    ]

pub loop-o-preserved : goal.loop-o-preserved
loop-o-preserved c =
    let few : c.loop-o.o < 67108864 = omega (arith, c.requires.in_bounds) in
    spanning_more _ _ _ c.loop-o.invariant c.loop-o-test.true (offset_some _ c.in_ok-end.ensures.value c.at.ensures) c.if-end-last.false
    (rw c.span_limit-limit.ensures at c.if-limit-end.false) few c.still_narrow-narrow.ensures
