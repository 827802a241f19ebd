-- `incoming_read::spans` meets its contract: not too many objects, and the first offset; the rest is the pass. Assumes nothing.
use Rattle.incoming_read.proofs.Spanning.{offset_some, offset_none, spans_many, spans_unstarted}
use Rattle.incoming_read.proofs.spans.Goals as goal

pub returns-then-graph-gt67108865 : goal.returns-then-graph-gt67108865
returns-then-graph-gt67108865 c = spans_many _ _ _ c.if-graph-gt67108865.true

pub spans_from-requires : goal.spans_from-requires
spans_from-requires c = record { in_bounds = (c.requires, c.if-graph-gt67108865.false); long_value_value = offset_some _ c.in_ok-start.ensures.value c.at.ensures }

pub returns-in_err-start : goal.returns-in_err-start
returns-in_err-start c = rw c.from_residual.ensures (spans_unstarted _ _ _ c.requires (offset_none _ c.in_err-start.ensures.value c.at.ensures))
