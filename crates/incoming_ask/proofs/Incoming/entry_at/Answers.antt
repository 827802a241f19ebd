-- `incoming_ask::Incoming::entry_at` meets its contract: by the span. Assumes nothing.
use Rattle.std.proofs.Common.{sym, arith}
use Rattle.ask_span.proofs.Spans.{span_inside, span_exists}
use Rattle.incoming_ask.proofs.Incoming.entry_at.Goals as goal

pub overflow_sub-objects : goal.overflow_sub-objects
overflow_sub-objects c = omega (arith, span_exists _ _ _ _ (sym c.in_ok-at.ensures))

pub stands_at-requires : goal.stands_at-requires
stands_at-requires c = let it = span_inside _ _ _ _ (sym c.in_ok-at.ensures) in (it.ordered, it.coded, it.targeted)
