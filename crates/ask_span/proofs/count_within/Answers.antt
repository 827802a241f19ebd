-- `ask_span::count_within` meets its contract: by the span. Assumes nothing.
use mathlib.Core.Path.{sym, ap}
use Rattle.std.proofs.lemmas.Result.{err_from_is_err_and}
use Rattle.columns.specs.Columns.{accepts}
use Rattle.rules.proofs.Types.{read_refuses}
use Rattle.ask_span.specs.Reading.{count_of}
use Rattle.ask_span.proofs.Spans.{span_inside, count_refused}
use Rattle.ask_span.proofs.count_within.Goals as goal

pub overflow_sub-result : goal.overflow_sub-result
overflow_sub-result c = (span_inside _ _ _ _ (sym c.in_ok-at.ensures)).ordered

pub returns-in_err-at : goal.returns-in_err-at
returns-in_err-at c = let p = err_from_is_err_and c.from_residual.result c.from_residual.ensures.1 in
    rw (p.1, p.2) (count_refused _ c.in_err-at.ensures (read_refuses c.in_err-at.field-0.0))

pub returns : goal.returns
unfolding count_of accepts
returns c = ap count_of c.in_ok-at.ensures
