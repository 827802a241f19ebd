-- `ask_short::Lean::label_of` meets its contract: by the span, and the first edge to the target. Assumes nothing.
use mathlib.Core.Path.{sym, ◌∙◌}
use native.Mathlib.Omega.{arith}
use Rattle.std.proofs.lemmas.Result.{err_from_is_err_and}
use Rattle.rules.proofs.Types.{read_refuses}
use Rattle.ask_span.proofs.Spans.{span_inside}
use Rattle.ask_short.proofs.Plain.{late_plain}
use Rattle.ask_short.proofs.Found.{nothing-found, label-found, refused_found}
use Rattle.ask_short.proofs.Lean.label_of.Goals as goal

pub overflow_sub-count : goal.overflow_sub-count
overflow_sub-count c = (span_inside _ _ _ _ (sym c.in_ok-at.ensures)).ordered

pub returns-in_err-at : goal.returns-in_err-at
returns-in_err-at c = let p = err_from_is_err_and c.from_residual.result c.from_residual.ensures.1 in
    rw (p.1, p.2) (refused_found _ _ _ c.in_err-at.ensures (read_refuses c.in_err-at.field-0.0))

pub first_to-edge-requires : goal.first_to-edge-requires
first_to-edge-requires c = let i = span_inside _ _ _ _ (sym c.in_ok-at.ensures) in omega (arith, i.ordered, i.targeted)

pub returns-then-count-edge : goal.returns-then-count-edge
returns-then-count-edge c = nothing-found _ _ _ (sym c.in_ok-at.ensures) c.first_to-edge.ensures c.if-count-edge.true

pub exact-label-requires : goal.exact-label-requires
exact-label-requires c = let i = span_inside _ _ _ _ (sym c.in_ok-at.ensures) in omega (arith, i.ordered, i.coded)

pub returns : goal.returns
returns c = label-found _ _ _ (sym c.in_ok-at.ensures) c.first_to-edge.ensures c.if-count-edge.false (c.exact-label.ensures ∙ late_plain _ _ _ _) c.target_answer.ensures
