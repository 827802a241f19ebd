-- `ask_short_field::found` meets its contract: by the span, and by what was sought. Assumes nothing.
use mathlib.Core.Path.{◌≡◌, sym, ◌∙◌}
use mathlib.Core.List.{[]}
use native.Mathlib.Omega.{arith}
use borrow.Author.Rules.{rules}
use Rattle.std.proofs.lemmas.Result.{err_from_is_err_and}
use Rattle.rules.proofs.Types.{read_refuses}
use Rattle.labels.specs.Reading.{read_says}
use Rattle.ask_span.proofs.Spans.{span_inside}
use Rattle.ask_field.proofs.Fields.{sought_within, field_is, field_refused}
use Rattle.ask_short_field.proofs.Plain.{unread-says}
use Rattle.ask_short_field.proofs.found.Goals as goal

pub returns-in_err-at : goal.returns-in_err-at
returns-in_err-at c = let p = err_from_is_err_and c.from_residual.result c.from_residual.ensures.1 in
    rw (p.1, p.2) (field_refused _ _ _ c.in_err-at.ensures (read_refuses c.in_err-at.field-0.0))

pub overflow_sub-at : goal.overflow_sub-at
overflow_sub-at c = (span_inside _ _ _ _ (sym c.in_ok-at.ensures)).ordered

pub seek-sought-requires-clause-count_in_bounds : goal.seek-sought-requires-clause-count_in_bounds
seek-sought-requires-clause-count_in_bounds c = let i = span_inside _ _ _ _ (sym c.in_ok-at.ensures) in omega (arith, i.ordered, i.coded)

pub sought_answer-requires : goal.sought_answer-requires
sought_answer-requires c = let i = span_inside _ _ _ _ (sym c.in_ok-at.ensures) in
    let found = c.seek-sought.ensures (record { at = []; label = [] }) (λ e r u p. let none : read_says r ≡ [] = search rules in none ∙ unread-says _ _ _ u) in
    λ k h. omega (arith, i.ordered, i.targeted, sought_within _ _ _ _ (sym h ∙ found))

pub returns : goal.returns
returns c =
    let found = c.seek-sought.ensures (record { at = []; label = [] }) (λ e r u p. let none : read_says r ≡ [] = search rules in none ∙ unread-says _ _ _ u) in
    c.sought_answer.ensures ∙ field_is _ _ _ (sym c.in_ok-at.ensures) found
