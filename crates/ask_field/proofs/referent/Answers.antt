-- `ask_field::referent` meets its contract: by the field, then the weak pairs. Assumes nothing.
use mathlib.Core.Path.{sym, ap, ◌∙◌}
use mathlib.Core.List.{◌∷◌}
use Prim.Native.Nat.{ℕ}
use Rattle.std.specs.Prelude.{Option}
use Rattle.std.proofs.lemmas.Result.{err_from_is_err_and}
use Rattle.rules.specs.Types.{found_values}
use Rattle.rules.specs.Questions.{Columns}
use Rattle.rules.proofs.Types.{read_refuses}
use Rattle.ask_span.specs.Graph.{graph_in}
use Rattle.ask_field.specs.Sought.{field_found}
use Rattle.ask_field.proofs.Fields.{referent-field, referent-weak, referent_refused}
use Rattle.ask_field.proofs.referent.Goals as goal

pub returns-in_err-t : goal.returns-in_err-t
unfolding field_found
returns-in_err-t c = let p = err_from_is_err_and c.from_residual.result c.from_residual.ensures.1 in
    rw (p.1, p.2) (referent_refused (graph_in c.args.graph) _ _ (c.in_err-t.ensures ∙ ap (λ (k : Columns). field_found k c.args.object c.args.label) c.strong.ensures) (read_refuses c.in_err-t.field-0.0))

pub returns-in-Some : goal.returns-in-Some
unfolding field_found
returns-in-Some c = referent-field (graph_in c.args.graph) _ _ (sym (ap (λ (t : Option ℕ). 0 ∷ found_values t) c.in-Some.is) ∙ c.in_ok-t.ensures ∙ ap (λ (k : Columns). field_found k c.args.object c.args.label) c.strong.ensures)

pub returns-in-None : goal.returns-in-None
unfolding field_found
returns-in-None c = referent-weak (graph_in c.args.graph) _ _ (sym (ap (λ (t : Option ℕ). 0 ∷ found_values t) c.in-None.is) ∙ c.in_ok-t.ensures ∙ ap (λ (k : Columns). field_found k c.args.object c.args.label) c.strong.ensures) c.first_weak.ensures
