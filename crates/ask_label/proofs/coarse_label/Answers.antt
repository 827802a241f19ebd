-- `ask_label::coarse_label` meets its contract: by the span, and whether the object has the edge. Assumes nothing.
use mathlib.Core.Path.{sym, ap, ◌∙◌}
use mathlib.Core.List.{List}
use Prim.Native.Nat.{ℕ}
use native.Mathlib.Omega.{arith}
use Rattle.std.proofs.lemmas.Result.{err_from_is_err_and}
use Rattle.rules.proofs.Types.{read_refuses}
use Rattle.ask_label.specs.Labelled.{edge_asked}
use Rattle.ask_label.proofs.Labels.{edge-coded, coarse_is, coarse_refused}
use Rattle.ask_label.proofs.coarse_label.Goals as goal

pub overflow_add-at : goal.overflow_add-at
overflow_add-at c = let a = c.args in
    omega (arith, edge-coded _ _ _ _ _ (ap (λ (s : List ℕ). edge_asked s a.edge) (sym c.span-whole.ensures) ∙ sym c.in_ok-at.ensures))

pub returns-in_err-at : goal.returns-in_err-at
returns-in_err-at c = let a = c.args in
    let p = err_from_is_err_and c.from_residual.result c.from_residual.ensures.1 in
    rw (p.1, p.2) (coarse_refused _ _ _ (c.in_err-at.ensures ∙ ap (λ (s : List ℕ). edge_asked s a.edge) c.span-whole.ensures) (read_refuses c.in_err-at.field-0.0))

pub coarse-label-requires : goal.coarse-label-requires
coarse-label-requires c = let a = c.args in
    edge-coded _ _ _ _ _ (ap (λ (s : List ℕ). edge_asked s a.edge) (sym c.span-whole.ensures) ∙ sym c.in_ok-at.ensures)

pub returns : goal.returns
returns c = let a = c.args in
    coarse_is _ _ _ (ap (λ (s : List ℕ). edge_asked s a.edge) (sym c.span-whole.ensures) ∙ sym c.in_ok-at.ensures) c.coarse-label.ensures c.label_answer.ensures
