-- `ask_field::first_weak` meets its contract: by the rows of the object's weak pairs. Assumes nothing.
use mathlib.Core.Path.{sym, ap, ◌∙◌}
use mathlib.Core.List.{List}
use Prim.Native.Nat.{ℕ}
use native.Mathlib.Omega.{arith}
use Rattle.std.proofs.lemmas.Result.{err_from_is_err_and}
use Rattle.rules.proofs.Types.{read_refuses}
use Rattle.ask_field.specs.Sought.{first_weak}
use Rattle.ask_span.proofs.Spans.{weak_inside}
use Rattle.ask_field.proofs.Fields.{weak_refused, weak-empty, weak-first}
use Rattle.ask_field.proofs.first_weak.Goals as goal

pub returns-in_err-at : goal.returns-in_err-at
returns-in_err-at c = let p = err_from_is_err_and c.from_residual.result c.from_residual.ensures.1 in
    rw (p.1, p.2) (weak_refused _ c.in_err-at.ensures (read_refuses c.in_err-at.field-0.0))

pub returns-then-at : goal.returns-then-at
returns-then-at c = sym (weak-empty _ _ _ c.if-at.true) ∙ ap (λ (s : List ℕ). first_weak s c.args.weak_to.now) c.in_ok-at.ensures

pub bounds-weak_to-at : goal.bounds-weak_to-at
bounds-weak_to-at c = omega (arith, weak_inside _ _ _ _ (sym c.in_ok-at.ensures))

pub offset_bounds-weak_to-at : goal.offset_bounds-weak_to-at
offset_bounds-weak_to-at c = omega (arith, weak_inside _ _ _ _ (sym c.in_ok-at.ensures))

pub returns : goal.returns
returns c = sym (weak-first _ _ _ c.if-at.false) ∙ ap (λ (s : List ℕ). first_weak s c.args.weak_to.now) c.in_ok-at.ensures
