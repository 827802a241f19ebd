-- `labels::Codes::walk` meets its contract: next is what is expected behind the first i edges, and all of them read. Assumes nothing.
use mathlib.Core.Path.{◌≡◌, refl, sym, ap, ◌∙◌}
use mathlib.Core.List.{[], ◌∷◌}
use Prim.Native.Nat.{ℕ}
use native.Mathlib.Omega.{arith}
use Rattle.std.proofs.lemmas.Result.{err_from_is_err_and}
use Rattle.labels.specs.Reading.{coded_in, next_back}
use Rattle.labels.proofs.Walk.{next_more, walk_stops, walk_ends}
use Rattle.labels.proofs.Codes.walk.Goals as goal

pub loop-i-init : goal.loop-i-init
unfolding next_back
loop-i-init c = refl

pub loop-i-preserved : goal.loop-i-preserved
loop-i-preserved c = let a = c.args in
    let d = coded_in a.self in
    next_more d a.start c.loop-i.i c.loop-i.next _ c.loop-i.invariant (sym c.in_ok-label.ensures) ∙ ap (λ (n : ℕ). n ∷ []) (sym c.after-next.ensures)

pub returns-in_err-label : goal.returns-in_err-label
returns-in_err-label c = let a = c.args in
    let d = coded_in a.self in
    let p = err_from_is_err_and c.from_residual.result c.from_residual.ensures.1 in
    rw p.1 (walk_stops d a.start c.loop-i.i c.loop-i.next a.k c.loop-i-test.true c.loop-i.invariant (sym c.in_err-label.ensures))

pub returns : goal.returns
returns c = let a = c.args in
    let d = coded_in a.self in
    let e : c.loop-i.i ≡ a.k = omega arith in
    c.read-2.ensures ∙ walk_ends d a.start a.k c.loop-i.next (rw e at c.loop-i.invariant)
