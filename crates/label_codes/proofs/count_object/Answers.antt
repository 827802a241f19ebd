-- `label_codes::count_object` meets its contract: rows is the number of escapes among the codes of the first i labels. Assumes nothing.
use mathlib.Core.Path.{◌≡◌, refl, ap, ◌∙◌}
use mathlib.Core.List.{[], ◌∷◌}
use Prim.Native.Nat.{ℕ, ◌+◌, ◌≤◌}
use native.Mathlib.Omega.{arith}
use native.Mathlib.Numerals.{add-one}
use lib.ListN.{length}
use Rattle.columns.specs.Lists.{◌!◌, tab}
use Rattle.columns.proofs.Lists.{tab_more, tab-length}
use Rattle.rules.specs.Labels.{after}
use Rattle.labels.specs.Coding.{code_by, code_in, codes_by, escapes_in}
use Rattle.labels.proofs.Escapes.{escapes_append, escapes_one, escapes_few}
use borrow.Author.Rules.{rules}
use Rattle.label_codes.proofs.count_object.Goals as goal

pub loop-label-init : goal.loop-label-init
unfolding tab escapes_in
loop-label-init c = (refl, search rules, refl)

pub loop-label-preserved : goal.loop-label-preserved
loop-label-preserved c =
    let more : let a = c.args in let g = code_in a.names a.table.now a.labels.now in c.loop-label.rows + c.rows_of-rows.result ≡ escapes_in (tab g (c.loop-label.label-index + 1)) =
    let a = c.args in
    let w = c.loop-label.invariant in
    let i = c.loop-label.label-index in
    let ls = a.labels.now in
    let g = code_in a.names a.table.now ls in
    let e : c.code_of.result ≡ g i = c.code_of.ensures ∙ ap (λ (n : ℕ). code_by a.names a.table.now n (ls ! i)) w.0 in
    rw (tab_more g i, ← e) (omega (arith, escapes_append (tab g i) (c.code_of.result ∷ []), escapes_one c.code_of.result, c.rows_of-rows.ensures)) in
    let few : c.loop-label.rows + c.rows_of-rows.result ≤ c.loop-label.label-index + 1 =
    let a = c.args in
    let g = code_in a.names a.table.now a.labels.now in
    omega (arith, more, escapes_few (tab g (c.loop-label.label-index + 1)), tab-length g (c.loop-label.label-index + 1)) in
    let ls = c.args.labels.now in (
      rw (add-one c.loop-label.label-index) (c.after-next.ensures ∙ ap (λ (n : ℕ). after n (ls ! c.loop-label.label-index)) c.loop-label.invariant.0),
      few,
      more,
    )

pub returns : goal.returns
unfolding codes_by
returns c = let a = c.args in
    let ls = a.labels.now in
    let e : c.loop-label.label-index ≡ length ls = omega arith in
    c.loop-label.invariant.2 ∙ ap (λ (n : ℕ). escapes_in (tab (code_in a.names a.table.now ls) n)) e
