-- `label_fields::fields::clear_table` meets its contract: the front is filled. Assumes nothing.
use mathlib.Core.Path.{◌≡◌, refl, sym, ap, ◌∙◌, subst}
use mathlib.Core.List.{List, [], ◌∷◌, ◌++◌}
use Prim.Native.Nat.{ℕ, zero, suc}
use native.Mathlib.Numerals.{add-one}
use lib.ListN.{drop, replicate, replicate-append-replicate}
use lib.Seq.{length-take-le}
use Rattle.columns.specs.Lists.{tab}
use Rattle.columns.specs.Columns.{over}
use Rattle.columns.proofs.Lists.{tab_more, tab-length}
use Rattle.label_fields.specs.Marks.{uncoded}
use Rattle.label_fields.proofs.fields.clear_table.Goals as goal

uncoded_is : (n : ℕ) → replicate n 32767 ≡ uncoded n
unfolding tab
uncoded_is zero = refl
uncoded_is (suc n) = subst (λ m. replicate m 32767 ≡ uncoded m) (add-one n) (sym (replicate-append-replicate {A = ℕ} n 1 32767) ∙ ap (λ (z : List ℕ). z ++ (32767 ∷ [])) (uncoded_is n) ∙ sym (tab_more (λ i. 32767) n))

pub returns : goal.returns
unfolding over
returns c = let a = c.args in
    let n = a.n in
    rw (tab-length {A = ℕ} (λ i. 32767) n) (ap (λ (z : List ℕ). z ++ drop n a.table.now) (c.fill.ensures.after (λ y e. e) ∙ rw (length-take-le n a.table.now c.requires) (uncoded_is n)))
