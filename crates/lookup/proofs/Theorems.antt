-- What the contracts come to: an answer is the definition's, both lookups agree, and no guess has an outcome of its own. Assumes nothing.
use mathlib.Core.Path.{◌≡◌, refl, sym, ap, ◌∙◌}
use mathlib.Core.List.{List}
use mathlib.Core.Logic.{⊎_elim}
use mathlib.Core.Option.{Option, none, some}
use Prim.Native.Nat.{ℕ, ◌≤◌, ◌<◌}
use native.Mathlib.Omega.{arith}
use lib.ListN.{length}
use Rattle.columns.specs.Lists.{◌!◌, find}
use Rattle.columns.specs.Ranks.{Rises, rank, Ranked}
use Rattle.columns.proofs.Lists.{lt_or_ge}
use Rattle.columns.proofs.Ranks.{rank_below, rank_above}
use Rattle.columns.proofs.Search.{find_at}
use Rattle.std.specs.Prelude.{Result, Ok, Err}
use Rattle.lookup.specs.Lookup.{placed, lookup_of, Sought}

-- AN ANSWER. A place is given exactly where the definition finds it; of a missing id, its rank.
found_of : Result ℕ ℕ → Option ℕ
found_of (Ok i) = some i
found_of (Err p) = none

found_of_placed : (f : Option ℕ) (p : ℕ) → found_of (placed f p) ≡ f
unfolding found_of
found_of_placed none p = refl
found_of_placed (some i) p = refl

place_of : Result ℕ ℕ → ℕ
place_of (Ok i) = i
place_of (Err p) = p

module _ (xs : List ℕ) (x : ℕ) where
  pub found_at : {i : ℕ} → find xs x ≡ some i → lookup_of xs x ≡ Ok i
  unfolding lookup_of
  found_at e = rw e

  answer-found : {r : Result ℕ ℕ} → lookup_of xs x ≡ r → find xs x ≡ found_of r
  unfolding lookup_of
  answer-found e = sym (found_of_placed (find xs x) (rank xs x)) ∙ ap found_of e

  pub at-found : {i : ℕ} → lookup_of xs x ≡ Ok i → find xs x ≡ some i
  unfolding found_of
  at-found e = answer-found e

  pub missing-found : {p : ℕ} → lookup_of xs x ≡ Err p → find xs x ≡ none
  unfolding found_of
  missing-found e = answer-found e

  pub missing-rank : {p : ℕ} → lookup_of xs x ≡ Err p → p ≡ rank xs x
  unfolding lookup_of place_of
  missing-rank e = sym (ap place_of (rw (missing-found e) at e))

  -- On ids that rise it would stand there: all before the place are below it, and all from the place on above.
  pub missing-before : {p : ℕ} → lookup_of xs x ≡ Err p → Rises xs → (i : ℕ) → i < p → xs ! i < x
  missing-before e rise i l = rank_below xs x rise i (omega (arith, missing-rank e))

  pub missing-after : {p : ℕ} → lookup_of xs x ≡ Err p → Rises xs → (i : ℕ) → p ≤ i → i < length xs → x < xs ! i
  missing-after e rise i g l = ⊎_elim (λ h. h) (λ h. absurd (equal (omega (arith, rank_above xs x rise i (omega (arith, missing-rank e)) l)))) (lt_or_ge x (xs ! i))
    where
      equal : xs ! i ≡ x → ⊥
      equal s = let t : none ≡ some i = sym (missing-found e) ∙ find_at xs x i rise l s in let z : ◌≡◌ {A = ℕ} 0 1 = cc in omega arith

-- ONE OUTCOME. On ids that rise both lookups give the same answer, and so do any two guesses.
module _ {xs : List ℕ} {x : ℕ} (rise : Rises xs) where
  pub lookups_agree : {r r' : Result ℕ ℕ} → r ≡ lookup_of xs x → Sought xs x r' → r ≡ r'
  lookups_agree e s = e ∙ sym (s.sought rise)

  pub one_found : {r r' : Result ℕ ℕ} → Sought xs x r → Sought xs x r' → r ≡ r'
  one_found s s' = lookups_agree (s.sought rise) s'

  pub one_rank : {r r' : ℕ} → Ranked xs x r → Ranked xs x r' → r ≡ r'
  one_rank s s' = s.ranked rise ∙ sym (s'.ranked rise)
