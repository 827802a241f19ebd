-- The lowest place at which one of two tests holds is the lower of theirs. Assumes nothing.
use mathlib.Core.Path.{◌≡◌, refl, ap, ◌∙◌}
use mathlib.Core.Logic.{⊎_elim}
use mathlib.Core.Bool.{Bool, true, false}
use mathlib.Core.List.{List, [], ◌∷◌, ◌++◌}
use Prim.Native.Nat.{ℕ, ◌≤◌, ◌<◌}
use native.Mathlib.Omega.{arith}
use lib.ListN.{length, get_or}
use Rattle.columns.specs.Lists.{◌!◌, places, first_place, any_of}
use Rattle.columns.proofs.Lists.{lt_or_ge, places-below, places-at}
use Rattle.columns.proofs.Tests.{no_places, or_true}
use Rattle.columns.proofs.Every.{every-places, every-at}
use Rattle.columns.proofs.First.{Searching, searching_hit, searching_end}

-- a place at which a test holds, and none before it, is the lowest
pub first_is : (t : ℕ → Bool) (n i : ℕ) → i ≤ n → ((j : ℕ) → j < i → t j ≡ false) → (i < n → t i ≡ true) → i ≡ first_place t n
first_is t n i l below here = ⊎_elim (λ g. searching_hit t n s g (here g)) (searching_end t n s) (lt_or_ge i n)
  where
    s : Searching t n i
    s = record { within = l; none = no_places t i below }

module _ (t : ℕ → Bool) (n : ℕ) where
  pub first_within : first_place t n ≤ n
  first_within = go (places t n) (places-below t n)
    where
      go : (ps : List ℕ) → ((k : ℕ) → k < length ps → ps ! k < n) → get_or ps 0 n ≤ n
      go [] below = omega arith
      go (p ∷ ps) below = omega (arith, below 0 (omega arith))

  pub first_holds : first_place t n < n → t (first_place t n) ≡ true
  first_holds l = go (places t n) (λ k h. every-at (λ i. (i < n) × (t i ≡ true)) n (places t n) (every-places t n) k h) l
    where
      go : (ps : List ℕ) → ((k : ℕ) → k < length ps → (get_or ps k n < n) × (t (get_or ps k n) ≡ true)) → get_or ps 0 n < n → t (get_or ps 0 n) ≡ true
      go [] h l = absurd (omega arith)
      go (p ∷ ps) h l = (h 0 (omega arith)).1

  pub first-before : (j : ℕ) → j < first_place t n → t j ≡ false
  first-before j l = go (t j) refl
    where
      head : (ps rest : List ℕ) → ((k : ℕ) → k < length ps → ps ! k < j) → j < get_or (ps ++ (j ∷ rest)) 0 n → ⊥
      head [] rest below l = omega arith
      head (p ∷ ps) rest below l = omega (arith, below 0 (omega arith))

      go : (b : Bool) → t j ≡ b → b ≡ false
      go false e = refl
      go true e = let r = places-at t j n e (omega (arith, first_within)) in absurd (head (places t j) r.0 (places-below t j) (rw r.1 at l))

module _ (s t u : ℕ → Bool) (n : ℕ) (both : (i : ℕ) → u i ≡ any_of (s i ∷ t i ∷ [])) {a b : ℕ} (ea : a ≡ first_place s n) (eb : b ≡ first_place t n) where
  neither : (i : ℕ) → i < a → i < b → u i ≡ false
  unfolding any_of
  neither i l m = both i ∙ rw (first-before s n i (omega arith), first-before t n i (omega arith))

  pub either_first : a < b → a ≡ first_place u n
  unfolding any_of
  either_first l =
      first_is u n a (omega (arith, first_within s n)) (λ j k. neither j k (omega arith))
      (λ k. both a ∙ rw (ap s ea ∙ first_holds s n (omega arith)))

  pub either_second : b ≤ a → b ≡ first_place u n
  unfolding any_of
  either_second l =
      first_is u n b (omega (arith, first_within t n)) (λ j k. neither j (omega arith) k)
      (λ k. both b ∙ rw (ap t eb ∙ first_holds t n (omega arith)) (or_true (s b)))
