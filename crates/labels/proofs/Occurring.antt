-- The labels that occur rise, and what holds of names and the loader holds of each. Assumes nothing.
use Prim.Native.Nat.{ℕ, zero, suc, ◌≤◌, ◌<◌}
use native.Mathlib.Omega.{arith}
use mathlib.Core.Path.{◌≡◌, refl, sym, ap, ap₂, ◌∙◌}
use mathlib.Core.Logic.{⊎_elim}
use mathlib.Core.Bool.{Bool, true, false, cond}
use mathlib.Core.List.{List, [], ◌∷◌, ◌++◌, append-nil}
use lib.ListN.{length, take, length-append, get_or-append}
use lib.Seq.{get_or_at, take-suc}
use Rattle.columns.specs.Lists.{◌!◌, tab, places, find, found}
use Rattle.columns.specs.Ranks.{Rises}
use Rattle.columns.proofs.Lists.{lt_or_ge, places_rise, places-below}
use Rattle.columns.proofs.Every.{Every, every_append, every_index}
use Rattle.rules.specs.Types.{loader_label}
use Rattle.rules.specs.Labels.{occurring}

-- the labels that occur rise, and none is above the loader's
module _ (names : ℕ) (labels : List ℕ) (few : names ≤ loader_label) where
  abbrev t : ℕ → Bool
  t l = found (find labels l)

  snoc_rises : (xs : List ℕ) → Rises xs → ((i : ℕ) → i < length xs → xs ! i < loader_label) → Rises (xs ++ (loader_label ∷ []))
  snoc_rises xs rise low p q h l =
      ⊎_elim
      (λ m.
      let m' : p < length xs = omega arith in
      rw (get_or-append xs (loader_label ∷ []) 0 q m, get_or-append xs (loader_label ∷ []) 0 p m') (rise p q h m))
      (λ m.
      let e : length xs ≡ q = omega (arith, length-append xs (loader_label ∷ [])) in
      let m' : p < length xs = omega arith in
      rw (get_or_at xs loader_label [] 0 q e, get_or-append xs (loader_label ∷ []) 0 p m') (low p m'))
      (lt_or_ge q (length xs))

  below : (i : ℕ) → i < length (places t names) → places t names ! i < loader_label
  below i l = omega (arith, places-below t names i l)

  pub occurring-rises : Rises (occurring names labels)
  unfolding occurring
  occurring-rises = go (t loader_label)
    where
      go : (b : Bool) → Rises (places t names ++ cond b (loader_label ∷ []) [])
      go true = snoc_rises (places t names) (places_rise t names) below
      go false = rw (append-nil (places t names)) (places_rise t names)

  pub every-occurring : (P : ℕ → Type 0) → P loader_label → ((l : ℕ) → l < names → P l) → Every P (occurring names labels)
  unfolding occurring
  every-occurring P loader name =
      every_append P (places t names) (cond (t loader_label) (loader_label ∷ []) []) (every_index P (places t names) (λ i l. name (places t names ! i) (places-below t names i l))) (go (t loader_label))
    where
      go : (b : Bool) → Every P (cond b (loader_label ∷ []) [])
      go true = (loader, tt)
      go false = tt

-- the front of a list, number by number
pub tab-take : (g : ℕ → ℕ) (xs : List ℕ) (n : ℕ) → n ≤ length xs → ((i : ℕ) → i < n → g i ≡ xs ! i) → tab g n ≡ take n xs
unfolding tab
tab-take g xs zero l h = refl
tab-take g xs (suc n) l h =
    ap₂ ◌++◌ (tab-take g xs n (omega arith) (λ i m. h i (omega arith))) (ap (λ (v : ℕ). v ∷ []) (h n (omega arith)))
    ∙ sym (take-suc xs n 0 (omega arith))
