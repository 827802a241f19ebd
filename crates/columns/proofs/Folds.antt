-- Numbers taken into a column one by one: one more of them, and the column's length where each step keeps it. Assumes nothing.
use Prim.Native.Nat.{ℕ, ◌+◌, ◌<◌}
use native.Mathlib.Numerals.{add-one}
use mathlib.Core.Path.{◌≡◌, refl, ◌∙◌}
use mathlib.Core.List.{List, [], ◌∷◌, foldl, foldl-append}
use lib.ListN.{length, take}
use lib.Seq.{take-suc}
use Rattle.columns.specs.Lists.{◌!◌}

module _ (step : List ℕ → ℕ → List ℕ) where
  pub fold_more : (t xs : List ℕ) (i : ℕ) → i < length xs → foldl step t (take (i + 1) xs) ≡ step (foldl step t (take i xs)) (xs ! i)
  fold_more t xs i h = rw (add-one i, take-suc xs i 0 h) (foldl-append step t (take i xs) (xs ! i ∷ []))

  pub fold-length : ((t : List ℕ) (x : ℕ) → length (step t x) ≡ length t) → (t xs : List ℕ) → length (foldl step t xs) ≡ length t
  fold-length keeps t [] = refl
  fold-length keeps t (x ∷ xs) = fold-length keeps (step t x) xs ∙ keeps t x
