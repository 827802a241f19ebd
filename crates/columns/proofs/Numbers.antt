-- A column of any type of numbers, and the numbers that it holds. Assumes nothing.
use Rattle.std.proofs.Common.{ℕ, ◌<◌, ◌≡◌, List, length, map, get_or, ap, ◌∙◌, sym}
use Rattle.std.proofs.lemmas.List.{get_or-map, length-map}
use Rattle.columns.specs.Lists.{◌!◌}

module _ {T : Type 0} (number : T → ℕ) (xs : List T) {ns : List ℕ} (e : ns ≡ map number xs) where
  pub numbers_long : length ns ≡ length xs
  numbers_long = ap length e ∙ length-map xs number

  pub numbers-at : (i : ℕ) (x : T) → i < length ns → x ≡ get_or xs i x → ns ! i ≡ number x
  numbers-at i x l f = rw e (get_or-map number xs i x 0 (rw (← numbers_long) l) ∙ ap number (sym f))
