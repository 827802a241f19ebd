-- How many of a list's numbers pass a test is how many places there are at which it holds. Assumes nothing.
use Rattle.std.proofs.Common.{◌≡◌, refl, sym, ap, subst, ◌∙◌, ℕ, zero, suc, ◌+◌, ◌≤◌, ◌<◌, Bool, true, false, List, length, take, add-one, arith, count_by}
use Rattle.std.proofs.lemmas.List.Sums.{count_by_more_yes, count_by_more_no}
use lib.Seq.{take_all}
use Rattle.columns.specs.Lists.{◌!◌, places}
use Rattle.columns.proofs.Lists.{count-hit, count_miss}

module _ (p : ℕ → Bool) (xs : List ℕ) where
  counted_more : (n : ℕ) (b : Bool) → n < length xs → p (xs ! n) ≡ b → count_by p (take n xs) ≡ length (places (λ i. p (xs ! i)) n)
      → count_by p (take (n + 1) xs) ≡ length (places (λ i. p (xs ! i)) (n + 1))
  counted_more n true l e k = count_by_more_yes p xs n 0 l e ∙ count-hit (λ i. p (xs ! i)) n k e
  counted_more n false l e k = count_by_more_no p xs n 0 l e ∙ count_miss (λ i. p (xs ! i)) n k e

  counted_to : (n : ℕ) → n ≤ length xs → count_by p (take n xs) ≡ length (places (λ i. p (xs ! i)) n)
  unfolding places
  counted_to zero h = refl
  counted_to (suc n) h =
      let Counted : ℕ → Type 0 = λ m. count_by p (take m xs) ≡ length (places (λ i. p (xs ! i)) m) in
      subst Counted (add-one n) (counted_more n (p (xs ! n)) (omega arith) refl (counted_to n (omega arith)))

  pub counted_places : count_by p xs ≡ length (places (λ i. p (xs ! i)) (length xs))
  counted_places = ap (count_by p) (sym (take_all (length xs) xs (omega arith))) ∙ counted_to (length xs) (omega arith)
