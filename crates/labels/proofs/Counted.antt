-- Counting the numbers of a list's front that meet a test, by the list and by place. Assumes nothing.
use Prim.Native.Nat.{ℕ, zero, suc, ◌+◌, ◌≤◌}
use native.Mathlib.Numerals.{add-one}
use native.Mathlib.Omega.{arith}
use mathlib.Core.Path.{◌≡◌, refl, ap, ◌∙◌, subst}
use mathlib.Core.Bool.{Bool, true, false}
use mathlib.Core.List.{List}
use lib.ListN.{length, take}
use Rattle.std.specs.List.{count_by}
use Rattle.std.proofs.lemmas.List.Sums.{count_by_more_yes, count_by_more_no}
use Rattle.columns.specs.Lists.{◌!◌, places}
use Rattle.columns.proofs.Lists.{count-hit, count_miss}

pub count-places : (p : ℕ → Bool) (xs : List ℕ) (n : ℕ) → n ≤ length xs → count_by p (take n xs) ≡ length (places (λ i. p (xs ! i)) n)
unfolding places
count-places p xs zero l = refl
count-places p xs (suc n) l = subst (λ m. count_by p (take m xs) ≡ length (places (λ i. p (xs ! i)) m)) (add-one n) (go (p (xs ! n)) refl (count-places p xs n (omega arith)))
  where
    go : (b : Bool) → p (xs ! n) ≡ b → count_by p (take n xs) ≡ length (places (λ i. p (xs ! i)) n) → count_by p (take (n + 1) xs) ≡ length (places (λ i. p (xs ! i)) (n + 1))
    go true h e = count_by_more_yes p xs n 0 (omega arith) h ∙ ap (λ (k : ℕ). k + 1) e ∙ count-hit (λ i. p (xs ! i)) n refl h
    go false h e = count_by_more_no p xs n 0 (omega arith) h ∙ e ∙ count_miss (λ i. p (xs ! i)) n refl h
