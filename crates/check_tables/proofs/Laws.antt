-- Laws of lists that are general: the first place that passes a test, and a column in which no number falls. Assumes nothing.
use mathlib.Core.Path.{◌≡◌, refl, sym, ap, subst, ◌∙◌}
use mathlib.Core.Bool.{Bool, true, false, ◌||◌}
use mathlib.Core.List.{List, [], ◌∷◌, map}
use mathlib.Core.Logic.{⊎_elim}
use Prim.Native.Nat.{ℕ, zero, suc, ◌+◌, ◌≤◌, ◌<◌}
use native.Mathlib.Omega.{arith}
use borrow.Author.Tests.{lt-ltb, le-ltb, leb-false}
use lib.ListN.{length, get_or}
use Rattle.std.proofs.Common.{position, add-zero, zero-add}
use Rattle.std.specs.List.{position_or_len, range_with_len, list_any}
use Rattle.std.specs.Option.{unwrap_or}
use Rattle.std.proofs.lemmas.List.Sums.{fails_before_first, passes_at_first}
use Rattle.std.proofs.lemmas.List.FromFn.{length-range_with_len, get_or-range_with_len}
use Rattle.columns.specs.Lists.{◌!◌, first_place, any, any_of}
use Rattle.columns.specs.Ranks.{Rises}
use Rattle.columns.proofs.First.{Searching, searching_end}
use Rattle.columns.proofs.Lists.{lt_or_ge, first-hit, first_none}
use Rattle.columns.proofs.Tests.{no_places, or_none, second_fails}
use Rattle.columns.proofs.Ranks.{steps_rise}
use Rattle.rules.specs.Verdict.{falls}

pub or_assoc : (a b c : Bool) → (a || b) || c ≡ a || (b || c)
or_assoc true b c = refl
or_assoc false b c = refl

-- `position` over a list, and over places that are counted from 0, finds the first place at which the test holds
pub first_position : {A : Type 0} (t : ℕ → Bool) (p : A → Bool) (xs : List A) (d : A) → ((i : ℕ) → i < length xs → p (get_or xs i d) ≡ t i)
    → unwrap_or (position p xs) (length xs) ≡ first_place t (length xs)
first_position t p xs d same =
    let k = position_or_len p xs in
    let none : (i : ℕ) → i < k → i < length xs → t i ≡ false = λ i h l. sym (same i l) ∙ fails_before_first p xs i d h in
    ⊎_elim
    (λ (l : k < length xs).
    rw (lt-ltb _ _ l, first-hit t k (length xs) (no_places t k (λ i h. none i h (omega arith))) (sym (same k l) ∙ passes_at_first p xs d l) l))
    (λ (l : length xs ≤ k). rw (le-ltb _ _ l, no_places t (length xs) (λ i h. none i (omega arith) h)))
    (lt_or_ge k (length xs))

pub first_counted : (t : ℕ → Bool) (n : ℕ) → unwrap_or (position t (range_with_len 0 n)) n ≡ first_place t n
first_counted t n =
    let e = length-range_with_len 0 n in
    subst (λ (m : ℕ). unwrap_or (position t (range_with_len 0 n)) m ≡ first_place t m) e
    (first_position t t (range_with_len 0 n) 0 (λ i l. rw (get_or-range_with_len 0 n i 0 (omega (arith, e)), zero-add i)))

-- and `any` over places from one on says whether the test holds at one of them
any_front : (t : ℕ → Bool) (n : ℕ) → any t (suc n) ≡ t 0 || any (λ k. t (suc k)) n
unfolding any
any_front t zero = sym (or_none (t 0))
any_front t (suc n) = ap (λ b. b || t (suc n)) (any_front t n) ∙ or_assoc (t 0) (any (λ k. t (suc k)) n) (t (suc n))

pub any_counted : (t u : ℕ → Bool) (from n : ℕ) → ((k : ℕ) → t (from + k) ≡ u k) → list_any t (range_with_len from n) ≡ any u n
unfolding any
any_counted t u from zero same = refl
any_counted t u from (suc n) same =
    let first : t from ≡ u 0 = rw add-zero at (same 0) in
    let later : (k : ℕ) → t (from + 1 + k) ≡ u (suc k) = λ k. let e : from + 1 + k ≡ from + suc k = omega arith in rw e (same (suc k)) in
    rw (first, any_counted t (λ k. u (suc k)) (from + 1) n later) (sym (any_front u n))

-- `any` over a list is the test of each of its items, one of them
pub any_mapped : {A : Type 0} (p : A → Bool) (xs : List A) → list_any p xs ≡ any_of (map p xs)
unfolding any_of
any_mapped p [] = refl
any_mapped p (x ∷ xs) = rw (any_mapped p xs)

-- a walk that came to the end found none
pub searching_over : {t : ℕ → Bool} {n i : ℕ} → Searching t n i → n ≤ i → n ≡ first_place t n
searching_over {t} {n} {i} s l = let e : i ≡ n = omega (arith, s.within) in sym e ∙ searching_end t n s l

pub no_fall_rises : (xs : List ℕ) → length xs ≤ first_place (falls xs) (length xs) → Rises xs
no_fall_rises xs none =
    steps_rise xs (λ i l. leb-false (xs ! suc i) (xs ! i) (second_fails _ _ (first_none (falls xs) (length xs) (suc i) none l) (lt-ltb 0 (suc i) (omega arith))))
