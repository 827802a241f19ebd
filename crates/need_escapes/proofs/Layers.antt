-- A list that falls, summed behind its first K by layers, and sums over two lists in either order. Assumes nothing.
use Prim.Native.Nat.{ℕ, zero, suc, ◌-◌, ◌*◌, ◌≤◌, min}
use native.Mathlib.Omega.{arith}
use mathlib.Core.Path.{◌≡◌, refl, sym, ap, ◌∙◌}
use mathlib.Core.Logic.{⊎_elim}
use mathlib.Core.Bool.{Bool, true, false}
use mathlib.Core.List.{List, [], ◌∷◌}
use lib.Dec.{eqb, leb, ltb}
use lib.ListN.{drop}
use borrow.Author.Tests.{eq-eqb, ne_eqb, eqb-true, eqb-false, lt-ltb, le-ltb, leb-true, leb-false, le-leb}
use Rattle.columns.specs.Lists.{sum, one, count, total, sort}
use Rattle.columns.proofs.Lists.{lt_or_ge}
use Rattle.columns.proofs.Every.{Chain, sort-chain}
use Rattle.columns.proofs.Sums.{sum-add, sum_none, sum_ext, total-add, total_none, total_ext}

-- how many of a list have more than t
abbrev pub more_than : {A : Type 0} → (A → ℕ) → ℕ → List A → ℕ
more_than f t xs = sum (λ a. one (ltb t (f a))) xs

-- by falling f
abbrev pub falling : {A : Type 0} → (A → ℕ) → A → A → Bool
falling f a b = leb (f b) (f a)

module _ {A : Type 0} (f : A → ℕ) where
  -- behind one that has no more than t none has
  low_none : (t : ℕ) (a : A) (xs : List A) → Chain (falling f) (a ∷ xs) → f a ≤ t → more_than f t xs ≡ 0
  low_none t a [] h l = refl
  low_none t a (b ∷ xs) h l =
      let m : f b ≤ t = omega (arith, leb-true (f b) (f a) h.0) in
      rw (le-ltb t (f b) m) (omega (arith, low_none t b xs h.1 m))

  tail : (a : A) (xs : List A) → Chain (falling f) (a ∷ xs) → Chain (falling f) xs
  tail a [] h = tt
  tail a (b ∷ xs) h = h.1

  -- of a list that falls, those that have more than t come first
  pub more_behind : (t k : ℕ) (xs : List A) → Chain (falling f) xs → more_than f t xs - k ≡ more_than f t (drop k xs)
  more_behind t zero xs h = omega arith
  more_behind t (suc k) [] h = omega arith
  more_behind t (suc k) (a ∷ xs) h =
      let ih = more_behind t k xs (tail a xs h) in
      ⊎_elim
      (λ l. rw (lt-ltb t (f a) l) (omega (arith, ih)))
      (λ l. rw (le-ltb t (f a) l) (omega (arith, ih, low_none t a xs h l)))
      (lt_or_ge t (f a))

  -- a number by layers, and a list of them
  layers-one : (v m : ℕ) → total (λ t. one (ltb t v)) m ≡ min m v
  layers-one v zero = omega arith
  layers-one v (suc m) = ⊎_elim (λ l. rw (lt-ltb m v l) (omega (arith, layers-one v m))) (λ l. rw (le-ltb m v l) (omega (arith, layers-one v m))) (lt_or_ge m v)

  layers_all : (m : ℕ) (xs : List A) → total (λ t. more_than f t xs) m ≡ sum (λ a. min m (f a)) xs
  layers_all m [] = total_none _ m (λ t l. refl)
  layers_all m (a ∷ xs) = total-add (λ t. one (ltb t (f a))) (λ t. more_than f t xs) m ∙ omega (arith, layers-one (f a) m, layers_all m xs)

  none_over : (m : ℕ) (xs : List A) → more_than f m xs ≡ 0 → sum (λ a. min m (f a)) xs ≡ sum f xs
  none_over m [] h = refl
  none_over m (a ∷ xs) h =
      ⊎_elim
      (λ l. absurd (omega (arith, rw (lt-ltb m (f a) l) at h)))
      (λ l. omega (arith, none_over m xs (omega (arith, h)), l))
      (lt_or_ge m (f a))

  -- The sum behind the first k is that of the layers, each without its first k, up to one that has no more than k.
  pub sum-behind : (k m : ℕ) (xs : List A) → Chain (falling f) xs → more_than f m xs ≤ k → sum f (drop k xs) ≡ total (λ t. more_than f t xs - k) m
  sum-behind k m xs h l =
      sym (none_over m (drop k xs) (sym (more_behind m k xs h) ∙ omega arith)) ∙ sym (layers_all m (drop k xs)) ∙ total_ext _ _ m (λ t g. sym (more_behind t k xs h))

  pub sort-falls : (xs : List A) → Chain (falling f) (sort (falling f) xs)
  sort-falls xs = sort-chain (falling f) (λ a b e. le-leb (f a) (f b) (omega (arith, leb-false (f b) (f a) e))) xs

  -- few have much
  pub few_more : (xs : List A) → 65535 * more_than f 65534 xs ≤ sum f xs
  few_more [] = omega arith
  few_more (a ∷ xs) =
      ⊎_elim
      (λ l. rw (lt-ltb 65534 (f a) l) (omega (arith, few_more xs)))
      (λ l. rw (le-ltb 65534 (f a) l) (omega (arith, few_more xs)))
      (lt_or_ge 65534 (f a))

-- How often the numbers of one list stand in another, from either list.
eqb_swap : (a b : ℕ) → eqb a b ≡ eqb b a
eqb_swap a b = go (eqb b a) refl
  where
    go : (t : Bool) → eqb b a ≡ t → eqb a b ≡ t
    go true e = eq-eqb a b (sym (eqb-true b a e))
    go false e = ne_eqb a b (λ q. eqb-false b a e (sym q))

pub count_swap : (xs ys : List ℕ) → sum (λ x. count x ys) xs ≡ sum (λ y. count y xs) ys
count_swap [] ys = sym (sum_none ys)
count_swap (x ∷ xs) ys =
    omega (arith, count_swap xs ys, sum-add (λ y. one (eqb x y)) (λ y. count y xs) ys, sum_ext (λ y. one (eqb x y)) (λ y. one (eqb y x)) (λ y. ap one (eqb_swap x y)) ys)
