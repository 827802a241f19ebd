-- Places at which a test holds from the first on, and sums over them. Assumes nothing.
use Prim.Native.Nat.{ℕ, zero, suc, ◌≤◌, ◌<◌}
use native.Mathlib.Nat.{add-zero, not-suc-le-zero}
use native.Mathlib.Omega.{arith}
use native.Mathlib.Decide.{dec_lt}
use mathlib.Core.Path.{◌≡◌, refl, sym, ap, ◌∙◌}
use mathlib.Core.Bool.{Bool, true, false, cond, ◌&&◌}
use lib.Dec.{eqb, ltb}
use borrow.Author.Tests.{eq-eqb, eqb-true, lt-ltb, le-ltb, ltb-true}
use Rattle.columns.specs.Lists.{total, leading}
use Rattle.columns.proofs.Sums.{total_ext, leading_within}

module _ (t : ℕ → Bool) where
  -- A test holds at the leading places;
  leading-holds : (n k : ℕ) → k < leading t n → t k ≡ true
  leading-holds zero k l = absurd (not-suc-le-zero l)
  leading-holds (suc n) k l = go (eqb (leading t n) n) refl (t n) refl (leading-holds n k) l
    where
      last : t n ≡ true → k < suc n → (k < n → t k ≡ true) → Dec (k < n) → t k ≡ true
      last d l ih (yes q) = ih q
      last d l ih (no q) = let e : k ≡ n = omega arith in ap t e ∙ d

      go : (a : Bool) → eqb (leading t n) n ≡ a → (b : Bool) → t n ≡ b → (k < leading t n → t k ≡ true)
          → k < cond (a && b) (suc n) (leading t n) → t k ≡ true
      go true e true d ih l = last d l (λ q. ih (omega (arith, eqb-true (leading t n) n e))) (dec_lt k n)
      go true e false d ih l = ih l
      go false e b d ih l = ih l

  leading_grows : (n : ℕ) → leading t n ≤ leading t (suc n)
  leading_grows n = go (eqb (leading t n) n && t n) (leading_within t n)
    where
      go : (b : Bool) → leading t n ≤ n → leading t n ≤ cond b (suc n) (leading t n)
      go true l = omega arith
      go false l = omega arith

  -- and at no others, if it holds at a place only where it holds at the one before.
  abbrev pub Downward : ℕ → Type 0
  Downward n = (k : ℕ) → suc k < n → t (suc k) ≡ true → t k ≡ true

  holds-leading : (n : ℕ) → Downward n → (k : ℕ) → k < n → t k ≡ true → k < leading t n
  holds-leading zero h k l d = absurd (not-suc-le-zero l)
  holds-leading (suc n) h k l d = go (dec_lt k n) (holds-leading n (λ j m. h j (omega arith)))
    where
      full : (m : ℕ) → k ≡ m → Downward (suc m) → ((j : ℕ) → j < m → t j ≡ true → j < leading t m) → leading t m ≡ m
      full zero e h ih = refl
      full (suc m) e h ih = omega (arith, ih m (omega arith) (h m (omega arith) (ap t (sym e) ∙ d)), leading_within t (suc m))

      go : Dec (k < n) → ((j : ℕ) → j < n → t j ≡ true → j < leading t n) → k < leading t (suc n)
      go (yes q) ih = omega (arith, ih k q d, leading_grows n)
      go (no q) ih =
          let e : k ≡ n = omega arith in
          rw (full n e h ih, eq-eqb n n refl, ap t (sym e) ∙ d) (omega arith)

  pub leading_is : (n : ℕ) → Downward n → (k : ℕ) → k < n → t k ≡ ltb k (leading t n)
  leading_is n h k l = go (t k) refl (ltb k (leading t n)) refl
    where
      go : (a : Bool) → t k ≡ a → (b : Bool) → ltb k (leading t n) ≡ b → a ≡ b
      go true d b e = sym (lt-ltb k (leading t n) (holds-leading n h k l d)) ∙ e
      go false d false e = refl
      go false d true e = sym d ∙ leading-holds n k (ltb-true k (leading t n) e)

-- a sum of which only the terms below m count
pub total-below : (f : ℕ → ℕ) (m n : ℕ) → m ≤ n → total (λ k. cond (ltb k m) (f k) 0) n ≡ total f m
total-below f m zero l = let e : m ≡ 0 = omega arith in rw e
total-below f m (suc n) l = go (dec_lt n m) (total-below f m n)
  where
    go : Dec (n < m) → (m ≤ n → total (λ k. cond (ltb k m) (f k) 0) n ≡ total f m) → total (λ k. cond (ltb k m) (f k) 0) (suc n) ≡ total f m
    go (yes q) ih =
        let e : m ≡ suc n = omega arith in
        total_ext _ _ (suc n) (λ k j. rw (lt-ltb k m (omega arith))) ∙ ap (total f) (sym e)
    go (no q) ih = rw (le-ltb n m (omega arith)) (add-zero _ ∙ ih (omega arith))
