-- Walks that look for a place at which a test holds: what each turn keeps, and where it ends. Assumes nothing.
use mathlib.Core.Path.{◌≡◌, refl, sym, ap, ◌∙◌}
use mathlib.Core.Bool.{Bool, true, false}
use mathlib.Core.List.{List, []}
use Prim.Native.Nat.{ℕ, suc, ◌+◌, ◌-◌, ◌≤◌, ◌<◌, zero-le}
use native.Mathlib.Nat.{sub_self}
use native.Mathlib.Omega.{arith}
use lib.ListN.{get_or}
use Rattle.columns.specs.Lists.{places, first_place, any}
use Rattle.columns.proofs.Lists.{places_miss, first-hit}
use Rattle.columns.proofs.Tests.{some_any}

-- of the first n places, none below i holds
pub record Searching (t : ℕ → Bool) (n i : ℕ) : Type 0 where
  pub within : i ≤ n
  pub none : places t i ≡ []

module _ (t : ℕ → Bool) (n : ℕ) where
  pub searching_start : Searching t n 0
  unfolding places
  searching_start = record { within = zero-le; none = refl }

  pub searching_more : {i : ℕ} → Searching t n i → i < n → t i ≡ false → Searching t n (i + 1)
  searching_more {i} s l h = record { within = omega arith; none = places_miss t i h ∙ s.none }

  pub searching_hit : {i : ℕ} → Searching t n i → i < n → t i ≡ true → i ≡ first_place t n
  searching_hit {i} s l h = sym (first-hit t i n s.none h l)

  pub searching_end : {i : ℕ} → Searching t n i → n ≤ i → i ≡ first_place t n
  searching_end {i} s l =
      let e : i ≡ n = omega (arith, s.within) in
      e ∙ sym (ap (λ (xs : List ℕ). get_or xs 0 n) (ap (places t) (sym e) ∙ s.none))

-- A walk from one place up to another that looks for any place at which a test holds; the test counts places from the first.
pub record Passing (t : ℕ → Bool) (from to i : ℕ) : Type 0 where
  pub low : from ≤ i
  pub high : i ≤ to
  pub none : any t (i - from) ≡ false

module _ (t : ℕ → Bool) (from to : ℕ) where
  pub passing_start : from ≤ to → Passing t from to from
  unfolding any
  passing_start h = record { low = omega arith; high = h; none = rw (sub_self from) }

  pub passing_more : {i : ℕ} → Passing t from to i → i < to → t (i - from) ≡ false → Passing t from to (i + 1)
  unfolding any
  passing_more {i} p l h =
      let e : i + 1 - from ≡ suc (i - from) = omega (arith, p.low) in
      record { low = omega (arith, p.low); high = omega arith; none = rw (e, p.none) h }

  pub passing_hit : {i : ℕ} → Passing t from to i → i < to → t (i - from) ≡ true → true ≡ any t (to - from)
  passing_hit {i} p l h = sym (some_any t (to - from) (i - from) (omega (arith, p.low)) h)

  pub passing_end : {i : ℕ} → Passing t from to i → to ≤ i → false ≡ any t (to - from)
  passing_end {i} p l = let e : i ≡ to = omega (arith, p.high) in sym (rw e at p.none)
