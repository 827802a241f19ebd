-- How ids are scaled: what the code decides by tests is what the definitions say. Assumes nothing.
use Prim.Native.Nat.{ℕ, ◌+◌, ◌-◌, ◌*◌, ◌/◌, ◌%◌, ◌^◌, ◌≤◌, ◌<◌}
use native.Mathlib.Nat.{le_refl, add-zero, zero-mul, mul_assoc, zero-div}
use native.Mathlib.Omega.{arith}
use mathlib.Core.Path.{◌≡◌, sym, ap, ◌∙◌}
use mathlib.Core.Bool.{Bool, true, false, cond}
use mathlib.Core.List.{List}
use lib.Count.{leading_of_zero, leading_top}
use lib.Dec.{ltb}
use lib.ListN.{length}
use lib.Pow.{pow-add, low}
use borrow.Author.Tests.{lt-ltb, le-ltb}
use Rattle.columns.specs.Lists.{◌!◌}
use Rattle.lookup_hints.specs.Hints.{bit_count, scaled_bits, scale_from, scale_of, step_of}

-- a number that is not 0 has a bit
bits_some : (n : ℕ) → 0 < n → n < 2 ^ 64 → 0 < bit_count n
bits_some n p h = omega (arith, (leading_top 64 n p h).1)

module _ (room : ℕ) where
  pub bits_few : room < 4 → 16 ≡ scaled_bits room
  unfolding scaled_bits
  bits_few l = let e : room / 2 - 1 ≡ 0 = omega arith in rw (e, leading_of_zero 64)

  module _ {bits : ℕ} (b : bits ≡ bit_count (room / 2 - 1)) where
    pub bits_most : 16 < bits → 31 ≡ scaled_bits room
    unfolding scaled_bits
    bits_most l = omega arith

    pub bits_between : 4 ≤ room → room < 2 ^ 64 → bits ≤ 16 → 15 + bits ≡ scaled_bits room
    unfolding scaled_bits
    bits_between l f h = omega (arith, bits_some (room / 2 - 1) (omega arith) (omega arith))

pub bits_within : (room : ℕ) {most : ℕ} → most ≡ scaled_bits room → most ≤ 31
unfolding scaled_bits
bits_within room m = omega arith

module _ (ids : List ℕ) (room : ℕ) where
  pub scale_none : ids ! (length ids - 1) ≤ ids ! 0 → 0 ≡ scale_of ids room
  unfolding scale_of
  scale_none h = rw (le-ltb _ _ h)

  pub scale_empty : length ids ≡ 0 → 0 ≡ scale_of ids room
  scale_empty e = let f : length ids - 1 ≡ 0 = omega arith in scale_none (rw f (le_refl (ids ! 0)))

  module _ {bits most : ℕ} (h : ids ! 0 < ids ! (length ids - 1)) (b : bits ≡ bit_count (ids ! (length ids - 1) - ids ! 0)) (m : most ≡ scaled_bits room) where
    pub scale_some : scale_from bits most ≡ scale_of ids room
    unfolding scale_of
    scale_some = rw (lt-ltb _ _ h, b, m)

    pub scale_right : most < bits → bits - most ≡ scale_of ids room
    unfolding scale_from
    scale_right l = rw (lt-ltb _ _ l) at scale_some

    pub scale_left : bits ≤ most → 64 + most - bits ≡ scale_of ids room
    unfolding scale_from
    scale_left l = rw (le-ltb _ _ l) at scale_some

module _ (id first scale : ℕ) where
  pub step_below : id < first → 0 ≡ step_of id first scale
  unfolding step_of
  step_below l = let e : id - first ≡ 0 = omega arith in rw e (none (ltb scale 64))
    where
      none : (right : Bool) → 0 ≡ cond right (0 / 2 ^ scale) (0 * 2 ^ (scale - 64) % 2 ^ 64)
      none true = sym (zero-div (2 ^ scale))
      none false = rw (zero-mul (2 ^ (scale - 64)))

  pub step_right : scale < 64 → (id - first) / 2 ^ scale ≡ step_of id first scale
  unfolding step_of
  step_right l = rw (lt-ltb _ _ l)

  pub step_left : 64 ≤ scale → (id - first) * 2 ^ (scale - 64) % 2 ^ 64 ≡ step_of id first scale
  unfolding step_of
  step_left l = rw (le-ltb _ _ l)

  -- from 128 on nothing is left of 64 bits
  pub step_lost : 127 < scale → 0 ≡ step_of id first scale
  step_lost l = sym (low ((id - first) * 2 ^ (scale - 128)) 64 {lo = 0} (omega arith)) ∙ ap (λ (n : ℕ). n % 2 ^ 64) all ∙ step_left (omega arith)
    where
      all : (id - first) * 2 ^ (scale - 128) * 2 ^ 64 + 0 ≡ (id - first) * 2 ^ (scale - 64)
      all = add-zero _ ∙ mul_assoc (id - first) (2 ^ (scale - 128)) (2 ^ 64) ∙ ap (λ (n : ℕ). (id - first) * n) (sym (pow-add 2 (scale - 128) 64) ∙ ap (λ (n : ℕ). 2 ^ n) (omega arith))
