-- What the definitions come to: how many bits a number has, which buckets the column has room for, and which place stands in each. Assumes nothing.
use Prim.Native.Nat.{ℕ, zero, suc, ◌+◌, ◌-◌, ◌*◌, ◌/◌, ◌%◌, ◌^◌, ◌≤◌, ◌<◌, min}
use native.Mathlib.Nat.{le_trans, not-suc-le-zero, add_comm}
use native.Mathlib.Omega.{arith}
use mathlib.Core.Path.{◌≡◌, refl, sym, ap, ◌∙◌}
use mathlib.Core.Logic.{⊎_elim}
use mathlib.Core.List.{List}
use lib.Count.{leading_top, leading_length}
use lib.Pow.{pow_pos, pow_mono, shl_lt, shr_lt, shl_exact}
use lib.ListN.{length, set, length-set}
use lib.Seq.{get_or-set_same, get_or-set_other}
use borrow.Author.Tests.{lt-ltb, le-ltb}
use Rattle.columns.specs.Lists.{◌!◌}
use Rattle.columns.proofs.Lists.{lt_or_ge}
use Rattle.lookup_hints.specs.Hints.{bit_count, scaled_bits, scale_from, scale_of, step_of, bucket_at, hint_at, with_hint, hints_to, hints_of}
use Rattle.lookup_hints.proofs.Scales.{scale_none, scale_some, step_right, step_left}
use Rattle.lookup_hints.proofs.Hinting.{hint_put, hint_out}

-- BITS. A number is below the power of two of its bits, and a number that is not 0 not below the one before.
pub bits_hold : (n : ℕ) → n < 2 ^ 64 → n < 2 ^ bit_count n
bits_hold n h = let t = leading_length 64 n h in let e : bit_count n ≡ t.0 = omega (arith, t.1) in rw e t.2

pub bits_least : (n : ℕ) → 0 < n → n < 2 ^ 64 → 2 ^ (bit_count n - 1) ≤ n
bits_least n l h = let t = leading_top 64 n l h in let e : bit_count n - 1 ≡ t.0 = omega (arith, t.1) in rw e t.2

-- a distance of so many bits is scaled to `most`
module _ (id first bits most : ℕ) (h : id - first < 2 ^ bits) (b : bits ≤ 64) (s : 0 < most) (m : most ≤ 31) where
  scaled_right : most < bits → step_of id first (scale_from bits most) < 2 ^ most
  unfolding scale_from
  scaled_right l =
      let e : most + (bits - most) ≡ bits = omega arith in
      rw (lt-ltb most bits l, sym (step_right id first (bits - most) (omega arith))) (shr_lt most (bits - most) (rw e h))

  scaled_left : bits ≤ most → step_of id first (scale_from bits most) < 2 ^ most
  unfolding scale_from
  scaled_left l =
      let e : bits + (most - bits) ≡ most = omega arith in
      let f : 64 + most - bits - 64 ≡ most - bits = omega arith in
      rw (le-ltb most bits l, sym (step_left id first (64 + most - bits) (omega arith)), f, shl_exact bits (most - bits) 64 h (omega arith))
      (rw e at (shl_lt bits (most - bits) h))

  step_scaled : step_of id first (scale_from bits most) < 2 ^ most
  step_scaled = ⊎_elim scaled_right scaled_left (lt_or_ge most bits)

-- ROOM. A column of four or more short numbers has a pair for the bucket of each id up to the last one, and a pair behind it.
module _ (ids : List ℕ) (room i : ℕ) (fits : ids ! (length ids - 1) < 2 ^ 64) (last : ids ! i ≤ ids ! (length ids - 1)) where
  step_some : ids ! 0 < ids ! (length ids - 1) → step_of (ids ! i) (ids ! 0) (scale_of ids room) < 2 ^ scaled_bits room
  unfolding scaled_bits
  step_some l =
      rw (sym (scale_some ids room l refl refl))
      (step_scaled (ids ! i) (ids ! 0) (bit_count (ids ! (length ids - 1) - ids ! 0)) (scaled_bits room)
      (omega (arith, bits_hold (ids ! (length ids - 1) - ids ! 0) (omega arith))) (omega arith) (omega arith) (omega arith))

  step_none : ids ! (length ids - 1) ≤ ids ! 0 → step_of (ids ! i) (ids ! 0) (scale_of ids room) < 2 ^ scaled_bits room
  step_none l =
      let e : ids ! i - ids ! 0 ≡ 0 = omega arith in
      rw (sym (scale_none ids room l), sym (step_right (ids ! i) (ids ! 0) 0 (omega arith)), e) (pow_pos (scaled_bits room))

  pub bucket_fits : 4 ≤ room → room < 2 ^ 64 → bucket_at ids room i + 1 < room / 2
  unfolding bucket_at scaled_bits
  bucket_fits r f =
      let k = min 15 (bit_count (room / 2 - 1) - 1) in
      let few : step_of (ids ! i) (ids ! 0) (scale_of ids room) / 65536 < 2 ^ k = shr_lt k 16 (rw (add_comm k 16) (⊎_elim step_some step_none (lt_or_ge (ids ! 0) (ids ! (length ids - 1))))) in
      let most : 2 ^ k ≤ room / 2 - 1 = le_trans (pow_mono (omega arith)) (bits_least (room / 2 - 1) (omega arith) (omega arith)) in
      omega arith

-- A place written in a bucket stands there, and every other bucket has what it had.
module _ (d : List ℕ) (b p : ℕ) where
  hint_length : length (with_hint d b p) ≡ length d
  hint_length =
      ⊎_elim (λ l. ap length (sym (hint_put d b p l refl refl)) ∙ simp length-set) (λ l. ap length (sym (hint_out d b p l))) (lt_or_ge b (length d / 2))

  hint_same : b < length d / 2 → p < 4294967296 → hint_at (with_hint d b p) b ≡ p
  hint_same l f =
      rw (
        sym (hint_put d b p l refl refl),
        get_or-set_other (set d (2 * b) (p % 65536)) (2 * b + 1) (2 * b) (p / 65536 % 65536) 0 (λ e. omega arith),
        get_or-set_same d (2 * b) (p % 65536) 0 (omega arith),
        get_or-set_same (set d (2 * b) (p % 65536)) (2 * b + 1) (p / 65536 % 65536) 0 (rw length-set (omega arith)),
      ) (omega arith)

  other : (k : ℕ) → (k ≡ 2 * b → ⊥) → (k ≡ 2 * b + 1 → ⊥) → set (set d (2 * b) (p % 65536)) (2 * b + 1) (p / 65536 % 65536) ! k ≡ d ! k
  other k low high = get_or-set_other (set d (2 * b) (p % 65536)) (2 * b + 1) k (p / 65536 % 65536) 0 high ∙ get_or-set_other d (2 * b) k (p % 65536) 0 low

  hint_other : (c : ℕ) → (b ≡ c → ⊥) → hint_at (with_hint d b p) c ≡ hint_at d c
  hint_other c ne =
      ⊎_elim
      (λ l.
      rw (
        sym (hint_put d b p l refl refl),
        other (2 * c) (λ e. ne (omega arith)) (λ e. omega arith),
        other (2 * c + 1) (λ e. omega arith) (λ e. ne (omega arith)),
      ))
      (λ l. rw (sym (hint_out d b p l)))
      (lt_or_ge b (length d / 2))

module _ (bucket : ℕ → ℕ) where
  stays : (n b : ℕ) (d : List ℕ) → ((k : ℕ) → k < n → bucket k ≡ b → ⊥) → hint_at (hints_to bucket n d) b ≡ hint_at d b
  unfolding hints_to
  stays zero b d none = refl
  stays (suc n) b d none = stays n b (with_hint d (bucket n) n) (λ k l. none k (omega arith)) ∙ hint_other d (bucket n) n b (none n (omega arith))

  first : (n i : ℕ) (d : List ℕ) → i < n → i < 4294967296 → bucket i < length d / 2 → ((k : ℕ) → k < i → bucket k ≡ bucket i → ⊥)
      → hint_at (hints_to bucket n d) (bucket i) ≡ i
  unfolding hints_to
  first zero i d l f r none = absurd (not-suc-le-zero l)
  first (suc n) i d l f r none =
      ⊎_elim
      (λ m. first n i (with_hint d (bucket n) n) m f (rw (hint_length d (bucket n) n) r) none)
      (λ m. let e : n ≡ i = omega arith in rw e (stays i (bucket i) (with_hint d (bucket i) i) none ∙ hint_same d (bucket i) i r f))
      (lt_or_ge i n)

-- WHAT `mark` LEAVES. A bucket for which the column has a pair has the place of its first id, and one without an id has what it had.
module _ (ids d : List ℕ) where
  pub hint_first : (i : ℕ) → i < length ids → i < 4294967296 → bucket_at ids (length d) i < length d / 2
      → ((k : ℕ) → k < i → bucket_at ids (length d) k ≡ bucket_at ids (length d) i → ⊥) → hint_at (hints_of ids d) (bucket_at ids (length d) i) ≡ i
  unfolding hints_of
  hint_first i l f r none = first (bucket_at ids (length d)) (length ids) i d l f r none

  pub hint_kept : (b : ℕ) → ((k : ℕ) → k < length ids → bucket_at ids (length d) k ≡ b → ⊥) → hint_at (hints_of ids d) b ≡ hint_at d b
  unfolding hints_of
  hint_kept b none = stays (bucket_at ids (length d)) (length ids) b d none
