-- How many digits a number has as it is written, and what a turn of a column's loop keeps, at any width. Assumes nothing.
use Rattle.std.proofs.Common.{◌≡◌, ℕ, zero, suc, ◌+◌, ◌-◌, ◌/◌, ◌%◌, ◌^◌, ◌<◌, ◌≤◌, inl, inr, List, [], ◌∷◌, length, take, sym, refl, ap, add-one, arith, take-suc, le-ltb, lt-ltb, length-append, eq-zero-or-pos}
use lib.Seq.{take-length}
use Rattle.io.specs.Digits.{IsDigitCount}
use Rattle.std.specs.Fmt.{decimal}
use Rattle.std.proofs.lemmas.Fmt.{decimal_digit, decimal_step}
use Rattle.columns.specs.Lists.{◌!◌, sum}
use Rattle.columns.proofs.Sums.{sum-append}
use Rattle.print.specs.Printed.{digits_by, digit_count, spaced_bytes, column_bytes}

digits_written : (k n : ℕ) → n ≤ k → n < 2 ^ 64 → length (decimal n) ≡ digits_by k n
unfolding digits_by
digits_written zero n l h = ap length (decimal_digit n (omega arith))
digits_written (suc k) n l h =
    elim (eq-zero-or-pos (10 - n)) [
      | inl z ↦ let many : 10 ≤ n = omega arith in rw (le-ltb n 10 many) (omega (arith, ap length (decimal_step n many h), length-append (decimal (n / 10)) ((48 + n % 10) ∷ []), digits_written k (n / 10) (omega arith) (omega arith)))
      | inr p ↦ let few : n < 10 = omega arith in rw (lt-ltb n 10 few) (ap length (decimal_digit n few))
    ]

-- the text of a number has as many bytes as the number has digits
pub count_written : (n : ℕ) → n < 2 ^ 64 → length (decimal n) ≡ digit_count n
unfolding digit_count
count_written n h = digits_written n n (omega arith) h

ten_positive : (m : ℕ) → 1 ≤ 10 ^ m
ten_positive zero = omega arith
ten_positive (suc m) = omega (arith, ten_positive m)

-- from 10 ^ m on, and below 10 ^ (m + 1), a number has m + 1 digits
digits_at : (k n m : ℕ) → n ≤ k → n < 10 ^ suc m → (0 < m → 10 ^ m ≤ n) → digits_by k n ≡ suc m
unfolding digits_by
digits_at zero n zero l h f = refl
digits_at (suc k) n zero l h f = let few : n < 10 = omega arith in rw (lt-ltb n 10 few)
digits_at zero n (suc m) l h f = absurd (omega (arith, ten_positive m, f (omega arith)))
digits_at (suc k) n (suc m) l h f =
    let many : 10 ^ suc m ≤ n = f (omega arith) in
    let ten : 10 ≤ n = omega (arith, ten_positive m) in rw (le-ltb n 10 ten) (omega (arith, digits_at k (n / 10) m (omega arith) (omega arith) (λ p. omega arith)))

-- the fewest digits that hold n are one number
pub fewest_digits : (n r : ℕ) → IsDigitCount 10 1 n r → r ≡ digit_count n
unfolding digit_count
fewest_digits n zero f = absurd (omega arith)
fewest_digits n (suc m) f = let back : suc m - 1 ≡ m = omega arith in sym (digits_at n n m (omega arith) f.1 (λ p. rw back at (f.2 (omega arith))))

-- the text and the first i numbers of a column are written
pub record Writing (text xs : List ℕ) (bytes i : ℕ) : Type 0 where
  pub within : i ≤ length xs
  pub counted : bytes ≡ (length text + sum spaced_bytes (take i xs)) % 2 ^ 64

module _ (text xs : List ℕ) where
  pub writing_on : {bytes i : ℕ} (n put now : ℕ) → Writing text xs bytes i → i < length xs → n ≡ xs ! i → put ≡ spaced_bytes n → now ≡ (bytes + put) % 2 ^ 64 → Writing text xs now (i + 1)
  writing_on {bytes} {i} n put now w l a p e =
      record {
        within = omega arith;
        counted = rw (add-one, take-suc xs i 0 l, ← a) (omega (arith, sum-append spaced_bytes (take i xs) (n ∷ [])));
      }

  pub writing_ends : {bytes i : ℕ} (now : ℕ) → Writing text xs bytes i → length xs ≤ i → now ≡ (bytes + 1) % 2 ^ 64 → now ≡ column_bytes text xs
  writing_ends {bytes} {i} now w l e = let all : i ≡ length xs = omega arith in omega (arith, rw (all, take-length) at w.counted)
