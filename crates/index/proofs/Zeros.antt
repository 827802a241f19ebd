-- At least three trailing zero bits: the number is divisible by 8. Assumes nothing.
use mathlib.Core.Path.{◌≡◌, refl, ap, ◌∙◌}
use Prim.Native.Nat.{ℕ, zero, suc, ◌+◌, ◌*◌, ◌/◌, ◌%◌, ◌<◌}
use native.Mathlib.Omega.{arith}
use borrow.Author.Tests.{le-leb}
use lib.Count.{count_trailing_zeros, under}
use lib.Dec.{eqb, leb}

-- three steps of the count, by the three lowest bits
three-of : (a b e t : ℕ) → a < 2 → b < 2 → e < 2 → leb 3 (under a (under b (under e t))) ≡ eqb (a + 2 * b + 4 * e) 0
three-of zero zero zero t p q r = le-leb 3 (suc (suc (suc t))) (omega arith)
three-of zero zero (suc zero) t p q r = refl
three-of zero (suc zero) zero t p q r = refl
three-of zero (suc zero) (suc zero) t p q r = refl
three-of (suc zero) zero zero t p q r = refl
three-of (suc zero) zero (suc zero) t p q r = refl
three-of (suc zero) (suc zero) zero t p q r = refl
three-of (suc zero) (suc zero) (suc zero) t p q r = refl
three-of (suc (suc a)) b e t p q r = absurd (omega arith)
three-of zero (suc (suc b)) e t p q r = absurd (omega arith)
three-of (suc zero) (suc (suc b)) e t p q r = absurd (omega arith)
three-of zero zero (suc (suc e)) t p q r = absurd (omega arith)
three-of zero (suc zero) (suc (suc e)) t p q r = absurd (omega arith)
three-of (suc zero) zero (suc (suc e)) t p q r = absurd (omega arith)
three-of (suc zero) (suc zero) (suc (suc e)) t p q r = absurd (omega arith)

digits : (n : ℕ) → n % 2 + 2 * (n / 2 % 2) + 4 * (n / 2 / 2 % 2) ≡ n % 8
digits n = omega arith

-- THE TRAILING-ZERO FORM is "divisible by 8", at every width of three bits and more, and for 0 too.
pub three-zeros : (k n : ℕ) → leb 3 (count_trailing_zeros (suc (suc (suc k))) n) ≡ eqb (n % 8) 0
unfolding count_trailing_zeros
three-zeros k n =
    three-of (n % 2) (n / 2 % 2) (n / 2 / 2 % 2) (count_trailing_zeros k (n / 2 / 2 / 2)) (omega arith) (omega arith) (omega arith)
    ∙ ap (λ (x : ℕ). eqb x 0) (digits n)
