-- Ids of four and of eight bytes in a straight line: the bytes by their worth are the bytes one after another. Assumes nothing.
use Prim.Native.Nat.{ℕ, ◌+◌, ◌-◌, ◌*◌, ◌≤◌, ◌<◌}
use native.Mathlib.Nat.{add-zero}
use native.Mathlib.Omega.{arith}
use mathlib.Core.Path.{◌≡◌, refl, sym, ap, ◌∙◌}
use mathlib.Core.List.{List, [], ◌∷◌}
use lib.ListN.{length}
use Rattle.std.specs.Int.{w32, w64, from_be_bytes}
use Rattle.columns.specs.Lists.{◌!◌, part}
use Rattle.rules.specs.Input.{big_endian}
use Rattle.edge_append.proofs.Bytes.{big_none, big_more}

module _ (bytes : List ℕ) (at : ℕ) where
  -- one byte more, by the place where it stands
  one_more : (p q : ℕ) {high : ℕ} → at ≤ p → p < length bytes → p + 1 ≡ q → high ≡ big_endian 0 (part bytes at p) → high * 256 + bytes ! p ≡ big_endian 0 (part bytes at q)
  one_more p q {high} h l e f =
      let k : at + (p - at) ≡ p = omega arith in
      let n : at + (p - at + 1) ≡ q = omega arith in
      let m = big_more bytes at (p - at) (omega arith) (f ∙ ap (λ (i : ℕ). big_endian 0 (part bytes at i)) (sym k)) in
      ap (λ (i : ℕ). high * 256 + bytes ! i) (sym k) ∙ m ∙ ap (λ (i : ℕ). big_endian 0 (part bytes at i)) n

  four_more : (p q : ℕ) {high : ℕ} → at ≤ p → q ≤ length bytes → p + 4 ≡ q → high ≡ big_endian 0 (part bytes at p)
      → (((high * 256 + bytes ! p) * 256 + bytes ! (p + 1)) * 256 + bytes ! (p + 2)) * 256 + bytes ! (p + 3) ≡ big_endian 0 (part bytes at q)
  four_more p q h l e f =
      let f₁ = one_more p (p + 1) h (omega arith) refl f in
      let f₂ = one_more (p + 1) (p + 2) (omega arith) (omega arith) (omega arith) f₁ in
      let f₃ = one_more (p + 2) (p + 3) (omega arith) (omega arith) (omega arith) f₂ in
      one_more (p + 3) q (omega arith) (omega arith) (omega arith) f₃

  none : 0 ≡ big_endian 0 (part bytes at at)
  none = big_none bytes at ∙ ap (λ (i : ℕ). big_endian 0 (part bytes at i)) (add-zero at)

  pub four_bytes : at + 4 ≤ length bytes
      → from_be_bytes w32 (bytes ! at ∷ bytes ! (at + 1) ∷ bytes ! (at + 2) ∷ bytes ! (at + 3) ∷ []) ≡ big_endian 0 (part bytes at (at + 4))
  four_bytes h = omega (arith, four_more at (at + 4) (omega arith) h refl none)

  pub eight_bytes : at + 8 ≤ length bytes
      → from_be_bytes w64 (bytes ! at ∷ bytes ! (at + 1) ∷ bytes ! (at + 2) ∷ bytes ! (at + 3) ∷ bytes ! (at + 4) ∷ bytes ! (at + 5) ∷ bytes ! (at + 6) ∷ bytes ! (at + 7) ∷ [])
      ≡ big_endian 0 (part bytes at (at + 8))
  eight_bytes h = let f = four_more at (at + 4) (omega arith) (omega arith) refl none in
      let e₅ : at + 4 + 1 ≡ at + 5 = omega arith in
      let e₆ : at + 4 + 2 ≡ at + 6 = omega arith in
      let e₇ : at + 4 + 3 ≡ at + 7 = omega arith in
      omega (arith, rw (e₅, e₆, e₇) at (four_more (at + 4) (at + 8) (omega arith) h (omega arith) f))
