-- Parts one behind the other hold no more codes than there are. Assumes nothing.
use mathlib.Core.Path.{◌≡◌, refl, sym, ◌∙◌}
use mathlib.Core.Bool.{Bool, true, false}
use mathlib.Core.List.{List}
use Prim.Native.Nat.{ℕ, zero, suc, ◌+◌, ◌-◌, ◌≤◌, ◌<◌}
use native.Mathlib.Nat.{add-zero, zero-add, add-suc}
use native.Mathlib.Numerals.{add-one}
use native.Mathlib.Omega.{arith}
use borrow.Author.Tests.{eqb-true}
use lib.Dec.{eqb}
use lib.ListN.{length}
use Rattle.columns.specs.Lists.{◌!◌, total}
use Rattle.columns.proofs.Sums.{total_ext, total-le-total}
use Rattle.check_ids.specs.Copying.{held_codes}
use Rattle.check_ids.specs.Spans.{part_length, slots_of}
use Rattle.check_place_steps.specs.Place.{part_at, one_code, codes_in, PartsIn}

-- the codes up to the end of a range: those before it, and its own
codes_cut : (codes : List ℕ) (a n : ℕ) → total (one_code codes 0) (a + n) ≡ total (one_code codes 0) a + total (one_code codes a) n
codes_cut codes a zero = rw (add-zero a) (sym (add-zero _))
codes_cut codes a (suc n) = rw (add-suc a n, zero-add (a + n)) (omega (arith, codes_cut codes a n))

codes_mono : (codes : List ℕ) (a b : ℕ) → a ≤ b → total (one_code codes 0) a ≤ total (one_code codes 0) b
codes_mono codes a b l = let e : b ≡ a + (b - a) = omega arith in rw e (total-le-total (one_code codes 0) a (b - a))

-- one object more: its part is empty, or stands behind the parts before
module _ (kinds classes lengths slot_start slot_end codes starts : List ℕ) (o e : ℕ) (w : total (codes_in kinds classes lengths slot_start slot_end codes starts) o ≤ total (one_code codes 0) e) where
  pub part-behind : {part start n : ℕ} → part ≡ part_at kinds classes lengths slot_start slot_end o → start ≡ starts ! o → n ≡ part → e ≤ start
      → total (codes_in kinds classes lengths slot_start slot_end codes starts) (o + 1) ≤ total (one_code codes 0) (start + n)
  part-behind {part} {start} p s q l = rw (add-one o, q, ← p, ← s) (omega (arith, codes_cut codes start part, codes_mono codes e start l))

-- at the end
all_codes : (codes : List ℕ) → total (one_code codes 0) (length codes) ≡ held_codes codes
unfolding held_codes
all_codes codes = total_ext _ _ (length codes) (λ k l. rw (zero-add k))

pub parts-end : (f : ℕ → ℕ) (codes : List ℕ) (n o e : ℕ) → o ≤ n → n ≤ o → e ≤ length codes → total f o ≤ total (one_code codes 0) e → total f n ≤ held_codes codes
parts-end f codes n o e l m b w = let q : n ≡ o = omega arith in rw q (omega (arith, w, codes_mono codes e (length codes) b, all_codes codes))

-- a part that is not empty is an instance's or an array's, and stands within the codes
module _ {kinds classes lengths slot_start slot_end starts : List ℕ} {n : ℕ} (h : PartsIn kinds classes lengths slot_start slot_end starts n) (o : ℕ) (l : o < length kinds) where
  has_part : (kind class len : ℕ) → (part_length kind class len slot_start slot_end ≡ 0 → ⊥) → kind < 2
  unfolding part_length slots_of
  has_part kind class len f = go (eqb kind 0) refl (eqb kind 1) refl
    where
      go : (a : Bool) → eqb kind 0 ≡ a → (b : Bool) → eqb kind 1 ≡ b → kind < 2
      go true e b d = omega (arith, eqb-true kind 0 e)
      go false e true d = omega (arith, eqb-true kind 1 d)
      go false e false d = absurd (f (rw (e, d)))

  pub part-span : {part : ℕ} → part ≡ part_at kinds classes lengths slot_start slot_end o → (part ≡ 0 → ⊥) → starts ! o + part ≤ n
  part-span p f = rw p (h.span o l (has_part (kinds ! o) (classes ! o) (lengths ! o) (λ z. f (p ∙ z))))
