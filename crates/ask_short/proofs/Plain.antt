-- Without long offsets and escapes: nothing is found there, and an edge's number does not matter. Assumes nothing.
use Prim.Native.Nat.{ℕ, zero, suc, ◌+◌, ◌-◌}
use native.Mathlib.Omega.{arith}
use mathlib.Core.Path.{◌≡◌, refl, sym, ap, ◌∙◌}
use mathlib.Core.Bool.{Bool, true, false, cond}
use mathlib.Core.List.{List, [], ◌∷◌}
use lib.Dec.{eqb, leb}
use borrow.Author.Tests.{eqb-true, le-ltb}
use Rattle.columns.specs.Lists.{◌!◌, all_of}
use Rattle.columns.specs.Ranks.{bisect}
use Rattle.store.specs.Blocked.{long_back}
use Rattle.rules.specs.Labels.{Coded, is_escaped}
use Rattle.labels.specs.Reading.{row_back, element_back, field_back, code_back, next_of, onward, next_back, exact_back}
use Rattle.ask_late.specs.Late.{late_back, late_next}
use Rattle.ask_late.proofs.Late.{label, behind, exactly, next_none, next_more, exact_more, late_none, late_more, late_is}
use Rattle.ask_short.specs.Lean.{plain_of, plain_back}

pub no_long_lem : (i k : ℕ) → long_back [] [] i k ≡ 12 ∷ i ∷ []
unfolding long_back
no_long_lem i k = rw (le-ltb k 0 (omega arith))

pub no_row : (e c k : ℕ) → row_back [] [] e c k ≡ []
unfolding row_back all_of
no_row e c k = rw (le-ltb k 0 (omega arith))

pub any-edge : (fields : List ℕ) (e n c : ℕ) → plain_back fields n c ≡ code_back fields [] [] e n c
unfolding code_back
any-edge fields e n c = ap (λ (ls : List ℕ). cond (is_escaped c) ls (cond (leb 32768 c) (element_back (n + (c - 32768))) (field_back fields c))) (no_row 0 c (bisect [] 0) ∙ sym (no_row e c (bisect [] e)))

-- Without the escapes an escaped code cannot be read, from wherever one starts: so the label from the nearest escape is the one from the first edge.
module _ (codes fields : List ℕ) (e : ℕ) where
  abbrev d : Coded
  d = plain_of codes fields

  module _ (g : ℕ) (h : eqb (codes ! g) 65535 ≡ true) where
    none_there : (n : ℕ) → label d g n ≡ []
    unfolding code_back
    none_there n = ap (code_back fields [] [] g n) (eqb-true (codes ! g) 65535 h) ∙ no_row g 65535 (bisect [] g)

    behind_none : (ns : List ℕ) → behind d g ns ≡ []
    behind_none [] = refl
    behind_none (n ∷ ns) = ap (next_of n) (none_there n)

    exactly_none : (ns : List ℕ) → exactly d g ns ≡ []
    exactly_none ns = go (leb 32768 (codes ! g)) ns
      where
        go : (b : Bool) (ns : List ℕ) → cond b (onward (label d g) ns) (label d g 0) ≡ []
        go true [] = refl
        go true (n ∷ ns) = none_there n
        go false ns = none_there 0

  next-plain : (k : ℕ) → late_next d e k ≡ next_back d e k
  next-plain zero = late_none d e ∙ sym (next_none d e)
  next-plain (suc k) = late_more d e k ∙ go (eqb (codes ! (e + k)) 65535) refl (next-plain k) ∙ sym (next_more d e k)
    where
      go : (b : Bool) → eqb (codes ! (e + k)) 65535 ≡ b → late_next d e k ≡ next_back d e k → behind d (e + k) (cond b (0 ∷ []) (late_next d e k)) ≡ behind d (e + k) (next_back d e k)
      go true h same = behind_none (e + k) h (0 ∷ []) ∙ sym (behind_none (e + k) h (next_back d e k))
      go false h same = ap (behind d (e + k)) same

  pub late_plain : (k : ℕ) → late_back d e k ≡ exact_back d e k
  late_plain k = late_is d e k ∙ go (eqb (codes ! (e + k)) 65535) refl ∙ sym (exact_more d e k)
    where
      go : (b : Bool) → eqb (codes ! (e + k)) 65535 ≡ b → exactly d (e + k) (cond b (0 ∷ []) (late_next d e k)) ≡ exactly d (e + k) (next_back d e k)
      go true h = exactly_none (e + k) h (0 ∷ []) ∙ sym (exactly_none (e + k) h (next_back d e k))
      go false h = ap (exactly d (e + k)) (next-plain k)
