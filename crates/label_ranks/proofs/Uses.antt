-- Uses that are counted by place: one label after the other, how many at most, and how often each label occurs. Assumes nothing.
use Prim.Native.Nat.{ℕ, ◌+◌, ◌≤◌, ◌<◌}
use native.Mathlib.Nat.{add-zero}
use native.Mathlib.Omega.{arith}
use mathlib.Core.Path.{◌≡◌, refl, sym, ap, ◌∙◌}
use mathlib.Core.Logic.{⊎_elim}
use mathlib.Core.Bool.{Bool, true, false}
use mathlib.Core.List.{List, [], ◌∷◌}
use lib.Dec.{eqb}
use lib.ListN.{length, take, length-set, length-take}
use lib.Seq.{get_or-set_same, get_or-set_other, set_out}
use borrow.Author.Tests.{eqb-true, eqb-false}
use Rattle.columns.specs.Lists.{◌!◌, one, count}
use Rattle.columns.specs.Columns.{zeros}
use Rattle.columns.proofs.Lists.{lt_or_ge}
use Rattle.columns.proofs.Written.{zero-at}
use Rattle.rules.specs.Types.{loader_label}
use Rattle.labels.specs.Coding.{table_place}
use Rattle.labels.specs.Fields.{table_label}
use Rattle.label_ranks.specs.Keys.{tally_label, uses}
use Rattle.labels.proofs.Table.{slot-label, label-slot}

pub tally-length : (names : ℕ) (t : List ℕ) (l : ℕ) → length (tally_label names t l) ≡ length t
tally-length names t l = length-set t (table_place names l) (t ! table_place names l + 1)

-- no place has more than there are labels
tally_few : (names : ℕ) (t : List ℕ) (l s : ℕ) → tally_label names t l ! s ≤ t ! s + 1
tally_few names t l s = go (eqb s p) refl
  where
    p : ℕ
    p = table_place names l

    go : (b : Bool) → eqb s p ≡ b → tally_label names t l ! s ≤ t ! s + 1
    go true e =
        let is : s ≡ p = eqb-true s p e in
        ⊎_elim
        (λ h. rw is (omega (arith, get_or-set_same t p (t ! p + 1) 0 h)))
        (λ h. rw (set_out t p (t ! p + 1) h) (omega arith))
        (lt_or_ge p (length t))
    go false e = omega (arith, get_or-set_other t p s (t ! p + 1) 0 (eqb-false s p e))

pub uses_few : (names : ℕ) (t ls : List ℕ) (s : ℕ) → uses names t ls ! s ≤ t ! s + length ls
uses_few names t [] s = omega arith
uses_few names t (l ∷ ls) s = omega (arith, uses_few names (tally_label names t l) ls s, tally_few names t l s)

-- at a label's place: how often the list has the label
module _ (names i : ℕ) (few : names ≤ loader_label) (h : i ≤ names) where
  tally-at : (t : List ℕ) (l : ℕ) → i < length t → tally_label names t l ! i ≡ t ! i + one (eqb l (table_label names i))
  tally-at t l m = go (eqb l (table_label names i)) refl
    where
      go : (b : Bool) → eqb l (table_label names i) ≡ b → tally_label names t l ! i ≡ t ! i + one b
      go true e =
          let is : table_place names l ≡ i = ap (table_place names) (eqb-true l (table_label names i) e) ∙ slot-label names i few h in
          rw is (get_or-set_same t i (t ! i + 1) 0 m)
      go false e =
          get_or-set_other t (table_place names l) i (t ! table_place names l + 1) 0
          (λ q. eqb-false l (table_label names i) e (sym (label-slot names l few (omega arith)) ∙ ap (table_label names) (sym q)))
          ∙ sym (add-zero (t ! i))

  pub uses-at : (t ls : List ℕ) → i < length t → uses names t ls ! i ≡ t ! i + count (table_label names i) ls
  uses-at t [] m = sym (add-zero (t ! i))
  uses-at t (l ∷ ls) m = omega (arith, uses-at (tally_label names t l) ls (omega (arith, tally-length names t l)), tally-at t l m)

-- counted from zeros, no place has more than the labels so far
pub zeros_few : (names : ℕ) (t labels : List ℕ) (i s : ℕ) → t ≡ zeros (length t) → uses names t (take i labels) ! s ≤ i
zeros_few names t labels i s e =
    omega (arith, uses_few names t (take i labels) s, length-take i labels, ap (λ (z : List ℕ). z ! s) e, zero-at (length t) s)
