-- Uses counted up to 65,535 by place: one label after the other, and what they come to. Assumes nothing.
use Prim.Native.Nat.{ℕ, ◌+◌, ◌≤◌, ◌<◌, min}
use native.Mathlib.Omega.{arith}
use mathlib.Core.Path.{◌≡◌, refl, sym, ap, ◌∙◌}
use mathlib.Core.Bool.{Bool, true, false}
use mathlib.Core.List.{List, [], ◌∷◌}
use lib.Dec.{eqb}
use lib.ListN.{length, length-set, length-replicate}
use lib.Seq.{get_or-set_same, get_or-set_other}
use borrow.Author.Tests.{eqb-true, eqb-false}
use Rattle.columns.specs.Lists.{◌!◌, one, count}
use Rattle.columns.specs.Columns.{zeros}
use Rattle.columns.proofs.Written.{zero-at}
use Rattle.rules.specs.Types.{loader_label}
use Rattle.labels.specs.Coding.{table_place}
use Rattle.labels.specs.Fields.{table_label}
use Rattle.labels.proofs.Table.{slot-label, label-slot}
use Rattle.need_escapes.specs.Uncoded.{cap, capped}

pub cap-length : (names : ℕ) (t : List ℕ) (l : ℕ) → length (cap names t l) ≡ length t
cap-length names t l = length-set t (table_place names l) (min 65535 (t ! table_place names l + 1))

-- at a label's place: how often the list has the label, up to 65,535
module _ (names i : ℕ) (few : names ≤ loader_label) (h : i ≤ names) where
  cap-at : (t : List ℕ) (l : ℕ) → i < length t → t ! i ≤ 65535 → cap names t l ! i ≡ min 65535 (t ! i + one (eqb l (table_label names i)))
  cap-at t l m low = go (eqb l (table_label names i)) refl
    where
      go : (b : Bool) → eqb l (table_label names i) ≡ b → cap names t l ! i ≡ min 65535 (t ! i + one b)
      go true e =
          let is : table_place names l ≡ i = ap (table_place names) (eqb-true l (table_label names i) e) ∙ slot-label names i few h in
          rw is (get_or-set_same t i (min 65535 (t ! i + 1)) 0 m)
      go false e =
          get_or-set_other t (table_place names l) i (min 65535 (t ! table_place names l + 1)) 0
          (λ q. eqb-false l (table_label names i) e (sym (label-slot names l few (omega arith)) ∙ ap (table_label names) (sym q)))
          ∙ omega arith

  capped_at : (t ls : List ℕ) → i < length t → t ! i ≤ 65535 → capped names t ls ! i ≡ min 65535 (t ! i + count (table_label names i) ls)
  capped_at t [] m low = omega arith
  capped_at t (l ∷ ls) m low =
      let c = cap-at t l m low in
      omega (arith, c, capped_at (cap names t l) ls (omega (arith, cap-length names t l)) (omega (arith, c)))

  pub capped-count : (n : ℕ) (ls : List ℕ) → i < n → capped names (zeros n) ls ! i ≡ min 65535 (count (table_label names i) ls)
  capped-count n ls m = capped_at (zeros n) ls (omega (arith, length-replicate {A = ℕ} n 0)) (omega (arith, zero-at n i)) ∙ omega (arith, zero-at n i)
