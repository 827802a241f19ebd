-- The code table, written field by field from the last to the first. Assumes nothing.
use Prim.Native.Nat.{ℕ, suc, ◌+◌, ◌≤◌, ◌<◌}
use native.Mathlib.Nat.{add-zero}
use native.Mathlib.Omega.{arith}
use native.Mathlib.Decide.{dec_lt}
use mathlib.Core.Path.{◌≡◌, refl, sym, ap, ◌∙◌}
use mathlib.Core.Bool.{Bool, true, false, cond}
use mathlib.Core.List.{List, ◌++◌}
use mathlib.Core.Option.{Option, none, some}
use lib.Dec.{eqb}
use lib.ListN.{length, set, take, drop, length-set, length-take, take-append-drop, get_or-append}
use lib.Seq.{get_or-set_same, get_or-set_other, get_or-take, drop-set-lt, drop-cons, drop_at, drop-length, ext_get_or}
use borrow.Author.Tests.{eqb-true, eqb-false, eq-eqb, ne_eqb}
use Rattle.columns.specs.Lists.{◌!◌, find, next, or_else}
use Rattle.columns.specs.Columns.{over}
use Rattle.columns.proofs.Lists.{tab-at, tab-length}
use Rattle.columns.proofs.Written.{over-front}
use Rattle.rules.specs.Types.{loader_label}
use Rattle.rules.specs.Labels.{field_code, code_table}
use Rattle.labels.specs.Coding.{table_place, TableOf}
use Rattle.labels.specs.Fields.{table_label, Named}
use Rattle.label_fields.specs.Marks.{uncoded}
use Rattle.labels.proofs.Table.{slot-label, label-slot, table_name, table_loader, table_other, table-length}

-- the code of what is found among the fields from place k on
abbrev later : ℕ → Option ℕ → ℕ
later k none = 32767
later k (some i) = i + k

-- t₀ has become t: a table of the fields from place k on
pub record Tabling (names : ℕ) (fields t₀ t : List ℕ) (k : ℕ) : Type 0 where
  pub at : (i : ℕ) → i ≤ names → t ! i ≡ later k (find (drop k fields) (table_label names i))
  pub other : t ! (names + 1) ≡ 32767
  pub rest : drop (names + 2) t ≡ drop (names + 2) t₀
  pub same : length t ≡ length t₀

module _ (names : ℕ) (fields t₀ : List ℕ) (long : names + 2 ≤ length t₀) where
  -- a table without codes, and what stands behind it
  module _ (d : List ℕ) (e : t₀ ≡ over (uncoded (names + 2)) d) where
    cleared_is : t₀ ≡ uncoded (names + 2) ++ drop (names + 2) d
    unfolding over
    cleared_is = e ∙ ap (λ (k : ℕ). uncoded (names + 2) ++ drop k d) (tab-length {A = ℕ} (λ i. 32767) (names + 2))

    none_at : (i : ℕ) → i < names + 2 → t₀ ! i ≡ 32767
    none_at i l =
        ap (λ (z : List ℕ). z ! i) cleared_is
        ∙ get_or-append (uncoded (names + 2)) (drop (names + 2) d) 0 i (omega (arith, tab-length {A = ℕ} (λ i. 32767) (names + 2)))
        ∙ tab-at (λ i. 32767) 0 (names + 2) i l

    pub tabling_none : Tabling names fields t₀ t₀ (length fields)
    tabling_none = record {
      at = λ i l. none_at i (omega arith) ∙ ap (λ (z : List ℕ). later (length fields) (find z (table_label names i))) (sym (drop-length fields));
      other = none_at (names + 1) (omega arith);
      rest = refl;
      same = refl;
    }

    behind : drop (names + 2) t₀ ≡ drop (names + 2) d
    behind = ap (drop (names + 2)) cleared_is ∙ drop_at (uncoded (names + 2)) (drop (names + 2) d) (names + 2) (tab-length {A = ℕ} (λ i. 32767) (names + 2))

  -- the field at j gets its code: it is found first, and all others as before
  later_step : (j f l : ℕ) (o : Option ℕ) → later j (cond (eqb f l) (some 0) (next o)) ≡ cond (eqb f l) j (later (suc j) o)
  later_step j f l o = go (eqb f l) o
    where
      go : (b : Bool) (o : Option ℕ) → later j (cond b (some 0) (next o)) ≡ cond b j (later (suc j) o)
      go true o = omega arith
      go false none = refl
      go false (some i) = omega arith

  pub tabling_field : (t : List ℕ) (j : ℕ) → names ≤ loader_label → j < length fields → table_place names (fields ! j) ≤ names → Tabling names fields t₀ t (suc j)
      → Tabling names fields t₀ (set t (table_place names (fields ! j)) j) j
  tabling_field t j few h named w = record {
    at = λ i l. rw (drop-cons fields j 0 h, later_step j f (table_label names i) (find (drop (suc j) fields) (table_label names i))) (go i l (eqb f (table_label names i)) refl);
    other = get_or-set_other t s (names + 1) j 0 (λ q. omega arith) ∙ w.other;
    rest = drop-set-lt (names + 2) t s j (omega arith) ∙ w.rest;
    same = length-set t s j ∙ w.same;
  }
    where
      f : ℕ
      f = fields ! j

      s : ℕ
      s = table_place names f

      go : (i : ℕ) → i ≤ names → (b : Bool) → eqb f (table_label names i) ≡ b → set t s j ! i ≡ cond b j (later (suc j) (find (drop (suc j) fields) (table_label names i)))
      go i l true e =
          let is : s ≡ i = ap (table_place names) (eqb-true f (table_label names i) e) ∙ slot-label names i few l in
          rw is (get_or-set_same t i j 0 (omega (arith, w.same)))
      go i l false e =
          get_or-set_other t s i j 0 (λ q. eqb-false f (table_label names i) e (sym (label-slot names f few named) ∙ ap (table_label names) (sym q))) ∙ w.at i l

  -- all fields have their codes
  later_none : (o : Option ℕ) → later 0 o ≡ or_else 32767 o
  later_none none = refl
  later_none (some i) = add-zero i

  pub tabling_end : (d t : List ℕ) → t₀ ≡ over (uncoded (names + 2)) d → Tabling names fields t₀ t 0 → t ≡ over (code_table names fields) d
  unfolding over field_code
  tabling_end d t e w =
      rw (table-length names fields, ← behind d e, ← w.rest) (sym (take-append-drop (names + 2) t) ∙ ap (λ (z : List ℕ). z ++ drop (names + 2) t) front)
    where
      code : (i : ℕ) → i ≤ names → t ! i ≡ field_code fields (table_label names i)
      code i l = w.at i l ∙ later_none (find fields (table_label names i))

      place : (i : ℕ) → i < names + 2 → t ! i ≡ code_table names fields ! i
      place i l = go (dec_lt i names) (dec_lt i (names + 1))
        where
          go : Dec (i < names) → Dec (i < names + 1) → t ! i ≡ code_table names fields ! i
          go (yes m) d = code i (omega arith) ∙ rw (ne_eqb i names (λ q. omega arith)) (sym (table_name names fields i m))
          go (no m) (yes n) = let e : i ≡ names = omega arith in rw e (code names (omega arith) ∙ rw (eq-eqb names names refl) (sym (table_loader names fields)))
          go (no m) (no n) = let e : i ≡ names + 1 = omega arith in rw e (w.other ∙ sym (table_other names fields))

      front : take (names + 2) t ≡ code_table names fields
      front = ext_get_or 0 (take (names + 2) t) (code_table names fields) (omega (arith, length-take (names + 2) t, table-length names fields, w.same))
          (λ i l. get_or-take (names + 2) t i 0 (omega (arith, length-take (names + 2) t)) ∙ place i (omega (arith, length-take (names + 2) t)))

-- what `write_table` leaves is a table of the fields
pub table_written : (names : ℕ) (fields t₀ t : List ℕ) → Named names fields → t ≡ over (code_table names fields) t₀ → TableOf names fields t
table_written names fields t₀ t named e = record {
  named = named;
  front = ap (take (names + 2)) e ∙ over-front (code_table names fields) t₀ (names + 2) (table-length names fields);
}
