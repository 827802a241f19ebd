-- The code table: where labels stand in it, and that it gives the code of each. Assumes nothing.
use Prim.Native.Nat.{ℕ, zero, suc, ◌+◌, ◌≤◌, ◌<◌}
use native.Mathlib.Numerals.{add-one}
use native.Mathlib.Omega.{arith}
use native.Mathlib.Decide.{dec_lt}
use mathlib.Core.Path.{◌≡◌, refl, sym, ap, ap₂, ◌∙◌}
use mathlib.Core.Logic.{⊎_elim}
use mathlib.Core.Bool.{Bool, true, false, cond}
use mathlib.Core.List.{List, [], ◌∷◌, ◌++◌, map, map-append}
use mathlib.Core.Option.{none}
use lib.Dec.{eqb, ltb}
use lib.ListN.{length, length-append, get_or-append}
use lib.Seq.{get_or_at, get_or-append-add, get_or-take}
use borrow.Author.Tests.{ltb-true, eqb-true, eqb-false, eq-eqb, ne_eqb, lt-ltb, le-ltb}
use Rattle.columns.specs.Lists.{◌!◌, tab, places, find}
use Rattle.columns.proofs.Lists.{lt_or_ge, tab-at, tab-length}
use Rattle.columns.proofs.Search.{find_none}
use Rattle.rules.specs.Types.{loader_label}
use Rattle.rules.specs.Labels.{field_code, code_table}
use Rattle.labels.specs.Coding.{table_place, TableOf}
use Rattle.labels.specs.Fields.{table_label}

pub slot_within : (names l : ℕ) → table_place names l ≤ names + 1
unfolding table_place
slot_within names l = go (eqb l loader_label) (ltb l names) refl
  where
    go : (a b : Bool) → ltb l names ≡ b → cond a names (cond b l (names + 1)) ≤ names + 1
    go true b e = omega arith
    go false true e = omega (arith, ltb-true l names e)
    go false false e = omega arith

-- Which case of `table_place` holds.
pub slot_loader : (names : ℕ) → table_place names loader_label ≡ names
unfolding table_place
slot_loader names = refl

pub slot_name : (names l : ℕ) → names ≤ loader_label → l < names → table_place names l ≡ l
unfolding table_place
slot_name names l few h = simp (ne_eqb l loader_label (λ e. omega arith), lt-ltb l names h)

pub slot_other : (names l : ℕ) → (l ≡ loader_label → ⊥) → names ≤ l → table_place names l ≡ names + 1
unfolding table_place
slot_other names l n h = simp (ne_eqb l loader_label n, le-ltb l names h)

-- A place's label leads back to the place, and a label's place to the label.
pub slot-label : (names i : ℕ) → names ≤ loader_label → i ≤ names → table_place names (table_label names i) ≡ i
slot-label names i few h = ⊎_elim
    (λ l. rw (ne_eqb i names (λ e. omega arith)) (slot_name names i few l))
    (λ l. let e : i ≡ names = omega arith in rw (e, eq-eqb names names refl) (slot_loader names))
    (lt_or_ge i names)

pub label-slot : (names l : ℕ) → names ≤ loader_label → table_place names l ≤ names → table_label names (table_place names l) ≡ l
label-slot names l few h = go (eqb l loader_label) refl (dec_lt l names)
  where
    go : (b : Bool) → eqb l loader_label ≡ b → Dec (l < names) → table_label names (table_place names l) ≡ l
    go true e d = rw (eqb-true l loader_label e, slot_loader names, eq-eqb names names refl)
    go false e (yes m) = rw (slot_name names l few m, ne_eqb l names (λ q. omega arith))
    go false e (no m) = absurd (omega (arith, slot_other names l (eqb-false l loader_label e) (omega arith)))

-- the labels of places up to the loader's: the places that are names, then the loader
pub label-places : (names : ℕ) (t : ℕ → Bool) → map (table_label names) (places t (names + 1)) ≡ places t names ++ cond (t names) (loader_label ∷ []) []
unfolding places
label-places names t = rw (add-one names, map-append (table_label names) (places t names) (cond (t names) (names ∷ []) [])) (ap₂ ◌++◌ (same names (omega arith)) (last (t names)))
  where
    last : (b : Bool) → map (table_label names) (cond b (names ∷ []) []) ≡ cond b (loader_label ∷ []) []
    last true = rw (eq-eqb names names refl)
    last false = refl

    same : (n : ℕ) → n ≤ names → map (table_label names) (places t n) ≡ places t n
    same zero l = refl
    same (suc n) l = map-append (table_label names) (places t n) (cond (t n) (n ∷ []) []) ∙ ap₂ ◌++◌ (same n (omega arith)) (one_name (t n))
      where
        one_name : (b : Bool) → map (table_label names) (cond b (n ∷ []) []) ≡ cond b (n ∷ []) []
        one_name true = rw (ne_eqb n names (λ e. omega arith))
        one_name false = refl

-- the table at each of its places
module _ (names : ℕ) (fields : List ℕ) where
  pub table_name : (l : ℕ) → l < names → code_table names fields ! l ≡ field_code fields l
  unfolding code_table
  table_name l h =
      get_or-append (tab (field_code fields) names) (field_code fields loader_label ∷ 32767 ∷ []) 0 l (omega (arith, tab-length (field_code fields) names))
      ∙ tab-at (field_code fields) 0 names l h

  pub table_loader : code_table names fields ! names ≡ field_code fields loader_label
  unfolding code_table
  table_loader = get_or_at (tab (field_code fields) names) (field_code fields loader_label) (32767 ∷ []) 0 names (tab-length (field_code fields) names)

  pub table_other : code_table names fields ! (names + 1) ≡ 32767
  unfolding code_table
  table_other =
      ap (λ (n : ℕ). (tab (field_code fields) names ++ (field_code fields loader_label ∷ 32767 ∷ [])) ! (n + 1)) (sym (tab-length (field_code fields) names))
      ∙ get_or-append-add (tab (field_code fields) names) (field_code fields loader_label ∷ 32767 ∷ []) 1 0

  pub table-length : length (code_table names fields) ≡ names + 2
  unfolding code_table
  table-length = length-append (tab (field_code fields) names) (field_code fields loader_label ∷ 32767 ∷ []) ∙ ap (λ (n : ℕ). n + 2) (tab-length (field_code fields) names)

-- A label's code by the table is its code among the fields.
module _ (names : ℕ) (fields table : List ℕ) (few : names ≤ loader_label) (law : TableOf names fields table) where
  at : (s : ℕ) → s < names + 2 → table ! s ≡ code_table names fields ! s
  at s h = sym (get_or-take (names + 2) table s 0 h) ∙ ap (λ (t : List ℕ). t ! s) law.front

  no_field : (l : ℕ) → (l ≡ loader_label → ⊥) → names ≤ l → field_code fields l ≡ 32767
  unfolding field_code
  no_field l n h =
      let none_is : find fields l ≡ none = find_none fields l (λ k m e. omega (arith, law.named k m, ap (table_place names) e, slot_other names l n h)) in
      rw none_is

  pub table-code : (l : ℕ) → table ! table_place names l ≡ field_code fields l
  table-code l = go (eqb l loader_label) refl (dec_lt l names)
    where
      go : (b : Bool) → eqb l loader_label ≡ b → Dec (l < names) → table ! table_place names l ≡ field_code fields l
      go true e b = rw (eqb-true l loader_label e, slot_loader names) (at names (omega arith) ∙ table_loader names fields)
      go false n (yes h) = rw (slot_name names l few h) (at l (omega arith) ∙ table_name names fields l h)
      go false n (no h) = rw (slot_other names l (eqb-false l loader_label n) (omega arith)) (at (names + 1) (omega arith) ∙ table_other names fields ∙ sym (no_field l (eqb-false l loader_label n) (omega arith)))
