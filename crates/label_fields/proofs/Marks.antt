-- Labels that are marked in a table: one after the other, what stands where, and that the marked ones are those that occur. Assumes nothing.
use Prim.Native.Nat.{ℕ, ◌+◌, ◌-◌, ◌≤◌, ◌<◌}
use native.Mathlib.Numerals.{add-one}
use native.Mathlib.Omega.{arith}
use mathlib.Core.Path.{◌≡◌, refl, sym, ap, ap₂, ◌∙◌}
use mathlib.Core.Bool.{Bool, true, false, cond}
use mathlib.Core.List.{List, [], ◌∷◌, ◌++◌, map-append, append_assoc, foldl-append}
use mathlib.Core.Option.{Option, none, some}
use lib.Dec.{eqb}
use lib.ListN.{length, take, length-set, length-map}
use lib.Seq.{get_or-set_same, get_or-set_other}
use borrow.Author.Tests.{eqb-true, eqb-false, eq-eqb, ne_eqb}
use Rattle.columns.specs.Lists.{◌!◌, find, next, found, part, places}
use Rattle.std.specs.List.{count_by}
use Rattle.columns.proofs.Lists.{tab_more, places-hit, places_miss}
use Rattle.columns.proofs.Folds.{fold-length}
use Rattle.columns.proofs.Parts.{places_ext}
use Rattle.columns.proofs.Sums.{part_at}
use Rattle.rules.specs.Types.{loader_label}
use Rattle.rules.specs.Labels.{occurring}
use Rattle.labels.specs.Coding.{table_place}
use Rattle.labels.specs.Fields.{table_label, slots_named, is_object, statics_named, Naming, named_by}
use Rattle.label_fields.specs.Marks.{mark_label, mark_labels, is_marked, marked_labels}
use Rattle.labels.proofs.Counted.{count-places}
use Rattle.labels.proofs.Table.{slot-label, label-slot, label-places}

-- t₀ has become t, where the names of a list are marked; and some names more
pub record Marking (names : ℕ) (t₀ ls t : List ℕ) : Type 0 where
  pub holds : t ≡ mark_labels names t₀ ls
  pub same : length t ≡ length t₀

pub marking_none : (names : ℕ) (t : List ℕ) → Marking names t [] t
marking_none names t = record { holds = refl; same = refl }

pub marking_more : {names : ℕ} {t₀ xs t : List ℕ} (ys : List ℕ) {zs u : List ℕ} → Marking names t₀ xs t → zs ≡ xs ++ ys → u ≡ mark_labels names t ys → Marking names t₀ zs u
marking_more {names} {t₀} {xs} {t} ys {zs} {u} w e m =
    let is : u ≡ mark_labels names t₀ zs = m ∙ ap (λ (z : List ℕ). mark_labels names z ys) w.holds ∙ sym (foldl-append (mark_label names) t₀ xs ys) ∙ ap (mark_labels names t₀) (sym e) in
    record { holds = is; same = ap length is ∙ fold-length (mark_label names) (λ t l. length-set t (table_place names l) 1) t₀ zs }

-- one slot more, of a range that starts at `from`
pub slots_more : (names : List ℕ) (from to i : ℕ) → i < to - from → slots_named names from (i + 1) ≡ slots_named names from i ++ (part names from to ! i ∷ [])
slots_more names from to i l = rw (part_at names from to i l) (tab_more (λ k. names ! (from + k)) i)

-- the names up to the place behind i, of a range that starts at `from`
module _ (names : List ℕ) (from i : ℕ) (low : from ≤ i) where
  module _ (types : List ℕ) where
    object_at : (b : Bool) → eqb (types ! i) 2 ≡ b → is_object types from (i - from) ≡ b
    object_at b h = let at : from + (i - from) ≡ i = omega arith in rw at h

    pub statics-hit : eqb (types ! i) 2 ≡ true → statics_named names types from (i + 1 - from) ≡ statics_named names types from (i - from) ++ (names ! i ∷ [])
    statics-hit h =
        let e : i + 1 - from ≡ i - from + 1 = omega arith in
        let at : from + (i - from) ≡ i = omega arith in
        rw (e, places-hit (is_object types from) (i - from) (object_at true h), map-append (λ k. names ! (from + k))) (rw at)

    pub statics_miss : eqb (types ! i) 2 ≡ false → statics_named names types from (i + 1 - from) ≡ statics_named names types from (i - from)
    statics_miss h =
        let e : i + 1 - from ≡ i - from + 1 = omega arith in
        rw (e, places_miss (is_object types from) (i - from) (object_at false h))

-- one class more
pub named_more : (s : Naming) (c : ℕ)
    → named_by s (c + 1) ≡ (named_by s c ++ slots_named s.labels (s.slot_start ! c) (s.slot_end ! c - s.slot_start ! c)) ++ statics_named s.names s.types (s.static_start ! c) (s.static_end ! c - s.static_start ! c)
unfolding named_by
named_more s c = rw (add-one c) (sym (append_assoc (named_by s c) _ _))

-- What stands at a label's place: 1 where the list has the label.
module _ (names i : ℕ) (few : names ≤ loader_label) (h : i ≤ names) where
  mark_at_lem : (t : List ℕ) (l : ℕ) → i < length t → mark_label names t l ! i ≡ cond (eqb l (table_label names i)) 1 (t ! i)
  mark_at_lem t l m = go (eqb l (table_label names i)) refl
    where
      go : (a : Bool) → eqb l (table_label names i) ≡ a → mark_label names t l ! i ≡ cond a 1 (t ! i)
      go true e =
          let is : table_place names l ≡ i = ap (table_place names) (eqb-true l (table_label names i) e) ∙ slot-label names i few h in
          rw is (get_or-set_same t i 1 0 m)
      go false e =
          get_or-set_other t (table_place names l) i 1 0
          (λ q. eqb-false l (table_label names i) e (sym (label-slot names l few (omega arith)) ∙ ap (table_label names) (sym q)))

  marks-at : (t ls : List ℕ) → i < length t → mark_labels names t ls ! i ≡ cond (found (find ls (table_label names i))) 1 (t ! i)
  marks-at t [] m = refl
  marks-at t (l ∷ ls) m = marks-at (mark_label names t l) ls (omega (arith, length-set t (table_place names l) 1)) ∙ rw (mark_at_lem t l m) (go (eqb l (table_label names i)) (find ls (table_label names i)))
    where
      go : (a : Bool) (f : Option ℕ) → cond (found f) 1 (cond a 1 (t ! i)) ≡ cond (found (cond a (some 0) (next f))) 1 (t ! i)
      go true none = refl
      go true (some j) = refl
      go false none = refl
      go false (some j) = refl

-- "Rising, then `LOADER`": the labels marked in a table of zeros are those that occur.
pub marked_occurring : (names : ℕ) (t ls : List ℕ) → names ≤ loader_label → names + 1 ≤ length t → ((i : ℕ) → i ≤ names → t ! i ≡ 0) → marked_labels names (mark_labels names t ls) ≡ occurring names ls
unfolding marked_labels occurring
marked_occurring names t ls few long zero-at =
    let last : is_marked (mark_labels names t ls) names ≡ found (find ls loader_label) = same names (omega arith) ∙ rw (eq-eqb names names refl) in
    label-places names (is_marked (mark_labels names t ls))
    ∙ ap₂ ◌++◌ (places_ext _ _ names (λ i h. same i (omega arith) ∙ rw (ne_eqb i names (λ e. omega arith)))) (ap (λ (b : Bool). cond b (loader_label ∷ []) []) last)
  where
    one_is : (b : Bool) → eqb (cond b 1 0) 1 ≡ b
    one_is true = refl
    one_is false = refl

    same : (i : ℕ) → i ≤ names → is_marked (mark_labels names t ls) i ≡ found (find ls (table_label names i))
    same i h = rw (marks-at names i few h t ls (omega arith), zero-at i h) (one_is (found (find ls (table_label names i))))

-- how many labels are marked, counted place by place
pub marks-count : (names : ℕ) (table : List ℕ) → names + 1 ≤ length table → count_by (λ x. eqb x 1) (take (names + 1) table) ≡ length (marked_labels names table)
unfolding marked_labels
marks-count names table l = count-places (λ x. eqb x 1) table (names + 1) l ∙ sym (length-map (places (is_marked table) (names + 1)) (table_label names))
