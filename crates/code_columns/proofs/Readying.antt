-- What the checks of a build and of `from_parts` find is what coding needs. Assumes nothing.
use Prim.Native.Nat.{ℕ, zero, suc, ◌+◌, ◌-◌, ◌≤◌, ◌<◌}
use native.Mathlib.Omega.{arith}
use mathlib.Core.Path.{◌≡◌, refl, sym, ap, ◌∙◌}
use mathlib.Core.Logic.{◌⊎◌, inl, inr, ⊎_elim}
use mathlib.Core.Bool.{Bool, true, false, true≢false}
use mathlib.Core.List.{List, [], ◌∷◌}
use lib.Dec.{ltb, leb}
use lib.ListN.{length}
use borrow.Author.Tests.{eqb-true, ltb-true, leb-true, ltb-false, not-false}
use Rattle.columns.specs.Lists.{◌!◌, any_of}
use Rattle.columns.proofs.Lists.{lt_or_ge}
use Rattle.columns.proofs.Tests.{none_of, each_of}
use Rattle.columns.proofs.Sums.{part_at}
use Rattle.rules.specs.Types.{loader_label, array_element_label}
use Rattle.rules.specs.Input.{Schema, class_count}
use Rattle.rules.specs.Edges.{Parts}
use Rattle.rules.specs.Needs.{objects_of}
use Rattle.rules.specs.Verdict.{schema_lengths, limits, over_limit, bad_class}
use Rattle.rules.specs.Labels.{own}
use Rattle.rules.specs.Parts.{is_named}
use Rattle.rules.proofs.Meets.{Meets}
use Rattle.labels.specs.Fields.{Ranges}
use Rattle.need_escapes.specs.Uncoded.{KnownLabels}
use Rattle.code_stages.specs.Stages.{Ready}
use Rattle.code_columns.specs.Finished.{naming_of}

-- LENGTHS and CLASS: the ranges of slots and statics stand inside their columns
pub ready_ranges : (s : Schema) → schema_lengths s ≡ false → ((c : ℕ) → c < class_count s → bad_class s c ≡ false) → Ranges (naming_of s) (class_count s)
unfolding schema_lengths bad_class
ready_ranges s lengths class =
    let k = none_of _ (none_of _ lengths 1) in
    let a : length s.classes.slot_start ≡ class_count s = eqb-true _ _ (not-false _ (k 0)) in
    let b : length s.classes.slot_end ≡ class_count s = eqb-true _ _ (not-false _ (k 1)) in
    let d : length s.classes.static_start ≡ class_count s = eqb-true _ _ (not-false _ (k 2)) in
    let e : length s.classes.static_end ≡ class_count s = eqb-true _ _ (not-false _ (k 3)) in
    let labels : length s.slots.labels ≡ length s.slots.offsets = eqb-true _ _ (not-false _ (none_of _ (none_of _ lengths 2) 0)) in
    record {
      slot_starts = omega arith;
      slot_ends = omega arith;
      static_starts = omega arith;
      static_ends = omega arith;
      slots = λ c h. (ltb-false _ _ (none_of _ (class c h) 2), omega (arith, ltb-false (length s.slots.offsets) (s.classes.slot_end ! c) (none_of _ (class c h) 3)));
      statics = λ c h. (ltb-false _ _ (none_of _ (class c h) 4), ltb-false _ _ (none_of _ (class c h) 5));
      types = eqb-true _ _ (not-false _ (none_of _ (none_of _ lengths 3) 0));
    }

-- the object that an edge is of
locate : (offsets : List ℕ) (e m : ℕ) → offsets ! 0 ≤ e → e < offsets ! m → (o : ℕ) × (o < m) × (offsets ! o ≤ e) × (e < offsets ! suc o)
locate offsets e zero a b = absurd (omega arith)
locate offsets e (suc m) a b = go (lt_or_ge e (offsets ! m)) (locate offsets e m a)
  where
    go : (e < offsets ! m) ⊎ (offsets ! m ≤ e) → (e < offsets ! m → (o : ℕ) × (o < m) × (offsets ! o ≤ e) × (e < offsets ! suc o))
        → (o : ℕ) × (o < suc m) × (offsets ! o ≤ e) × (e < offsets ! suc o)
    go (inl l) ih = let r = ih l in (r.0, omega (arith, r.1), r.2, r.3)
    go (inr g) ih = (m, omega arith, g, b)

-- PARTS: "labels below the name count, `LOADER` or elements"
named-label : (names l : ℕ) → is_named names l ≡ true → (l < names) ⊎ ((l ≡ loader_label) ⊎ (array_element_label ≤ l))
unfolding any_of
named-label names l e = go (ltb l names) refl (leb loader_label l) refl (each_of _ e 0)
  where
    high : loader_label ≤ l → (l < names) ⊎ ((l ≡ loader_label) ⊎ (array_element_label ≤ l))
    high h = ⊎_elim (λ m. inr (inl (omega arith))) (λ m. inr (inr m)) (lt_or_ge l array_element_label)

    go : (a : Bool) → ltb l names ≡ a → (b : Bool) → leb loader_label l ≡ b → any_of (a ∷ b ∷ []) ≡ true → (l < names) ⊎ ((l ≡ loader_label) ⊎ (array_element_label ≤ l))
    go true p b q t = inl (ltb-true l names p)
    go false p true q t = high (leb-true loader_label l q)
    go false p false q t = absurd (true≢false (sym t))

pub ready_labels : (names : ℕ) (p : Parts) → Meets names p → KnownLabels names p.labels
ready_labels names p law e h =
    let r = locate p.offsets e (objects_of p) (omega (arith, law.starts)) (omega (arith, law.ends)) in
    let o = r.0 in
    let k = e - p.offsets ! o in
    let at : p.offsets ! o + k ≡ e = omega (arith, r.2) in
    let is : own p.offsets p.labels o ! k ≡ p.labels ! e
    = part_at p.labels (p.offsets ! o) (p.offsets ! suc o) k (omega (arith, r.2, r.3)) ∙ ap (λ (i : ℕ). p.labels ! i) at in
    named-label names (p.labels ! e) (ap (is_named names) (sym is) ∙ law.named o k r.1 (omega (arith, r.2, r.3)))

pub ready_parts : (s : Schema) (p : Parts) → schema_lengths s ≡ false → over_limit (objects_of p) s ≡ false
    → ((c : ℕ) → c < class_count s → bad_class s c ≡ false) → length p.labels ≤ 268435456 → Meets s.names p
    → Ready (naming_of s) (class_count s) s.names p.offsets p.labels
unfolding over_limit limits
ready_parts s p lengths within class few law = record {
  ranges = ready_ranges s lengths class;
  few_names = ltb-false _ _ (none_of _ within 1);
  few_offsets = omega (arith, ltb-false 67108864 (objects_of p) (none_of _ (none_of _ within 0) 0));
  few_labels = few;
  laid = record { some = law.some; starts = law.starts; rises = λ o h. law.rises o (omega arith); ends = law.ends };
  known = ready_labels s.names p law;
}
