-- `field` and `referent`: which case of their definitions holds. Assumes nothing.
use Prim.Native.Nat.{ℕ, ◌+◌, ◌-◌, ◌≤◌, ◌<◌}
use native.Mathlib.Omega.{arith}
use mathlib.Core.Path.{◌≡◌, refl, sym, ap, ◌∙◌}
use mathlib.Core.Bool.{Bool, true, false, cond}
use mathlib.Core.List.{List, [], ◌∷◌}
use lib.Dec.{eqb, ltb}
use lib.ListN.{length}
use Rattle.std.specs.Prelude.{None, Some, Ok}
use borrow.Author.Tests.{lt-ltb, le-ltb, ltb-true, le-leb, lt-leb, eq-eqb, ne_eqb}
use Rattle.columns.specs.Lists.{◌!◌, first_place, all_of}
use Rattle.columns.specs.Columns.{accepts}
use Rattle.rules.specs.Types.{array_element_label, is_element}
use Rattle.rules.specs.Labels.{Coded}
use Rattle.rules.specs.Questions.{Columns}
use Rattle.labels.specs.Reading.{coarse_back}
use Rattle.ask_span.specs.Reading.{weak_rows_of}
use Rattle.ask_span.specs.Graph.{span_in}
use Rattle.ask_field.specs.Sought.{Sought, first_sought, element_at, stops, if_read, decoded, sought_in, sought_target, field_found, first_weak, or_weak, referent_found}

-- Which case of `sought_in` holds, and that an edge that is found is one of the n.
module _ (d : Coded) (e n l : ℕ) where
  pub sought_element : l ≡ array_element_label → Ok (first_sought (element_at d e) n) ≡ sought_in d e n l
  unfolding sought_in
  sought_element q = rw (eq-eqb l array_element_label q)

  pub sought_other : (l ≡ array_element_label → ⊥) → array_element_label ≤ l → Ok None ≡ sought_in d e n l
  unfolding sought_in
  sought_other q h = rw (ne_eqb l array_element_label q, le-leb array_element_label l h)

  pub sought_field : l < array_element_label → decoded d e n l ≡ sought_in d e n l
  unfolding sought_in
  sought_field h = rw (ne_eqb l array_element_label (λ q. omega arith), lt-leb array_element_label l h)

within_placed : (t : ℕ → Bool) (n k : ℕ) → Some k ≡ first_sought t n → k < n
unfolding first_sought
within_placed t n k e = go (ltb (first_place t n) n) refl e
  where
    go : (b : Bool) → ltb (first_place t n) n ≡ b → Some k ≡ cond b (Some (first_place t n)) None → k < n
    go true h e = let z : k ≡ first_place t n = cc in omega (arith, ltb-true (first_place t n) n h)
    go false h e = let z : ◌≡◌ {A = ℕ} 0 1 = cc in absurd (omega arith)

within_decoded : (d : Coded) (e n l k : ℕ) → Ok (Some k) ≡ decoded d e n l → k < n
unfolding decoded
within_decoded d e n l k h = go (ltb j n) refl (coarse_back d (e + j)) h
  where
    j : ℕ
    j = first_place (stops d e l) n

    go : (b : Bool) → ltb j n ≡ b → (ls : List ℕ) → Ok (Some k) ≡ cond b (if_read ls j) (Ok None) → k < n
    go true h [] e = let z : ◌≡◌ {A = ℕ} 0 1 = cc in absurd (omega arith)
    go true h (a ∷ ls) e = let z : k ≡ j = cc in omega (arith, ltb-true j n h)
    go false h ls e = let z : ◌≡◌ {A = ℕ} 0 1 = cc in absurd (omega arith)

pub sought_within : (d : Coded) (e n l : ℕ) {k : ℕ} → Ok (Some k) ≡ sought_in d e n l → k < n
unfolding sought_in
sought_within d e n l {k} h = go (eqb l array_element_label) (is_element l) h
  where
    go : (a b : Bool) → Ok (Some k) ≡ cond a (Ok (first_sought (element_at d e) n)) (cond b (Ok None) (decoded d e n l)) → k < n
    go true b h = let z : Some k ≡ first_sought (element_at d e) n = cc in within_placed (element_at d e) n k z
    go false true h = let z : ◌≡◌ {A = ℕ} 0 1 = cc in absurd (omega arith)
    go false false h = within_decoded d e n l k h

-- Which case of `field_found` holds.
module _ (c : Columns) (o l : ℕ) where
  pub field_is : {a b : ℕ} {s : Sought} → span_in c o ≡ 0 ∷ a ∷ b ∷ [] → s ≡ sought_in c.labels a (b - a) l → sought_target c.targets a o s ≡ field_found c o l
  unfolding field_found accepts
  field_is {a} {b} {s} e q = rw (e, q)

  pub field_refused : {says : List ℕ} → says ≡ span_in c o → accepts says ≡ false → says ≡ field_found c o l
  unfolding field_found
  field_refused {says} e f = let z : accepts (span_in c o) ≡ false = ap accepts (sym e) ∙ f in rw z e

-- Which case of `first_weak` and `referent_found` holds.
pub weak_refused : {says at : List ℕ} (to : List ℕ) → says ≡ at → accepts says ≡ false → says ≡ first_weak at to
unfolding first_weak
weak_refused {says} {at} to e f = let z : accepts at ≡ false = ap accepts (sym e) ∙ f in rw z e

pub weak-empty : (a b : ℕ) (to : List ℕ) → b ≤ a → first_weak (0 ∷ a ∷ b ∷ []) to ≡ 0 ∷ []
unfolding first_weak accepts
weak-empty a b to l = rw (le-ltb a b l)

pub weak-first : (a b : ℕ) (to : List ℕ) → a < b → first_weak (0 ∷ a ∷ b ∷ []) to ≡ 0 ∷ to ! a ∷ []
unfolding first_weak accepts
weak-first a b to l = rw (lt-ltb a b l)

module _ (c : Columns) (o l : ℕ) where
  abbrev weakly : List ℕ
  weakly = first_weak (weak_rows_of (length c.offsets.short) c.weak_from c.weak_to o) c.weak_to

  pub referent-field : {t : ℕ} → 0 ∷ t ∷ [] ≡ field_found c o l → 0 ∷ t ∷ [] ≡ referent_found c o l
  unfolding referent_found accepts all_of
  referent-field e = ap (λ (f : List ℕ). or_weak f weakly) e

  pub referent-weak : {says : List ℕ} → 0 ∷ [] ≡ field_found c o l → says ≡ weakly → says ≡ referent_found c o l
  unfolding referent_found accepts all_of
  referent-weak e w = w ∙ ap (λ (f : List ℕ). or_weak f weakly) e

  pub referent_refused : {says : List ℕ} → says ≡ field_found c o l → accepts says ≡ false → says ≡ referent_found c o l
  unfolding referent_found all_of
  referent_refused {says} e f = let z : accepts (field_found c o l) ≡ false = ap accepts (sym e) ∙ f in rw z e
