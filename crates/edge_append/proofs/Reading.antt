-- The references as the functions read them are the references of the definitions. Assumes nothing.
use Prim.Native.Nat.{ℕ, zero, suc, ◌+◌, ◌-◌, ◌%◌, ◌^◌, ◌<◌}
use mathlib.Core.Path.{◌≡◌, refl, ap, ◌∙◌}
use mathlib.Core.Bool.{Bool, true}
use mathlib.Core.List.{List, [], ◌∷◌}
use native.Mathlib.Omega.{arith}
use borrow.Author.Tests.{eq-eqb, ne_eqb}
use Rattle.columns.specs.Lists.{◌!◌, collect, tab}
use Rattle.index.specs.Copied.{Ids}
use Rattle.rules.specs.Types.{loader_label, array_element_label, element_label, keeps}
use Rattle.rules.specs.declared.ReferencePolicy.{ReferencePolicy}
use Rattle.rules.specs.Input.{copied_id}
use Rattle.edge_append.specs.Append.{ref_of}
use Rattle.edge_append.specs.Held.{kept_of, slot_with, element_with, copied_slot, copied_element, copied_slots, copied_elements, static_ref_at, static_from, statics_at, loader_at}

pub slot_read : (labels weak : List ℕ) (keeps : Bool) (place id : ℕ) {kept : Bool} → kept ≡ kept_of (weak ! place) keeps → ref_of 0 (labels ! place) kept id ≡ slot_with labels weak keeps place id
unfolding slot_with
slot_read labels weak keeps place id e = ap (λ (b : Bool). ref_of 0 (labels ! place) b id) e

-- l is a label that a function of `rules::Label` made; an array's index has the 31 bits that it counts.
pub element-read : (k id : ℕ) → k < 2 ^ 31 → {n l : ℕ} → n ≡ k → l ≡ element_label n → ref_of 1 l true id ≡ element_with k id
unfolding element_with
element-read k id small e made =
    let whole : k % array_element_label ≡ k = omega (arith, small) in
    ap (λ (l : ℕ). ref_of 1 l true id) (made ∙ ap element_label e ∙ ap (λ (i : ℕ). array_element_label + i) whole)

module _ (c : Ids) (start k : ℕ) {id : ℕ} (e : id ≡ copied_id c (start + k)) where
  pub copied-slot : (labels weak : List ℕ) (keeps : Bool) (first : ℕ) → slot_with labels weak keeps (first + k) id ≡ copied_slot c start labels weak keeps first k
  unfolding copied_slot
  copied-slot labels weak keeps first = ap (slot_with labels weak keeps (first + k)) e

  pub copied-element : element_with k id ≡ copied_element c start k
  unfolding copied_element
  copied-element = ap (element_with k) e

module _ (names types values : List ℕ) (place : ℕ) where
  pub static_object : types ! place ≡ 2 → {l : ℕ} → l ≡ names ! place → ref_of 2 l true (values ! place) ∷ [] ≡ static_ref_at names types values place
  unfolding static_ref_at
  static_object e made = rw (made, eq-eqb _ _ e)

  pub static_skipped : (types ! place ≡ 2 → ⊥) → [] ≡ static_ref_at names types values place
  unfolding static_ref_at
  static_skipped h = rw (ne_eqb _ _ h)

-- An object of another kind has no slots, no elements.
module _ (c : Ids) (start : ℕ) (kinds starts ends labels weak : List ℕ) (policy : ReferencePolicy) (kind class : ℕ) where
  pub slots_none : (kind ≡ 0 → ⊥) → [] ≡ copied_slots c start kinds starts ends labels weak policy kind class
  unfolding copied_slots tab
  slots_none h = rw (ne_eqb _ _ h)

  pub slots_some : kind ≡ 0 → {kept : Bool} {first last : ℕ} → kept ≡ keeps policy (kinds ! class) → first ≡ starts ! class → last ≡ ends ! class
      → tab (copied_slot c start labels weak kept first) (last - first) ≡ copied_slots c start kinds starts ends labels weak policy kind class
  unfolding copied_slots
  slots_some h e f g = rw (eq-eqb _ _ h, e, f, g)

module _ (c : Ids) (start kind count : ℕ) where
  pub elements_none : (kind ≡ 1 → ⊥) → [] ≡ copied_elements c start kind count
  unfolding copied_elements tab
  elements_none h = rw (ne_eqb _ _ h)

  pub elements_some : kind ≡ 1 → tab (copied_element c start) count ≡ copied_elements c start kind count
  unfolding copied_elements
  elements_some h = rw (eq-eqb _ _ h)

-- A mark that is not 0 is a class and one.
module _ (starts ends names types values : List ℕ) where
  pub statics_none : (mark : ℕ) → mark ≡ 0 → [] ≡ statics_at starts ends names types values mark
  unfolding statics_at
  statics_none mark e = rw e

  pub statics_some : (mark : ℕ) → (mark ≡ 0 → ⊥) → {first last : ℕ} → first ≡ starts ! (mark - 1) → last ≡ ends ! (mark - 1)
      → collect (static_from names types values first) (last - first) ≡ statics_at starts ends names types values mark
  unfolding statics_at
  statics_some zero h e f = absurd (h refl)
  statics_some (suc c) h e f =
      let p : suc c - 1 ≡ c = omega arith in
      rw (e, f, p)

module _ (loaders : List ℕ) where
  pub loader_none : (mark : ℕ) → mark ≡ 0 → [] ≡ loader_at loaders mark
  unfolding loader_at
  loader_none mark e = rw e

  pub loader_some : (mark : ℕ) → (mark ≡ 0 → ⊥) → {l : ℕ} → l ≡ loader_label → ref_of 3 l true (loaders ! (mark - 1)) ∷ [] ≡ loader_at loaders mark
  unfolding loader_at
  loader_some zero h made = absurd (h refl)
  loader_some (suc c) h made =
      let p : suc c - 1 ≡ c = omega arith in
      rw (made, p)
