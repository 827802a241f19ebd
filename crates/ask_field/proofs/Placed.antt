-- Walks over an object's edges that look for one. Assumes nothing.
use Prim.Native.Nat.{ℕ, ◌+◌, ◌%◌, ◌≤◌, ◌<◌}
use native.Mathlib.Omega.{arith}
use mathlib.Core.Path.{◌≡◌, sym, ap, ◌∙◌}
use mathlib.Core.Bool.{Bool, true, false, cond}
use mathlib.Core.Logic.{◌⊎◌, inl, inr}
use mathlib.Core.List.{List, [], ◌∷◌}
use lib.Dec.{ltb}
use lib.ListN.{length}
use Rattle.std.specs.Prelude.{None, Some, Ok}
use borrow.Author.Tests.{lt-ltb, le-ltb, lt-leb, le-leb, eq-eqb, ne_eqb}
use Rattle.columns.specs.Lists.{◌!◌, first_place, all_of}
use Rattle.columns.proofs.Lists.{lt_or_ge}
use Rattle.columns.proofs.First.{Searching, searching_more, searching_hit, searching_end}
use Rattle.columns.proofs.Parts.{first_ext}
use Rattle.columns.proofs.Tests.{no_places}
use Rattle.rules.specs.Types.{array_element_label}
use Rattle.rules.specs.Labels.{Coded}
use Rattle.labels.specs.Reading.{field_back, code_back, coarse_back}
use Rattle.ask_field.specs.Sought.{unread, first_sought, Unsaid, stops, decoded}

-- A walk that looks for an element ends at the first edge that passes, or finds none.
module _ (t : ℕ → Bool) (n : ℕ) where
  pub placed-hit : {k : ℕ} → Searching t n k → k < n → t k ≡ true → Some k ≡ first_sought t n
  unfolding first_sought
  placed-hit {k} s l h = let e : first_place t n ≡ k = sym (searching_hit t n s l h) in rw (e, lt-ltb k n l)

  pub placed_end : {k : ℕ} → Searching t n k → n ≤ k → None ≡ first_sought t n
  unfolding first_sought
  placed_end {k} s l = let e : first_place t n ≡ k = sym (searching_end t n s l) in rw (e, le-ltb k n l)

  pub placed_none : ((k : ℕ) → k < n → t k ≡ false) → None ≡ first_sought t n
  unfolding first_sought
  placed_none h = rw (no_places t n h, le-ltb n n (omega arith))

-- tests that agree on n edges have one first place
pub placed_ext : (s t : ℕ → Bool) (n : ℕ) → ((k : ℕ) → k < n → s k ≡ t k) → first_sought s n ≡ first_sought t n
unfolding first_sought
placed_ext s t n h = ap (λ (j : ℕ). cond (ltb j n) (Some j) None) (first_ext s t n h)

-- A walk that reads labels ends at the first edge that has the label, or that cannot be read.
module _ (d : Coded) (e n l : ℕ) where
  pub decoded_more : {k a : ℕ} → Searching (stops d e l) n k → k < n → coarse_back d (e + k) ≡ a ∷ [] → (a ≡ l → ⊥) → Searching (stops d e l) n (k + 1)
  decoded_more {k} {a} s h r q = searching_more (stops d e l) n s h (rw r (ne_eqb a l q))

  pub decoded-hit : {k a : ℕ} → Searching (stops d e l) n k → k < n → coarse_back d (e + k) ≡ a ∷ [] → a ≡ l → Ok (Some k) ≡ decoded d e n l
  unfolding decoded
  decoded-hit {k} {a} s h r q =
      let is : first_place (stops d e l) n ≡ k = sym (searching_hit (stops d e l) n s h (rw r (eq-eqb a l q))) in
      rw (is, lt-ltb k n h, r)

  pub decoded-bad : {k : ℕ} → Searching (stops d e l) n k → k < n → coarse_back d (e + k) ≡ [] → unread ≡ decoded d e n l
  unfolding decoded
  decoded-bad {k} s h r =
      let is : first_place (stops d e l) n ≡ k = sym (searching_hit (stops d e l) n s h (rw r)) in
      rw (is, lt-ltb k n h, r)

  pub decoded-end : {k : ℕ} → Searching (stops d e l) n k → n ≤ k → Ok None ≡ decoded d e n l
  unfolding decoded
  decoded-end {k} s h = let is : first_place (stops d e l) n ≡ k = sym (searching_end (stops d e l) n s h) in rw (is, le-ltb k n h)

-- What an edge's code says by itself: an element, a field, or nothing where the code has no field, or its entry an element's label.
module _ (d : Coded) (e : ℕ) where
  pub element-says : 32768 ≤ d.codes ! e → coarse_back d e ≡ array_element_label ∷ []
  unfolding coarse_back
  element-says h = rw (le-leb 32768 (d.codes ! e) h)

  module _ (h : d.codes ! e < 32768) (q : d.codes ! e ≡ 32767 → ⊥) where
    field_back_lem : coarse_back d e ≡ field_back d.fields (d.codes ! e)
    unfolding coarse_back code_back
    field_back_lem =
        let plain : d.codes ! e % 32768 ≡ 32767 → ⊥ = λ z. q (omega arith) in
        rw (lt-leb 32768 (d.codes ! e) h, ne_eqb (d.codes ! e % 32768) 32767 plain)

    pub past_says : length d.fields ≤ d.codes ! e → coarse_back d e ≡ []
    unfolding field_back all_of
    past_says l = field_back_lem ∙ rw (le-ltb (d.codes ! e) (length d.fields) l)

    module _ (l : d.codes ! e < length d.fields) where
      pub field-says : d.fields ! (d.codes ! e) < array_element_label → coarse_back d e ≡ d.fields ! (d.codes ! e) ∷ []
      unfolding field_back all_of
      field-says m = field_back_lem ∙ rw (lt-ltb (d.codes ! e) (length d.fields) l, lt-leb array_element_label (d.fields ! (d.codes ! e)) m)

      pub no_field_says : array_element_label ≤ d.fields ! (d.codes ! e) → coarse_back d e ≡ []
      unfolding field_back all_of
      no_field_says m = field_back_lem ∙ rw (lt-ltb (d.codes ! e) (length d.fields) l, le-leb array_element_label (d.fields ! (d.codes ! e)) m)

-- A code past those that say a field by themselves, and below the elements, says nothing by itself.
pub unsaid_past : (codes fields : List ℕ) (e : ℕ) {m : ℕ} → e < length codes → (m < length fields → m ≡ 32767) → m ≤ codes ! e → codes ! e < 32768 → Unsaid codes fields e
unsaid_past codes fields e {m} l most h low = record { within = l; no_element = low; no_field = λ q. go (lt_or_ge m (length fields)) q }
  where
    go : (m < length fields) ⊎ (length fields ≤ m) → codes ! e < 32767 → length fields ≤ codes ! e
    go (inl a) q = absurd (omega (arith, most a))
    go (inr a) q = omega arith
