-- The code that alone says a label: how one look at each field finds it, and how a walk over an object's codes goes by it. Assumes nothing.
use Rattle.std.proofs.Common.{◌≡◌, ℕ, ◌+◌, ◌%◌, ◌<◌, ◌≤◌, ◌⊎◌, List, [], ◌∷◌, length, refl, inl, inr, arith, below_more}
use Rattle.std.specs.Prelude.{Some, Ok}
use Rattle.columns.specs.Lists.{◌!◌}
use Rattle.columns.proofs.First.{Searching}
use Rattle.columns.proofs.Lists.{lt_or_ge}
use Rattle.rules.specs.Types.{array_element_label}
use Rattle.rules.specs.Labels.{Coded}
use Rattle.labels.specs.Reading.{coarse_back}
use Rattle.ask_field.specs.Sought.{stops, decoded}
use Rattle.ask_field.proofs.Placed.{decoded_more, decoded-hit, element-says, field-says}
use Rattle.ask_short.specs.Lean.{plain_of}
use Rattle.ask_each_codes.specs.Codes.{Sole}

-- no code is trusted
pub sole_none : (fields : List ℕ) (l : ℕ) → Sole fields l 65536 0
sole_none fields l = record {
  few = omega arith;
  within = λ v h. omega arith;
  field = λ v h. omega arith;
  only = λ v h e. omega arith;
  below = λ h. omega arith;
  stands = λ h. absurd (omega arith);
}

-- one field more: it has another label, or the label asked, which none before it has
module _ {fields : List ℕ} {l code v : ℕ} (s : Sole fields l code v) (in-fields : v < length fields) (plain : v < 32767) (is_field : fields ! v < array_element_label) where
  pub sole_other : (fields ! v ≡ l → ⊥) → Sole fields l code (v + 1)
  sole_other other = record {
    few = omega arith;
    within = below_more (λ u. u < length fields) v s.within in-fields;
    field = below_more (λ u. fields ! u < array_element_label) v s.field is_field;
    only = below_more (λ u. fields ! u ≡ l → u ≡ code) v s.only (λ e. absurd (other e));
    below = λ h. omega (arith, s.below h);
    stands = s.stands;
  }

  pub sole_hit : 65536 ≤ code → fields ! v ≡ l → Sole fields l v (v + 1)
  sole_hit unknown is = record {
    few = omega arith;
    within = below_more (λ u. u < length fields) v s.within in-fields;
    field = below_more (λ u. fields ! u < array_element_label) v s.field is_field;
    only = below_more (λ u. fields ! u ≡ l → u ≡ v) v (λ u h e. absurd (omega (arith, s.only u h e))) (λ e. refl);
    below = λ h. omega arith;
    stands = λ h. is;
  }

pub sole_end : {fields : List ℕ} {l code v most : ℕ} → Sole fields l code v → v ≤ most → most ≤ v → Sole fields l code most
sole_end {fields} {l} {code} {v} {most} s h g = let e : most ≡ v = omega arith in rw e s

-- with the two halves of the codes exchanged, elements come first, then the fields that say themselves
pub passed : (v most : ℕ) → v < 65536 → (v + 32768) % 65536 < most + 32768 → (v < most) ⊎ (32768 ≤ v)
passed v most small h = go (lt_or_ge v 32768)
  where
    go : (v < 32768) ⊎ (32768 ≤ v) → (v < most) ⊎ (32768 ≤ v)
    go (inl a) = inl (omega arith)
    go (inr a) = inr a

-- An edge's code: the label's, or that of another field or an element.
module _ (codes fields : List ℕ) (l code most : ℕ) (s : Sole fields l code most) (e n : ℕ) where
  abbrev d : Coded
  d = plain_of codes fields

  says : (k : ℕ) → codes ! (e + k) < most → coarse_back d (e + k) ≡ fields ! (codes ! (e + k)) ∷ []
  says k h = field-says d (e + k) (omega (arith, s.few)) (λ q. omega (arith, s.few)) (s.within (codes ! (e + k)) h) (s.field (codes ! (e + k)) h)

  pub code-hit : {k : ℕ} → Searching (stops d e l) n k → k < n → codes ! (e + k) < 65536 → codes ! (e + k) ≡ code → Ok (Some k) ≡ decoded d e n l
  code-hit {k} w h small is =
      let known : code < 65536 = omega arith in
      let in_most : codes ! (e + k) < most = omega (arith, s.below known) in
      decoded-hit d e n l w h (says k in_most) (rw is (s.stands known))

  pub code-passed : {k : ℕ} → Searching (stops d e l) n k → k < n → codes ! (e + k) < 65536 → (codes ! (e + k) ≡ code → ⊥) → (codes ! (e + k) + 32768) % 65536 < most + 32768 → l < array_element_label
      → Searching (stops d e l) n (k + 1)
  code-passed {k} w h small other test low = go (passed (codes ! (e + k)) most small test)
    where
      go : (codes ! (e + k) < most) ⊎ (32768 ≤ codes ! (e + k)) → Searching (stops d e l) n (k + 1)
      go (inl a) = decoded_more d e n l w h (says k a) (λ q. other (s.only (codes ! (e + k)) a q))
      go (inr a) = decoded_more d e n l w h (element-says d (e + k) a) (λ q. omega arith)
