-- The counts of an accepted input stay below 2 ^ 56: the counters of weak and missing ids are not bounded by the places. Assumes nothing.
use Prim.Native.Nat.{ℕ, zero, suc, ◌*◌, ◌^◌, ◌≤◌, ◌<◌}
use native.Mathlib.Nat.{mul-le-mul_right, suc-mul}
use native.Mathlib.Omega.{arith}
use mathlib.Core.Path.{◌≡◌, refl, sym, ap, ◌∙◌}
use mathlib.Core.Bool.{Bool, true, false, cond}
use mathlib.Core.List.{List, [], ◌∷◌}
use lib.ListN.{length, length-append}
use Rattle.columns.specs.Lists.{collect, tab, total, flat, sum}
use Rattle.columns.proofs.Lists.{tab-length}
use Rattle.columns.proofs.Sums.{length-collect}
use Rattle.columns.proofs.Every.{Every, every-places}
use Rattle.rules.specs.Input.{Input, object_count, class_count, element_count, read_slots, static_total, is_object_static, found_at, classes_at}
use Rattle.rules.specs.Edges.{Ref, Outcome, edge, weak, missing, nothing, outcome, weak_of, missing_of, ref_weak, ref_missing, weak_targets, missing_at, refs}
use Rattle.rules.specs.Edges.{slot_refs, other_refs, slot_ref, element_ref, static_refs, class_refs, static_ref, loader_ref, graph}
use Rattle.rules.proofs.Acceptance.{Passed, objects_few, slot_count_few, elements_few, statics_few, one_class}
use Rattle.rules.proofs.Slots.{read-le}
use Rattle.rules.proofs.Demand.{weak-count}

-- a sum of n numbers that are at most k
total_most : (f : ℕ → ℕ) (k n : ℕ) → ((i : ℕ) → i < n → f i ≤ k) → total f n ≤ n * k
total_most f k zero h = omega arith
total_most f k (suc n) h = rw (suc-mul n k) (omega (arith, total_most f k n (λ i l. h i (omega arith)), h n (omega arith)))

-- of each reference at most one is weak, and one missing
pub weak_few : (u : Outcome) → length (weak_of u) ≤ 1
weak_few (edge t) = omega arith
weak_few (weak t) = omega arith
weak_few missing = omega arith
weak_few nothing = omega arith

weak_most : (ids : List ℕ) (rs : List Ref) → length (flat (ref_weak ids) rs) ≤ length rs
weak_most ids [] = omega arith
weak_most ids (r ∷ rs) = omega (arith, length-append (ref_weak ids r) (flat (ref_weak ids) rs), weak_most ids rs, weak_few (outcome ids r))

missing_most : (ids : List ℕ) (rs : List Ref) → sum (ref_missing ids) rs ≤ length rs
missing_most ids [] = omega arith
missing_most ids (r ∷ rs) = omega (arith, missing_most ids rs, go (outcome ids r))
  where
    go : (u : Outcome) → missing_of u ≤ 1
    go (edge t) = omega arith
    go (weak t) = omega arith
    go missing = omega arith
    go nothing = omega arith

module _ (x : Input) (h : Passed x) where
  class_most : (c : ℕ) → c < class_count x.schema → length (class_refs x.schema c) ≤ 268435457
  unfolding class_refs static_refs
  class_most c l =
      let many : length (collect (static_refs x.schema c) (static_total x.schema c)) ≤ static_total x.schema c * 1
      = rw (length-collect (static_refs x.schema c) (static_total x.schema c)) (total_most _ 1 _ (λ k m. go k (is_object_static x.schema c k))) in
      omega (arith, length-append (collect (static_refs x.schema c) (static_total x.schema c)) (loader_ref x.schema c ∷ []), statics_few x h.sound c l)
    where
      go : (k : ℕ) (b : Bool) → length (cond b (static_ref x.schema c k ∷ []) []) ≤ 1
      go k true = omega arith
      go k false = omega arith

  -- at most one class is found at an object
  classes_most : (o : ℕ) → o < object_count x → length (flat (class_refs x.schema) (classes_at x o)) ≤ 268435457
  unfolding classes_at
  classes_most o l = go (classes_at x o) refl (every-places (found_at x o) (class_count x.schema))
    where
      go : (cs : List ℕ) → classes_at x o ≡ cs → Every (λ c. (c < class_count x.schema) × (found_at x o c ≡ true)) cs
          → length (flat (class_refs x.schema) cs) ≤ 268435457
      go [] e q = omega arith
      go (c ∷ cs) e q =
          let only : c ∷ cs ≡ c ∷ [] = sym e ∙ one_class x h.sound o c l q.0.0 q.0.1 in
          omega (arith, ap (λ (cs : List ℕ). length (flat (class_refs x.schema) cs)) only, length-append (class_refs x.schema c) [], class_most c q.0.0)

  -- An object has at most 3 × 268,435,456 + 1 references.
  pub refs_most : (o : ℕ) → o < object_count x → length (refs x o) ≤ 805306369
  unfolding refs slot_refs other_refs
  refs_most o l =
      omega (
        arith,
        length-append (slot_refs x o) (other_refs x o),
        length-append (tab (element_ref x o) (element_count x o)) (flat (class_refs x.schema) (classes_at x o)),
        tab-length (slot_ref x o) (read_slots x o),
        tab-length (element_ref x o) (element_count x o),
        read-le x o,
        slot_count_few x h.sound o l,
        elements_few x h.sound o l,
        classes_most o l,
      )

  in_all : (k : ℕ) → k ≤ object_count x * 805306369 → k < 2 ^ 56
  in_all k l = omega (arith, mul-le-mul_right 805306369 (objects_few x h.sound))

  pub weak-below : length (graph x).weak_from < 2 ^ 56
  unfolding weak_targets
  weak-below =
      in_all _ (rw (weak-count x) (total_most _ 805306369 (object_count x) (λ o l. omega (arith, weak_most x.objects.ids (refs x o), refs_most o l))))

  pub missing-below : (graph x).dangling < 2 ^ 56
  unfolding graph missing_at
  missing-below = in_all _ (total_most _ 805306369 (object_count x) (λ o l. omega (arith, missing_most x.objects.ids (refs x o), refs_most o l)))
