-- PARTS as facts: what columns without faults are, and that such columns have none. Assumes nothing.
use Prim.Native.Nat.{ℕ, zero, suc, pred, ◌+◌, ◌-◌, ◌≤◌, ◌<◌, min}
use native.Mathlib.Omega.{arith}
use mathlib.Core.Path.{◌≡◌, refl, ap}
use mathlib.Core.Bool.{Bool, true, false, cond, not, false≢true}
use mathlib.Core.List.{List, [], ◌∷◌, map}
use lib.Dec.{eqb, ltb}
use lib.ListN.{length}
use borrow.Author.Tests.{eqb-true, eqb-false, leb-false, ltb-false, lt-ltb, le-ltb, lt-leb, eq-eqb, ne_eqb, not-false}
use Rattle.columns.specs.Lists.{◌!◌, places, all_of, any_of}
use Rattle.columns.proofs.Tests.{none_of, second_fails, all_fails, append-empty, collect_none, collect-empty, map-empty, no_places, places_none}
use Rattle.rules.specs.Types.{array_element_label, is_element}
use Rattle.rules.specs.Edges.{Parts, pair_le}
use Rattle.rules.specs.Labels.{expected, own}
use Rattle.rules.specs.Needs.{objects_of}
use Rattle.rules.specs.Verdict.{once, bad_root}
use Rattle.rules.specs.Parts.{in_column, degree, below, bad_offsets, is_named, bad_label, bad_labels, no_object, bad_targets, pair_at, bad_pair, parts_faults}
use Rattle.rules.proofs.Acceptance.{once-empty}

pub record Meets (names : ℕ) (p : Parts) : Type 0 where
  pub some : 0 < length p.offsets
  pub starts : p.offsets ! 0 ≡ 0
  pub rises : (o : ℕ) → o < objects_of p → p.offsets ! o ≤ p.offsets ! suc o
  pub ends : p.offsets ! objects_of p ≡ length p.labels
  pub named : (o k : ℕ) → o < objects_of p → k < degree p.offsets o → is_named names (own p.offsets p.labels o ! k) ≡ true
  pub elements : (o k : ℕ) → o < objects_of p → k < degree p.offsets o → is_element (own p.offsets p.labels o ! k) ≡ true
      → expected (own p.offsets p.labels o) k ≤ own p.offsets p.labels o ! k - array_element_label
  pub counted : length p.targets ≡ length p.labels
  pub targets : (e : ℕ) → e < length p.targets → p.targets ! e < objects_of p
  pub weak_from : (i : ℕ) → i < length p.weak_from → p.weak_from ! i < objects_of p
  pub weak_to : (i : ℕ) → i < length p.weak_from → p.weak_to ! i < objects_of p
  pub weak_sorted : (i : ℕ) → suc i < length p.weak_from → pair_le (pair_at p.weak_from p.weak_to i) (pair_at p.weak_from p.weak_to (suc i)) ≡ true
  pub roots : (i : ℕ) → i < length p.roots → p.roots ! i < objects_of p

column-empty : (c : ℕ) (ps : List ℕ) → in_column c ps ≡ [] → ps ≡ []
unfolding in_column
column-empty c ps e = map-empty _ ps e

cond-empty : (b : Bool) (n : ℕ) → cond b [] (n ∷ []) ≡ [] → b ≡ true
cond-empty true n e = refl
cond-empty false n e = let z : ◌≡◌ {A = ℕ} 0 1 = cc in absurd (omega arith)

positive : (n : ℕ) → (n ≡ 0 → ⊥) → 0 < n
positive zero h = absurd (h refl)
positive (suc n) h = omega arith

-- The empty columns of faults give the facts.
module _ (names : ℕ) (p : Parts) where
  abbrev m : ℕ
  m = objects_of p

  abbrev bad : ℕ → ℕ → Bool
  bad o k = bad_label names (own p.offsets p.labels o) k

  pub meets : parts_faults names p ≡ [] → Meets names p
  unfolding parts_faults bad_offsets bad_labels bad_label bad_targets bad_pair
  meets e =
      let e5 = append-empty _ (in_column 5 (places (bad_root m p.roots) (length p.roots))) e in
      let e4 = append-empty _ (in_column 4 (places (bad_pair m p.weak_from p.weak_to) (length p.weak_from))) e5.0 in
      let e3 = append-empty _ (in_column 3 (bad_targets m p.targets (length p.labels))) e4.0 in
      let e2 = append-empty (in_column 1 (bad_offsets p.offsets (length p.labels))) (in_column 2 (bad_labels names m p.offsets p.labels)) e3.0 in
      let o2 = append-empty _ (cond (eqb (p.offsets ! m) (length p.labels)) [] (m ∷ [])) (column-empty 1 _ e2.0) in
      let o1 = append-empty (once (any_of (eqb (length p.offsets) 0 ∷ not (eqb (p.offsets ! 0) 0) ∷ []))) (places (below p.offsets) (length p.offsets))
      o2.0 in
      let t = append-empty (places (no_object m p.targets) (min (length p.targets) (length p.labels))) _ (column-empty 3 _ e3.1) in
      let first = once-empty _ o1.0 in
      let label : (o k : ℕ) → o < m → k < degree p.offsets o → bad o k ≡ false =
      λ o k l n. places_none (bad o) (degree p.offsets o) k (map-empty _ _ (collect-empty _ m (column-empty 2 _ e2.1) o l)) n in
      let pair : (i : ℕ) → i < length p.weak_from → bad_pair m p.weak_from p.weak_to i ≡ false = λ i l. places_none _ _ i (column-empty 4 _ e4.1) l in
      let some : (length p.offsets ≡ 0) → ⊥ = eqb-false _ 0 (none_of _ first 0) in
      let count : length p.targets ≡ length p.labels = eqb-true _ _ (cond-empty _ _ t.1) in
      record {
        some = positive _ some;
        starts = eqb-true _ 0 (not-false _ (none_of _ first 1));
        rises = λ o l. ltb-false _ _ (places_none (below p.offsets) (length p.offsets) (suc o) o1.1 (omega arith));
        ends = eqb-true _ _ (cond-empty _ _ o2.1);
        named = λ o k l n. not-false _ (none_of _ (label o k l n) 0);
        elements = λ o k l n t. ltb-false _ _ (second_fails _ _ (none_of _ (label o k l n) 1) t);
        counted = count;
        targets = λ e l. leb-false _ _ (places_none (no_object m p.targets) _ e t.0 (omega arith));
        weak_from = λ i l. leb-false _ _ (none_of _ (pair i l) 0);
        weak_to = λ i l. leb-false _ _ (none_of _ (pair i l) 1);
        weak_sorted = λ i l. not-false _ (second_fails _ _ (none_of _ (pair (suc i) l) 2) (lt-ltb 0 (suc i) (omega arith)));
        roots = λ i l. leb-false _ _ (places_none (bad_root m p.roots) _ i (column-empty 5 _ e5.1) l);
      }

  -- And columns of which the facts hold have no faults.
  module _ (h : Meets names p) where
    no_offset : bad_offsets p.offsets (length p.labels) ≡ []
    unfolding bad_offsets any_of
    no_offset =
        rw (
          ne_eqb (length p.offsets) 0 (λ e. omega (arith, h.some)),
          h.starts,
          no_places (below p.offsets) (length p.offsets) each,
          eq-eqb _ _
              h.ends,
        )
      where
        each : (i : ℕ) → i < length p.offsets → below p.offsets i ≡ false
        each zero l = le-ltb (p.offsets ! 0) (p.offsets ! 0) (omega arith)
        each (suc i) l = le-ltb _ _ (h.rises i (omega arith))

    no_label : bad_labels names m p.offsets p.labels ≡ []
    unfolding bad_labels bad_label any_of
    no_label = collect_none _ m (λ o l. ap (map (λ k. p.offsets ! o + k)) (no_places (bad o) (degree p.offsets o) (λ k n. each o k l n)))
      where
        each : (o k : ℕ) → o < m → k < degree p.offsets o → bad o k ≡ false
        each o k l n =
            let l' = own p.offsets p.labels o ! k in
            rw (
              h.named o k l n,
              all_fails (is_element l') (ltb (l' - array_element_label) (expected (own p.offsets p.labels o) k))
                  (λ t. le-ltb _ _ (h.elements o k l n t)),
            )

    no_target : bad_targets m p.targets (length p.labels) ≡ []
    unfolding bad_targets
    no_target = rw (
      no_places (no_object m p.targets) (min (length p.targets) (length p.labels))
          (λ e l. lt-leb _ _ (h.targets e (omega arith))),
      eq-eqb _ _ h.counted,
    )

    no_pair : places (bad_pair m p.weak_from p.weak_to) (length p.weak_from) ≡ []
    unfolding bad_pair any_of
    no_pair = no_places _ _ (λ i l. rw (lt-leb _ _ (h.weak_from i l), lt-leb _ _ (h.weak_to i l), sorted i l))
      where
        sorted : (i : ℕ) → i < length p.weak_from
            → all_of (ltb 0 i ∷ not (pair_le (pair_at p.weak_from p.weak_to (pred i)) (pair_at p.weak_from p.weak_to i)) ∷ []) ≡ false
        sorted zero l = all_fails _ _ (λ t. absurd (false≢true t))
        sorted (suc i) l = all_fails _ _ (λ t. ap not (h.weak_sorted i l))

    pub no_faults : parts_faults names p ≡ []
    unfolding parts_faults in_column
    no_faults = rw (no_offset, no_label, no_target, no_pair, no_places (bad_root m p.roots) (length p.roots) (λ i l. lt-leb _ _ (h.roots i l)))
