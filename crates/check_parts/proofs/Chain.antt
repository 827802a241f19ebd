-- PARTS, column after column: what a fault decides, and what a column without one leaves to decide. Assumes nothing.
use mathlib.Core.Path.{◌≡◌, sym, ◌∙◌}
use mathlib.Core.Bool.{cond}
use mathlib.Core.List.{List, [], ◌∷◌, ◌++◌, append_assoc}
use Prim.Native.Nat.{ℕ, ◌≤◌, ◌<◌}
use borrow.Author.Tests.{lt-ltb, le-ltb}
use lib.Dec.{ltb}
use lib.ListN.{length, take}
use Rattle.columns.specs.Lists.{places, first_place}
use Rattle.rules.specs.Edges.{Parts}
use Rattle.rules.specs.Needs.{objects_of}
use Rattle.rules.specs.Verdict.{first_of, bad_root}
use Rattle.rules.specs.Parts.{in_column, bad_offsets, bad_labels, bad_targets, bad_pair, parts_faults}
use Rattle.rules.proofs.First.{first-append, first_position}
use Rattle.check_parts.specs.Checks.{end_faults, edge_faults}
use Rattle.check_parts.proofs.Lists.{nothing-taken, column_fails, column-passes}

-- columns 4 and 5
module _ (m : ℕ) (from to roots : List ℕ) (done : List ℕ) {i : ℕ} (e : i ≡ first_place (bad_pair m from to) (length from)) where
  abbrev last : List ℕ
  last = first_of (in_column 5 (places (bad_root m roots) (length roots))) done

  pairs : first_of (end_faults m from to roots) done ≡ cond (ltb i (length from)) (10 ∷ 4 ∷ i ∷ []) last
  unfolding end_faults
  pairs = first-append (in_column 4 (places (bad_pair m from to) (length from))) _ done ∙ first_position 4 (bad_pair m from to) (length from) last ∙ rw (← e)

  pub ends-pair : i < length from → 10 ∷ 4 ∷ i ∷ [] ≡ first_of (end_faults m from to roots) done
  ends-pair l = sym (pairs ∙ rw (lt-ltb _ _ l))

  module _ (l : length from ≤ i) {j : ℕ} (d : j ≡ first_place (bad_root m roots) (length roots)) where
    ends : first_of (end_faults m from to roots) done ≡ cond (ltb j (length roots)) (10 ∷ 5 ∷ j ∷ []) done
    ends = pairs ∙ rw (le-ltb _ _ l) (first_position 5 (bad_root m roots) (length roots) done ∙ rw (← d))

    pub ends_root : j < length roots → 10 ∷ 5 ∷ j ∷ [] ≡ first_of (end_faults m from to roots) done
    ends_root k = sym (ends ∙ rw (lt-ltb _ _ k))

    pub ends_none : length roots ≤ j → done ≡ first_of (end_faults m from to roots) done
    ends_none k = sym (ends ∙ rw (le-ltb _ _ k))

-- columns 2 and 3; column 1
module _ (names : ℕ) (p : Parts) (done : List ℕ) where
  abbrev labels : List ℕ
  labels = bad_labels names (objects_of p) p.offsets p.labels

  abbrev targets : List ℕ
  targets = bad_targets (objects_of p) p.targets (length p.labels)

  abbrev behind : List (List ℕ)
  behind = end_faults (objects_of p) p.weak_from p.weak_to p.roots

  pub edges-label : {i : ℕ} → i ∷ [] ≡ take 1 labels → 10 ∷ 2 ∷ i ∷ [] ≡ first_of (edge_faults names p) done
  unfolding edge_faults
  edges-label e = column_fails 2 labels (in_column 3 targets ++ behind) done e

  module _ (l : [] ≡ take 1 labels) where
    pub edges-target : {i : ℕ} → i ∷ [] ≡ take 1 targets → 10 ∷ 3 ∷ i ∷ [] ≡ first_of (edge_faults names p) done
    unfolding edge_faults
    edges-target e = column_fails 3 targets behind done e ∙ column-passes 2 labels (in_column 3 targets ++ behind) done (nothing-taken _ l)

    pub edges-behind : [] ≡ take 1 targets → first_of behind done ≡ first_of (edge_faults names p) done
    unfolding edge_faults
    edges-behind e = column-passes 3 targets behind done (nothing-taken _ e) ∙ column-passes 2 labels (in_column 3 targets ++ behind) done (nothing-taken _ l)

  abbrev offsets : List ℕ
  offsets = bad_offsets p.offsets (length p.labels)

  parts_are : parts_faults names p ≡ in_column 1 offsets ++ edge_faults names p
  unfolding parts_faults edge_faults end_faults
  parts_are = simp append_assoc

  pub parts-offset : {i : ℕ} → i ∷ [] ≡ take 1 offsets → 10 ∷ 1 ∷ i ∷ [] ≡ first_of (parts_faults names p) done
  parts-offset e = rw parts_are (column_fails 1 offsets (edge_faults names p) done e)

  pub parts-edges : [] ≡ take 1 offsets → first_of (edge_faults names p) done ≡ first_of (parts_faults names p) done
  parts-edges e = rw parts_are (column-passes 1 offsets (edge_faults names p) done (nothing-taken _ e))
