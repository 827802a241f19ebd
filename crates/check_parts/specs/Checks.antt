-- The columns handed to `from_parts`, and the tests of one label and one weak pair as a walk makes them. Assumes nothing.
use Rattle.std.specs.Prelude.{ℕ, Bool, not, List, [], ◌∷◌, ◌++◌, leb, length}
use Rattle.columns.specs.Lists.{places, any_of}
use Rattle.rules.specs.Edges.{Parts, pair_le}
use Rattle.rules.specs.Needs.{objects_of}
use Rattle.rules.specs.Verdict.{bad_root}
use Rattle.rules.specs.Parts.{in_column, bad_labels, bad_targets, bad_pair}
-- one label
unfoldable pub use Rattle.check_edge.specs.Edge.{label_fault}

-- the columns as one record; the checks do not read the dangling count
abbrev pub handed : List ℕ → List ℕ → List ℕ → List ℕ → List ℕ → List ℕ → Parts
handed offsets targets labels weak_from weak_to roots =
    record { offsets = offsets; labels = labels; targets = targets; weak_from = weak_from; weak_to = weak_to; roots = roots; dangling = 0 }

-- "Weak sorted with both ends in range": the pair (a, b), behind the pair (a₀, b₀).
unfoldable pub pair_fault : ℕ → ℕ → ℕ → ℕ → ℕ → Bool
pair_fault objects a₀ b₀ a b =
    any_of (leb objects a ∷ leb objects b ∷ not (pair_le (record { object = a₀; target = b₀ }) (record { object = a; target = b })) ∷ [])

-- The faults of columns 4 and 5; those of columns 2 to 5. `parts_faults` has column 1 before them.
unfoldable pub end_faults : ℕ → List ℕ → List ℕ → List ℕ → List (List ℕ)
end_faults m weak_from weak_to roots = in_column 4 (places (bad_pair m weak_from weak_to) (length weak_from)) ++ in_column 5 (places (bad_root m roots) (length roots))

unfoldable pub edge_faults : ℕ → Parts → List (List ℕ)
edge_faults names p =
    let m = objects_of p in
    in_column 2 (bad_labels names m p.offsets p.labels)
    ++ (in_column 3 (bad_targets m p.targets (length p.labels)) ++ end_faults m p.weak_from p.weak_to p.roots)
