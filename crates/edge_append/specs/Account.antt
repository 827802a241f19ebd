-- The account as it grows with the pass state: a row for each kind of references. Assumes nothing.
use Rattle.std.specs.Prelude.{ℕ, ◌+◌, ◌-◌, ◌≤◌, List, [], ◌∷◌, length, get_or}
use Rattle.columns.specs.Lists.{◌!◌}
use Rattle.rules.specs.Edges.{Ref}
use Rattle.edge_append.specs.Append.{edges_among, weak_among, missing_among}
use Rattle.edge_append.specs.declared.Pass.{Pass}

abbrev pub row : List (List ℕ) → ℕ → List ℕ
row a k = get_or a k []

-- "Edge, weak, missing": a row, and what came between two states.
unfoldable pub row_after : List ℕ → Pass → Pass → List ℕ
row_after r s q = (r ! 0 + (q.edges - s.edges)) ∷ (r ! 1 + (q.weak - s.weak)) ∷ (r ! 2 + (q.missing - s.missing)) ∷ []

-- The same, and what references of its kind came to.
unfoldable pub row_with : List ℕ → List ℕ → List Ref → List ℕ
row_with ids r rs = (r ! 0 + length (edges_among ids rs)) ∷ (r ! 1 + length (weak_among ids rs)) ∷ (r ! 2 + missing_among ids rs) ∷ []

-- A row counts no more than the state, and a state no more than a later one: so that no cell wraps.
pub record RowIn (r : List ℕ) (s : Pass) : Type 0 where
  pub edges : r ! 0 ≤ s.edges
  pub weak : r ! 1 ≤ s.weak
  pub missing : r ! 2 ≤ s.missing

pub record Grows (s q : Pass) : Type 0 where
  pub edges : s.edges ≤ q.edges
  pub weak : s.weak ≤ q.weak
  pub missing : s.missing ≤ q.missing

pub record AccountIn (a : List (List ℕ)) (s : Pass) : Type 0 where
  pub slots : RowIn (row a 0) s
  pub elements : RowIn (row a 1) s
  pub statics : RowIn (row a 2) s
  pub loaders : RowIn (row a 3) s

-- "Slot, element, static, loader": the account after the four parts of an object, from the states between them.
unfoldable pub account_after : List (List ℕ) → Pass → Pass → Pass → Pass → Pass → List (List ℕ)
account_after a s0 s1 s2 s3 s4 = row_after (row a 0) s0 s1 ∷ row_after (row a 1) s1 s2 ∷ row_after (row a 2) s2 s3 ∷ row_after (row a 3) s3 s4 ∷ []

unfoldable pub account_with : List ℕ → List (List ℕ) → List Ref → List Ref → List Ref → List Ref → List (List ℕ)
account_with ids a slots elements statics loaders =
    row_with ids (row a 0) slots ∷ row_with ids (row a 1) elements ∷ row_with ids (row a 2) statics ∷ row_with ids (row a 3) loaders ∷ []
