-- What is asked of one edge, and what a label that was read is answered as. Assumes nothing.
use Rattle.std.specs.Prelude.{ℕ, ◌+◌, ◌-◌, Bool, cond, List, [], ◌∷◌, eqb, ltb}
use Rattle.columns.specs.Lists.{◌!◌}
use Rattle.columns.specs.Columns.{accepts}

-- "A query's .. edge of an object does not exist": INDEX with the edge asked.
unfoldable pub edge_asked : List ℕ → ℕ → List ℕ
edge_asked says k = cond (accepts says) (cond (ltb k (says ! 2 - says ! 1)) says (11 ∷ k ∷ [])) says

-- "A query meets an entry that cannot be read back": COLUMNS with the object.
abbrev pub or_columns : ℕ → List ℕ → List ℕ
or_columns o [] = 12 ∷ o ∷ []
or_columns o (l ∷ ls) = 0 ∷ l ∷ []

-- the edge k of the object whose edges begin at e goes to t
abbrev pub goes_to : List ℕ → ℕ → ℕ → ℕ → Bool
goes_to ts e t k = eqb (ts ! (e + k)) t
