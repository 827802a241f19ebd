-- How an answer goes out to a host that knows numbers alone. Assumes nothing.
use Rattle.std.specs.Prelude.{ℕ, List, ◌∷◌, length}
use Rattle.columns.specs.Columns.{padded}

-- The answer's numbers, with their count before them and zeros behind, n in all: "nothing" is one number, and so differs from the target 0.
unfoldable pub told : ℕ → List ℕ → List ℕ
told n says = padded (length says ∷ says) n
