-- What a question about an object's part of a column answers. Assumes nothing.
use Rattle.std.specs.Prelude.{ℕ, cond, List, [], ◌∷◌, leb, length}
use Rattle.columns.specs.Lists.{◌!◌, all_of, part}
use Rattle.columns.specs.Columns.{accepts}

-- the part of a column that a span says; empty where the span is a refusal, or none of that column's
unfoldable pub span_part : {A : Type 0} → List ℕ → List A → List A
span_part says xs = cond (all_of (accepts says ∷ leb (says ! 1) (says ! 2) ∷ leb (says ! 2) (length xs) ∷ [])) (part xs (says ! 1) (says ! 2)) []
