-- How an answer goes out in one number. Assumes nothing.
use Rattle.std.specs.Prelude.{ℕ, ◌+◌, ◌*◌, cond, List, [], ◌∷◌, eqb, ltb, length}
use Rattle.columns.specs.Lists.{◌!◌, all_of}
use Rattle.columns.specs.Columns.{accepts}

-- A span in one number: the start in the upper half, the end and one in the lower; 0 where it is refused or takes more.
unfoldable pub span_number : List ℕ → ℕ
span_number says =
    cond (all_of (accepts says ∷ ltb (says ! 1) 4294967296 ∷ ltb (says ! 2) 4294967295 ∷ [])) (says ! 1 * 4294967296 + says ! 2 + 1) 0

-- An answer of at most one value in one number: 2 more than the value, 1 for nothing, 0 where it is refused.
unfoldable pub reply_of : List ℕ → ℕ
reply_of says = cond (accepts says) (cond (eqb (length says) 1) 1 (says ! 1 + 2)) 0
