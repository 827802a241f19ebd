-- PLACES by a number. Assumes nothing.
use Rattle.std.specs.Prelude.{ℕ, cond, List, [], ◌∷◌}
use Rattle.rules.specs.Verdict.{over_places}

-- 8 PLACES: "total places over the limit"; else the number that is told for them.
unfoldable pub limit_says : ℕ → ℕ → List ℕ
limit_says n told = cond (over_places n) (8 ∷ 0 ∷ []) (0 ∷ told ∷ [])

-- no more than the limit, so that what fits is not over it
unfoldable pub allowed : ℕ → ℕ
allowed room = cond (over_places room) 268435456 room
