-- The steps of answering all edges of an object that read none. Assumes nothing.
use Rattle.std.specs.Prelude.{ℕ, ◌≡◌, cond, List, [], ◌∷◌, ltb}
use Rattle.columns.specs.Lists.{any_of}
use Rattle.columns.specs.Columns.{cleared, kept}

-- How many of n edges are written: all of them, or none where a column is too short.
unfoldable pub own_room : ℕ → ℕ → ℕ → ℕ
own_room n a b = cond (any_of (ltb a n ∷ ltb b n ∷ [])) 0 n

-- The answer of n edges, of which so many were read, in so much room.
unfoldable pub own_says : ℕ → ℕ → ℕ → ℕ → List ℕ
own_says n read room o = cond (ltb read n) (12 ∷ o ∷ []) (cond (ltb room n) (9 ∷ 23 ∷ []) (0 ∷ n ∷ []))

-- The end: what the answer does not keep is cleared.
pub record OwnSettled (says says' t₀ l₀ t l : List ℕ) : Type 0 where
  pub answer : says' ≡ says
  pub targets : t ≡ cleared (kept 1 says) t₀
  pub labels : l ≡ cleared (kept 1 says) l₀
