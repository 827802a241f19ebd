-- The steps of asking a list that read no object: whether there is room, one row, a refusal with its position, the end. Assumes nothing.
use Rattle.std.specs.Prelude.{ℕ, ◌≡◌, Bool, cond, List, [], ◌∷◌, ltb, set}
use Rattle.columns.specs.Lists.{◌!◌, any_of}
use Rattle.columns.specs.Columns.{cleared, accepts, kept}
use Rattle.rules.specs.Each.{target_said, found_said}

-- a column is shorter than the list
abbrev pub lacking : ℕ → ℕ → ℕ → Bool
lacking n a b = any_of (ltb a n ∷ ltb b n ∷ [])

-- One row: an answer's target and mark stand at the position, and a refusal writes nothing.
pub record Row (says : List ℕ) (at : ℕ) (t₀ m₀ : List ℕ) (done : Bool) (t m : List ℕ) : Type 0 where
  pub answer : done ≡ accepts says
  pub targets : t ≡ cond (accepts says) (set t₀ at (target_said says)) t₀
  pub found : m ≡ cond (accepts says) (set m₀ at (found_said says)) m₀

-- an answer's number, with the position in the list in place of the object
abbrev pub at_position : List ℕ → ℕ → List ℕ
at_position says i = says ! 0 ∷ i ∷ []

-- The end: what the answer does not keep is cleared.
pub record EachSettled (says says' t₀ m₀ t m : List ℕ) : Type 0 where
  pub answer : says' ≡ says
  pub targets : t ≡ cleared (kept 1 says) t₀
  pub found : m ≡ cleared (kept 1 says) m₀
