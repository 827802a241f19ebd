-- The place of a number in a column that rises: its rank, and the bisection that finds it. Assumes nothing.
use Rattle.std.specs.Prelude.{ℕ, zero, suc, ◌+◌, ◌-◌, ◌/◌, ◌≤◌, ◌<◌, ◌≡◌, cond, List, ltb, length}
use Rattle.columns.specs.Lists.{◌!◌, sum, one}

-- each number of xs is below the ones after it
abbrev pub Rises : List ℕ → Type 0
Rises xs = (p q : ℕ) → p < q → q < length xs → xs ! p < xs ! q

-- no number of xs is above the next
abbrev pub Climbs : List ℕ → Type 0
Climbs xs = (i : ℕ) → suc i < length xs → xs ! i ≤ xs ! suc i

-- how many numbers of xs are below x
unfoldable pub rank : List ℕ → ℕ → ℕ
rank xs x = sum (λ a. one (ltb a x)) xs

-- What `rank` answers: a place of the column or its end, and on a column that rises the rank.
pub record Ranked (xs : List ℕ) (x r : ℕ) : Type 0 where
  pub within : r ≤ length xs
  pub ranked : Rises xs → r ≡ rank xs x

-- Bisection, on any column, of the n numbers from lo on: the half that is left starts with the middle one where that is below x, else at lo.
unfoldable pub front : List ℕ → ℕ → ℕ → ℕ → ℕ
front xs x lo n = cond (ltb (xs ! (lo + n / 2)) x) (lo + n / 2) lo

-- So many halvings. One number cannot be halved, so it does not matter how many more there are.
unfoldable pub halve : ℕ → List ℕ → ℕ → ℕ → ℕ → ℕ
halve zero xs x lo n = lo
halve (suc k) xs x lo n = halve k xs x (front xs x lo n) (n - n / 2)

-- the place p, or the one behind it where the number at p is below x
unfoldable pub behind : List ℕ → ℕ → ℕ → ℕ
behind xs x p = cond (ltb (xs ! p) x) (p + 1) p

-- where bisection of the whole column ends: on a column that rises, the rank
unfoldable pub bisect : List ℕ → ℕ → ℕ
bisect xs x = cond (ltb 0 (length xs)) (behind xs x (halve (length xs) xs x 0 (length xs))) 0
