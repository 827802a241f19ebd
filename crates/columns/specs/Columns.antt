-- What a column holds: a list written over its front, zeros from a place on, and what an answer leaves. Assumes nothing.
use Rattle.std.specs.Prelude.{ℕ, ◌-◌, ◌≡◌, Bool, cond, List, ◌++◌, eqb, length, take, drop, replicate}
use Rattle.columns.specs.Lists.{◌!◌}

-- a column of m zeros
abbrev pub zeros : ℕ → List ℕ
zeros m = replicate m 0

-- the column d with xs written over its front
unfoldable pub over : List ℕ → List ℕ → List ℕ
over xs d = xs ++ drop (length xs) d

-- the column d with zeros from a place on
unfoldable pub cleared : ℕ → List ℕ → List ℕ
cleared from d = take from d ++ zeros (length d - from)

-- a column of m numbers that starts with xs; the rest is zero
unfoldable pub padded : List ℕ → ℕ → List ℕ
padded xs m = over xs (zeros m)

-- An answer is document 01's number and values, and accepts where its number is 0.
unfoldable pub accepts : List ℕ → Bool
accepts says = eqb (says ! 0) 0

-- what an answer leaves in a column of m numbers: xs and zeros behind them where it accepts, else zeros
unfoldable pub leaves : List ℕ → List ℕ → ℕ → List ℕ
leaves says xs m = cond (accepts says) (padded xs m) (zeros m)

-- how much of a column an answer keeps, by the place of its length among the answer's values
unfoldable pub kept : ℕ → List ℕ → ℕ
kept i says = cond (accepts says) (says ! i) 0

-- a column that begins with xs
abbrev pub Begins : List ℕ → List ℕ → Type 0
Begins xs d = take (length xs) d ≡ xs
