-- What a column of numbers of one width reads as. Assumes nothing.
use Rattle.std.specs.Prelude.{ℕ, ◌-◌, ◌≡◌, refl, List, ◌++◌, length, map, take, replicate}
use Rattle.std.proofs.Common.{sym}
use Rattle.std.proofs.lemmas.List.{map-id}
use Rattle.columns.specs.Columns.{cleared}

-- the numbers of a column whose values are numbers
pub mapped : (xs : List ℕ) → xs ≡ map (λ x. x) xs
mapped xs = sym (map-id xs)

-- `cleared` at any type of numbers with its own zero
pub clears : (from : ℕ) (d : List ℕ) → cleared from d ≡ take from d ++ replicate (length d - from) 0
unfolding cleared
clears from d = refl
