-- Where an id stands in a column of ids: what a lookup answers, and the places between which a search goes on. Assumes nothing.
use Rattle.std.specs.Prelude.{ℕ, ◌≤◌, ◌<◌, ◌≡◌, List, length, Result, Ok, Err}
use Rattle.std.proofs.Math.Option.{Option, none, some}
use Rattle.columns.specs.Lists.{◌!◌, find}
use Rattle.columns.specs.Ranks.{Rises, rank}

-- the place where the id stands first; of an id that is missing, how many ids are below it
abbrev pub placed : Option ℕ → ℕ → Result ℕ ℕ
placed (some i) p = Ok i
placed none p = Err p

unfoldable pub lookup_of : List ℕ → ℕ → Result ℕ ℕ
lookup_of ids id = placed (find ids id) (rank ids id)

-- what an answer says of any column: a place holds the id, and a missing id would stand in the column or at its end
abbrev pub Stands : List ℕ → ℕ → Result ℕ ℕ → Type 0
Stands ids id (Ok i) = (i < length ids) × (ids ! i ≡ id)
Stands ids id (Err p) = p ≤ length ids

-- What `find_sorted` answers, whatever it is told to start from: the lookup, on a column that rises.
pub record Sought (ids : List ℕ) (id : ℕ) (r : Result ℕ ℕ) : Type 0 where
  pub stands : Stands ids id r
  pub sought : Rises ids → r ≡ lookup_of ids id

-- The places from lo to hi are places of the column or its end, and on a column that rises the rank is one of them.
pub record Held (ids : List ℕ) (id lo hi : ℕ) : Type 0 where
  pub ordered : lo ≤ hi
  pub inside : hi ≤ length ids
  pub low : Rises ids → lo ≤ rank ids id
  pub high : Rises ids → rank ids id ≤ hi
