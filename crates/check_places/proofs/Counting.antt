-- What a lookup tells of an id that is asked for a place. Assumes nothing.
use mathlib.Core.Path.{◌≡◌, refl}
use mathlib.Core.List.{List}
use mathlib.Core.Option.{Option, none, some}
use Prim.Native.Nat.{ℕ}
use Rattle.std.specs.Prelude.{Result, is_ok}
use Rattle.columns.specs.Lists.{find, found}
use Rattle.columns.specs.Ranks.{Rises, rank}
use Rattle.lookup.specs.Lookup.{placed, lookup_of, Sought}

-- an id that a lookup answers with a place is found
pub sought_found : {ids : List ℕ} {id : ℕ} {r : Result ℕ ℕ} → Sought ids id r → Rises ids → is_ok r ≡ found (find ids id)
unfolding lookup_of
sought_found {ids} {id} s rise = rw (s.sought rise) (go (find ids id))
  where
    go : (f : Option ℕ) → is_ok (placed f (rank ids id)) ≡ found f
    go none = refl
    go (some i) = refl
