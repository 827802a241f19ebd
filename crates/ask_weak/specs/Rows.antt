-- What the question about an object's weak pairs answers. Assumes nothing.
use Rattle.std.specs.Prelude.{ℕ, ◌+◌, ◌-◌, cond, List, [], ◌∷◌, eqb, ltb, leb, length}
use Rattle.columns.specs.Lists.{◌!◌, all_of}
use Rattle.columns.specs.Ranks.{bisect}

-- Where the rows of an object end that start at s: where bisection for the next object ends, if the row at s is the object's. Else it has none, and they end at s.
unfoldable pub weak_end : List ℕ → ℕ → ℕ → ℕ
weak_end from o s = cond (all_of (ltb s (length from) ∷ eqb (from ! s) o ∷ [])) (bisect from (o + 1)) s

-- INDEX of the object; then the rows of its weak pairs, which bisection finds. COLUMNS where they fall or end past the targets: then the pairs are not sorted.
unfoldable pub weak_rows_of : ℕ → List ℕ → List ℕ → ℕ → List ℕ
weak_rows_of short from to o =
    let start = bisect from o in
    let end = weak_end from o start in
    cond (ltb o (short - 1)) (cond (all_of (leb start end ∷ leb end (length to) ∷ [])) (0 ∷ start ∷ end ∷ []) (12 ∷ o ∷ [])) (11 ∷ o ∷ [])
