-- What the questions about offsets and weak pairs answer, from the columns that they read. Assumes nothing.
use Rattle.std.specs.Prelude.{ℕ, ◌≡◌, Result, ◌+◌, ◌-◌, cond, List, [], ◌∷◌, ltb, leb, length}
use Rattle.columns.specs.Lists.{◌!◌, all_of}
use Rattle.columns.specs.Columns.{accepts}
use Rattle.store_read.specs.declared.ReadError.{ReadError}
use Rattle.store.specs.Blocked.{Blocked, offset_says, read_back}
-- the part of a column that a span says, and the rows of weak pairs
unfoldable pub use Rattle.ask_part.specs.Part.{span_part}
unfoldable pub use Rattle.ask_weak.specs.Rows.{weak_end, weak_rows_of}

-- From the two answers of reading an offset: COLUMNS where one is refused, where they fall, or where they end past codes or targets.
unfoldable pub ended : List ℕ → List ℕ → ℕ → ℕ → ℕ → List ℕ
ended first next codes targets o =
    cond (all_of (accepts first ∷ accepts next ∷ leb (first ! 1) (next ! 1) ∷ leb (next ! 1) codes ∷ leb (next ! 1) targets ∷ [])) (0 ∷ first ! 1 ∷ next ! 1 ∷ []) (12 ∷ o ∷ [])

-- what is read of each of some offsets
abbrev pub ReadsBack : (ℕ → Result ℕ ReadError → Type 0) → (ℕ → List ℕ) → Type 0
ReadsBack post back = (i : ℕ) (r : Result ℕ ReadError) → post i r → offset_says r ≡ back i

-- INDEX of the object; then where its edges begin, and where the next object's do: of so many offsets.
abbrev pub spanned : (ℕ → List ℕ) → ℕ → ℕ → ℕ → ℕ → List ℕ
spanned back offsets codes targets o = cond (ltb o (offsets - 1)) (ended (back o) (back (o + 1)) codes targets o) (11 ∷ o ∷ [])

unfoldable pub span_of : Blocked → ℕ → ℕ → ℕ → List ℕ
span_of b codes targets o = spanned (read_back b) (length b.short) codes targets o

-- how many edges a span has
unfoldable pub count_of : List ℕ → List ℕ
count_of says = cond (accepts says) (0 ∷ (says ! 2 - says ! 1) ∷ []) says
