-- Blocked offsets (document 01, "Blocks and labels"): the four columns, and what reading one offset back answers. Assumes nothing.
use Rattle.std.specs.Prelude.{Result, Ok, Err, ℕ, ◌+◌, ◌/◌, ◌^◌, cond, List, [], ◌∷◌, ltb, eqb, length}
use Rattle.columns.specs.Lists.{◌!◌}
use Rattle.columns.specs.Ranks.{bisect}
use Rattle.store_read.specs.declared.Offsets.{Offsets}
use Rattle.store_read.specs.declared.ReadError.{ReadError}
use Rattle.store_read.specs.declared.ReadError.TheVariants.{Index, Columns}

-- The four columns.
pub record Blocked : Type 0 where
  pub bases : List ℕ
  pub short : List ℕ
  pub long_at : List ℕ
  pub long_value : List ℕ

abbrev pub blocked_of : List ℕ → List ℕ → List ℕ → List ℕ → Blocked
blocked_of b s a v = record { bases = b; short = s; long_at = a; long_value = v }

abbrev pub blocked_in : Offsets → Blocked
blocked_in o = record { bases = o.bases.now; short = o.short.now; long_at = o.long_at.now; long_value = o.long_value.now }

-- Document 01's number and values: of what is refused, and of each answer; 0 is acceptance, and then the value follows.
abbrev pub read_error_says : ReadError → List ℕ
read_error_says (Index i) = 11 ∷ i ∷ []
read_error_says (Columns i) = 12 ∷ i ∷ []

abbrev pub offset_says : Result ℕ ReadError → List ℕ
offset_says (Ok v) = 0 ∷ v ∷ []
offset_says (Err e) = read_error_says e

-- Reading. The long row of i is the one where bisection ends, if its place is i; else the entry cannot be read back.
unfoldable pub long_back : List ℕ → List ℕ → ℕ → ℕ → List ℕ
long_back at val i k =
    cond (ltb k (length at))
    (cond (eqb (at ! k) i) (cond (ltb k (length val)) (0 ∷ val ! k ∷ []) (12 ∷ i ∷ [])) (12 ∷ i ∷ []))
    (12 ∷ i ∷ [])

-- A short number stands on its block's base; a sum that passes 64 bits cannot be read back.
unfoldable pub short_back : List ℕ → ℕ → ℕ → List ℕ
short_back bs s i =
    cond (ltb (i / 256) (length bs)) (cond (ltb (bs ! (i / 256) + s) (2 ^ 64)) (0 ∷ (bs ! (i / 256) + s) ∷ []) (12 ∷ i ∷ [])) (12 ∷ i ∷ [])

-- What `offset_at` answers: "index past the end panics: INDEX"; the number; or COLUMNS.
unfoldable pub read_back : Blocked → ℕ → List ℕ
read_back b i =
    cond (ltb i (length b.short))
    (cond (eqb (b.short ! i) 65535) (long_back b.long_at b.long_value i (bisect b.long_at i)) (short_back b.bases (b.short ! i) i))
    (11 ∷ i ∷ [])
