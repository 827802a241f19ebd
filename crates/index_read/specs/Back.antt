-- Copied ids (document 01, "Copied ids"): the columns, and what reading one id back answers. Assumes nothing.
use Rattle.std.specs.Prelude.{ℕ, ◌+◌, ◌-◌, ◌*◌, ◌^◌, cond, List, [], ◌∷◌, ltb, leb, eqb, length, Result, Ok, Err}
use Rattle.columns.specs.Lists.{◌!◌, all_of, any_of}
use Rattle.columns.specs.Ranks.{bisect}
use Rattle.index_read.specs.declared.IdError.{IdError}
use Rattle.index_read.specs.declared.IdError.TheVariants.{Index, Copied}

-- The copied columns, and the base that they are over.
pub record Ids : Type 0 where
  pub codes : List ℕ
  pub places : List ℕ
  pub ids : List ℕ
  pub base : ℕ

abbrev pub ids_of : List ℕ → List ℕ → List ℕ → ℕ → Ids
ids_of c p v base = record { codes = c; places = p; ids = v; base = base }

-- the code that stands for "everything else is escaped"
abbrev pub escaped_code : ℕ
escaped_code = 4294967295

-- Document 01's number and values for each answer; 0 is acceptance, and then the id follows.
abbrev pub id_says : Result ℕ IdError → List ℕ
id_says (Ok v) = 0 ∷ v ∷ []
id_says (Err (Index i)) = 11 ∷ i ∷ []
id_says (Err (Copied i)) = 5 ∷ i ∷ []

-- Reading. "A non-zero code whose id is 0 or passes 64 bits" is COPIED at its position.
unfoldable pub whole : ℕ → ℕ → List ℕ
whole i id = cond (any_of (eqb id 0 ∷ leb (2 ^ 64) id ∷ [])) (5 ∷ i ∷ []) (0 ∷ id ∷ [])

-- The row of an escape is the one where bisection ends, if its place is i; a code without its row is COPIED too.
unfoldable pub escape_back : List ℕ → List ℕ → ℕ → ℕ → List ℕ
escape_back ps vs i k = cond (all_of (ltb k (length ps) ∷ eqb (ps ! k) i ∷ ltb k (length vs) ∷ [])) (whole i (vs ! k)) (5 ∷ i ∷ [])

-- What `id_at` answers: INDEX past the end; id 0 for code 0; else the id, or COPIED.
unfoldable pub id_back : Ids → ℕ → List ℕ
id_back c i =
    cond (ltb i (length c.codes))
    (cond (eqb (c.codes ! i) 0) (0 ∷ 0 ∷ [])
    (cond (eqb (c.codes ! i) escaped_code) (escape_back c.places c.ids i (bisect c.places i)) (whole i (c.base + 8 * (c.codes ! i - 1)))))
    (11 ∷ i ∷ [])
