-- Copied ids (document 01, "Copied ids"): what the coded columns are, and what coding answers. Assumes nothing.
use Rattle.std.specs.Prelude.{ℕ, ◌+◌, ◌-◌, ◌/◌, ◌≤◌, ◌≡◌, Bool, cond, List, [], ◌∷◌, map, ltb, leb, eqb, length, Result, Ok, Err}
use Rattle.std.specs.Int.Count.{count_trailing_zeros}
use Rattle.columns.specs.Lists.{◌!◌, tab, places, all_of}
use Rattle.columns.specs.Columns.{zeros, over, padded, leaves}
use Rattle.index.specs.declared.CodedIds.{CodedIds}
use Rattle.index.specs.declared.IdsError.{IdsError}
use Rattle.index.specs.declared.IdsError.TheVariants.{Room}
-- the columns and their base, and what reading one id back answers
pub use Rattle.index_read.specs.Back.{escaped_code, Ids, ids_of, id_says}
unfoldable pub use Rattle.index_read.specs.Back.{whole, escape_back, id_back}

-- Document 01's number and values for each answer; 0 is acceptance, and then the lengths used follow.
abbrev pub ids_coded_says : Result CodedIds IdsError → List ℕ
ids_coded_says (Ok coded) = 0 ∷ coded.codes ∷ coded.escapes ∷ []
ids_coded_says (Err (Room k)) = 9 ∷ k ∷ []

-- "If id ≥ base, the distance has at least three trailing zero bits, and distance / 8 + 1 is at most 4,294,967,294", of numbers of 64 bits.
unfoldable pub inline : ℕ → ℕ → Bool
inline base id = all_of (leb base id ∷ leb 3 (count_trailing_zeros 64 (id - base)) ∷ leb ((id - base) / 8 + 1) 4294967294 ∷ [])

-- "Id 0 is code 0. Otherwise .. that is the code. Everything else is escaped."
unfoldable pub code_of : ℕ → ℕ → ℕ
code_of base id = cond (eqb id 0) 0 (cond (inline base id) ((id - base) / 8 + 1) escaped_code)

-- The columns of the first n ids: a code for each, and for each escape its place and its id whole.
abbrev pub codes_to : ℕ → List ℕ → ℕ → List ℕ
codes_to base ids n = tab (λ i. code_of base (ids ! i)) n

abbrev pub is_escape : ℕ → List ℕ → ℕ → Bool
is_escape base ids i = eqb (code_of base (ids ! i)) escaped_code

abbrev pub escapes_to : ℕ → List ℕ → ℕ → List ℕ
escapes_to base ids n = places (is_escape base ids) n

abbrev pub escape_ids_to : ℕ → List ℕ → ℕ → List ℕ
escape_ids_to base ids n = map (λ i. ids ! i) (escapes_to base ids n)

unfoldable pub copied_of : ℕ → List ℕ → Ids
copied_of base ids = ids_of (codes_to base ids (length ids)) (escapes_to base ids (length ids)) (escape_ids_to base ids (length ids)) base

-- how many escapes the ids need
abbrev pub escape_rows : ℕ → List ℕ → ℕ
escape_rows base ids = length (escapes_to base ids (length ids))

-- "Coding ids can refuse only with ROOM, 15 for codes and 16 for escapes." nc, np, ni are the lengths lent.
unfoldable pub ids_coding_says : ℕ → List ℕ → ℕ → ℕ → ℕ → List ℕ
ids_coding_says base ids nc np ni =
    cond (ltb nc (length ids)) (9 ∷ 15 ∷ [])
    (cond (ltb np (escape_rows base ids)) (9 ∷ 16 ∷ [])
    (cond (ltb ni (escape_rows base ids)) (9 ∷ 16 ∷ [])
    (0 ∷ length ids ∷ escape_rows base ids ∷ [])))

-- The same as facts: nothing is refused.
pub record IdsAccepted (base : ℕ) (ids : List ℕ) (nc np ni : ℕ) : Type 0 where
  pub room_codes : length ids ≤ nc
  pub room_places : escape_rows base ids ≤ np
  pub room_ids : escape_rows base ids ≤ ni

-- The three columns written over their fronts; as an acceptance leaves them, with zeros behind; and as a refusal leaves them.
pub record IdsLaid (base : ℕ) (ids c₀ p₀ v₀ c p v : List ℕ) : Type 0 where
  pub codes : c ≡ over (codes_to base ids (length ids)) c₀
  pub places : p ≡ over (escapes_to base ids (length ids)) p₀
  pub escaped : v ≡ over (escape_ids_to base ids (length ids)) v₀

pub record IdsFilled (base : ℕ) (ids : List ℕ) (nc np ni : ℕ) (c p v : List ℕ) : Type 0 where
  pub codes : c ≡ padded (copied_of base ids).codes nc
  pub places : p ≡ padded (copied_of base ids).places np
  pub escaped : v ≡ padded (copied_of base ids).ids ni

pub record IdsEmptied (nc np ni : ℕ) (c p v : List ℕ) : Type 0 where
  pub codes : c ≡ zeros nc
  pub places : p ≡ zeros np
  pub escaped : v ≡ zeros ni

-- What `code_ids` answers, r, and leaves in the three columns that it is lent: all zero after a refusal.
pub record IdsCoding (base : ℕ) (ids : List ℕ) (nc np ni : ℕ) (r : Result CodedIds IdsError) (c p v : List ℕ) : Type 0 where
  pub answer : ids_coded_says r ≡ ids_coding_says base ids nc np ni
  pub codes : c ≡ leaves (ids_coded_says r) (copied_of base ids).codes nc
  pub escape_places : p ≡ leaves (ids_coded_says r) (copied_of base ids).places np
  pub escape_ids : v ≡ leaves (ids_coded_says r) (copied_of base ids).ids ni
