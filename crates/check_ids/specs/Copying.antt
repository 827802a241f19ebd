-- The check of copied ids, the rule `bad_copied`, restated as a walk along codes and escapes together makes it, and by counts. Each comment names the rule
-- and the law that ties the two (`proofs/Walking.antt`, `proofs/Clean.antt`). Assumes nothing.
use Rattle.std.specs.Prelude.{ℕ, ◌+◌, ◌-◌, ◌*◌, ◌^◌, ◌≡◌, Bool, false, cond, not, List, [], ◌∷◌, ◌++◌, Option, Some, None, Result, Ok, Err, eqb, leb, ltb, length, take}
use Rattle.columns.specs.Lists.{◌!◌, all_of, any_of, places, first_place, one, total}
use Rattle.index.specs.Copied.{Ids, escaped_code}
use Rattle.rules.specs.Input.{Route}
use Rattle.rules.specs.Tables.{copied_route}
use Rattle.check_tables.specs.Reads.{own}
use Rattle.rules.specs.Verdict.{bad_code, bad_escape}

-- the place of a fault, as a list of none or one
abbrev pub fault_says : Option ℕ → List ℕ
fault_says (Some p) = p ∷ []
fault_says None = []

-- whether row k is the escape of position p (laws `row_within`, `row-place`, `row_other`), and the id there, 0 where it is not
unfoldable pub has_row : List ℕ → ℕ → ℕ → Bool
has_row ps k p = all_of (ltb k (length ps) ∷ eqb (ps ! k) p ∷ [])

unfoldable pub escape_id : List ℕ → List ℕ → ℕ → ℕ → ℕ
escape_id ps ids k p = cond (has_row ps k p) (ids ! k) 0

-- a code with the id of its escape is at fault: the rule `bad_code`, by the law `code_fault_lem`
unfoldable pub code_fault : ℕ → ℕ → ℕ → Bool
code_fault code base id =
    cond (eqb code 0) false
    (cond (eqb code escaped_code) (eqb id 0) (any_of (leb (2 ^ 64) (base + 8 * (code - 1)) ∷ eqb (base + 8 * (code - 1)) 0 ∷ [])))

-- how many escapes, from the first, are without fault (rule `bad_escape`), one position on: laws `walk_start`, `walk_more`
unfoldable pub good_on : ℕ → ℕ → Bool → ℕ → ℕ
good_on good rows row code = cond (all_of (row ∷ eqb code escaped_code ∷ eqb good rows ∷ [])) (good + 1) good

-- the faults of codes, then those of escapes, of lists that rise: the rule `bad_copied`, by the law `copied_walk`
unfoldable pub walk_faults : Ids → List ℕ
walk_faults c = places (bad_code c) (length c.codes) ++ places (bad_escape c) (length c.places)

-- the columns of the check
abbrev pub id_columns : List ℕ → List ℕ → List ℕ → ℕ → Ids
id_columns codes places ids base = record { codes = codes; places = places; ids = ids; base = base }

abbrev pub copied_columns : List ℕ → List ℕ → List ℕ → ℕ → Route
copied_columns codes places ids base = copied_route own codes places ids base []

-- how many codes are not 0, and how many are escapes
unfoldable pub held_codes : List ℕ → ℕ
held_codes codes = total (λ k. one (not (eqb (codes ! k) 0))) (length codes)

unfoldable pub escaped_codes : List ℕ → ℕ
escaped_codes codes = total (λ k. one (eqb (codes ! k) escaped_code)) (length codes)

-- A test that is quick, and does not look where a fault is: as many escapes as codes of escapes, and none of these. Where it holds, the rule `bad_copied`
-- finds none: law `clean_none`.
unfoldable pub escape_fault : List ℕ → List ℕ → List ℕ → ℕ → Bool
escape_fault codes places ids k = any_of (not (eqb (codes ! (places ! k)) escaped_code) ∷ eqb (ids ! k) 0 ∷ [])

unfoldable pub base_fault : ℕ → Bool
base_fault base = any_of (eqb base 0 ∷ leb (2 ^ 64) (base + 8 * 4294967293) ∷ [])

unfoldable pub is_clean : Ids → ℕ → Bool
is_clean c escaped =
    let n = length c.places in
    all_of (eqb escaped n ∷ not (base_fault c.base) ∷ leb n (first_place (escape_fault c.codes c.places c.ids) n) ∷ [])

-- What the check answers: the place of the first fault, and where there is none, how many codes are not 0.
abbrev pub tested_says : Result ℕ ℕ → List ℕ
tested_says (Err p) = p ∷ []
tested_says (Ok n) = []

abbrev pub held_says : Result ℕ ℕ → ℕ → ℕ
held_says (Err p) n = n
held_says (Ok m) n = m

pub record TestedCodes (faults codes : List ℕ) (r : Result ℕ ℕ) : Type 0 where
  pub fault : tested_says r ≡ take 1 faults
  pub held : held_says r (held_codes codes) ≡ held_codes codes
