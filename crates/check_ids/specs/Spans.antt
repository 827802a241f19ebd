-- The check of the objects' parts, the rule `bad_span`, restated on the numbers that it has read, and inputs of which only the columns that it reads are
-- given. The laws that tie the two are in `proofs/Parted.antt`. Assumes nothing.
use Rattle.std.specs.Prelude.{ℕ, ◌+◌, ◌-◌, ◌*◌, Bool, cond, not, List, [], ◌∷◌, eqb, ltb}
use Rattle.columns.specs.Lists.{◌!◌, all_of, any_of}
use Rattle.rules.specs.Input.{Classes, Input}
use Rattle.rules.specs.Tables.{object_table, class_table, copied_route, raw_route}
use Rattle.check_tables.specs.Reads.{own, part_input}

-- how many slots an object has (rule `slot_count`), and ids: `element_count` more
unfoldable pub slots_of : ℕ → ℕ → List ℕ → List ℕ → ℕ
slots_of kind class slot_start slot_end = cond (eqb kind 0) (slot_end ! class - slot_start ! class) 0

unfoldable pub part_length : ℕ → ℕ → ℕ → List ℕ → List ℕ → ℕ
part_length kind class len slot_start slot_end = slots_of kind class slot_start slot_end + cond (eqb kind 1) len 0

-- by the copied route, law `copied-span_fault`; by the raw route, law `raw-span_fault`
unfoldable pub copied_span_fault : ℕ → ℕ → ℕ → ℕ → Bool
copied_span_fault kind start part codes = all_of (ltb kind 2 ∷ ltb codes (start + part) ∷ [])

unfoldable pub raw_span_fault : ℕ → ℕ → ℕ → ℕ → ℕ → ℕ → Bool
raw_span_fault kind len start body bytes size =
    all_of (ltb kind 2 ∷ any_of (ltb bytes (start + body) ∷ all_of (eqb kind 1 ∷ not (eqb body (len * size)) ∷ []) ∷ []) ∷ [])

abbrev span_classes : List ℕ → List ℕ → Classes
span_classes slot_start slot_end = class_table own [] [] [] [] slot_start slot_end [] []

abbrev pub copied_spans : List ℕ → List ℕ → List ℕ → List ℕ → List ℕ → List ℕ → List ℕ → Input
copied_spans kinds classes lengths slot_start slot_end codes starts =
    part_input (object_table own [] kinds classes lengths) (span_classes slot_start slot_end) (copied_route own codes [] [] 0 starts)

abbrev pub raw_spans : List ℕ → List ℕ → List ℕ → ℕ → List ℕ → List ℕ → Input
raw_spans kinds lengths bytes size starts bodies = part_input (object_table own [] kinds [] lengths) (span_classes [] []) (raw_route own bytes size starts bodies)
