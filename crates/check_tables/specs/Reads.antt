-- Inputs of which only the columns that one check reads are given, for the contracts of the checks that read no others, and faults of
-- `rules/specs/Verdict.antt` restated on the numbers that a check has read. Each comment names the rule and the law of `proofs/Faults.antt` that ties
-- the two. Assumes nothing.
use Rattle.std.specs.Prelude.{ℕ, ◌+◌, ◌≡◌, Bool, false, not, List, [], ◌∷◌, eqb, leb, ltb, length}
use Rattle.columns.specs.Lists.{◌!◌, all_of, any_of}
use Rattle.rules.specs.declared.ReferencePolicy.{ReferencePolicy}
use Rattle.rules.specs.Input.{Objects, Classes, Slots, Statics, Schema, Route, Input}
use Rattle.rules.specs.Tables.{object_table, class_table, slot_table, static_table, raw_route, schema_of, input_of}

-- a column given as the list that it holds
abbrev pub own : List ℕ → List ℕ
own xs = xs

abbrev pub no_slots : Slots
no_slots = slot_table own [] [] []

abbrev pub no_statics : Statics
no_statics = static_table own [] [] []

abbrev pub no_policy : ReferencePolicy
no_policy = record { soft = false; weak = false }

-- the raw route's id size alone, which is all that LIMIT reads of it
abbrev pub size_only : ℕ → Route
size_only size = raw_route own [] size [] []

abbrev pub no_route : Route
no_route = size_only 0

-- an input of which objects, classes and ids are given
abbrev pub part_input : Objects → Classes → Route → Input
part_input objects classes route = input_of objects (schema_of classes no_slots no_statics 0) route [] no_policy

-- the columns of the object check
abbrev pub object_columns : List ℕ → List ℕ → List ℕ → List ℕ → List ℕ → Input
object_columns ids kinds classes lengths classIds =
    part_input (object_table own ids kinds classes lengths) (class_table own classIds [] [] [] [] [] [] []) no_route

-- the columns of the class check, without those about found objects
abbrev pub schema_columns : List ℕ → List ℕ → List ℕ → List ℕ → List ℕ → List ℕ → List ℕ → List ℕ → List ℕ → List ℕ → List ℕ → ℕ → Schema
schema_columns dumped kinds slot_start slot_end static_start static_end offsets labels weak staticNames types names =
    schema_of
    (class_table own [] [] dumped kinds slot_start slot_end static_start static_end)
    (slot_table own offsets labels weak)
    (static_table own staticNames types [])
    names

-- A fault of an object whose forerunner has the id `before`, 0 for the first: the rule `bad_object`, by the law `object_fault_lem`.
unfoldable pub object_fault : ℕ → ℕ → ℕ → ℕ → ℕ → ℕ → Bool
object_fault before id kind class len classes =
    any_of
    (leb id before
    ∷ ltb 3 kind
    ∷ all_of (eqb kind 0 ∷ leb classes class ∷ [])
    ∷ all_of (eqb kind 1 ∷ ltb 268435456 len ∷ [])
    ∷ [])

-- The rule `bad_class`: a class's own numbers are at fault (laws `row-hit` and `class_none`; where they are not, `row_ranges`),
unfoldable pub row_fault : ℕ → ℕ → ℕ → ℕ → ℕ → ℕ → ℕ → ℕ → Bool
row_fault dumped kind slot_start slot_end static_start static_end slots statics =
    any_of (ltb 1 dumped ∷ ltb 4 kind ∷ ltb slot_end slot_start ∷ ltb slots slot_end ∷ ltb static_end static_start ∷ ltb statics static_end ∷ [])

-- or one slot, where offsets from `low` on are in order (rule `bad_slot`, laws `slot_fault_lem` and `slot-hit`),
unfoldable pub slot_fault : ℕ → ℕ → ℕ → ℕ → ℕ → Bool
slot_fault names label weak offset low = any_of (leb names label ∷ ltb 1 weak ∷ ltb offset low ∷ [])

-- or one static (rule `bad_static`, laws `static_faults` and `static_hit`), which stands k behind the first.
unfoldable pub static_fault : ℕ → ℕ → ℕ → Bool
static_fault names name type = any_of (leb names name ∷ not (any_of (eqb type 2 ∷ all_of (leb 4 type ∷ leb type 11 ∷ []) ∷ [])) ∷ [])

abbrev pub static_fault_at : List ℕ → List ℕ → ℕ → ℕ → ℕ → Bool
static_fault_at staticNames types names from k = static_fault names (staticNames ! (from + k)) (types ! (from + k))

-- The columns of each table are of one length: the rule `schema_lengths` does not hold of them.
pub record Tables (dumped kinds slot_start slot_end static_start static_end offsets labels weak staticNames types : List ℕ) : Type 0 where
  pub kinds_long : length kinds ≡ length dumped
  pub slot_starts_long : length slot_start ≡ length dumped
  pub slot_ends_long : length slot_end ≡ length dumped
  pub static_starts_long : length static_start ≡ length dumped
  pub static_ends_long : length static_end ≡ length dumped
  pub labels_long : length labels ≡ length offsets
  pub weak_long : length weak ≡ length offsets
  pub types_long : length types ≡ length staticNames
