-- Inputs from flat columns, and the faults that are tested before the places are counted. Assumes nothing.
use Rattle.std.specs.Prelude.{ℕ, ◌≡◌, true, cond, List, [], ◌∷◌, ◌++◌, Result, length}
use Rattle.columns.specs.Lists.{places}
use Rattle.columns.specs.Columns.{zeros, accepts}
use Rattle.rules.specs.declared.Refusal.{Refusal}
use Rattle.rules.specs.Types.{refusal_says, answer_says, checked_says}
use Rattle.rules.specs.Input.{Schema, Input, object_count, class_count}
use Rattle.rules.specs.Tables.{object_table, class_table, slot_table, static_table, copied_route, raw_route, schema_of, input_of}
use Rattle.rules.specs.Places.{place_count}
use Rattle.rules.specs.Verdict.{first_of, at, once, bad_lengths, bad_limit, bad_object, bad_dumped, bad_copied, bad_span, bad_root, faults, check_says}
use Rattle.rules.specs.Needs.{Fits}
use Rattle.check_tables.specs.Found.{marks_if}
use Rattle.check_whole.specs.Whole.{limit_says}
use Rattle.check_tables.specs.Reads.{own, no_slots, no_statics, no_route, no_policy}

-- a schema of slot ranges alone, which is what the checks of copied ids, parts and roots read of it
abbrev ranges_only : List ℕ → List ℕ → Schema
ranges_only slot_start slot_end = schema_of (class_table own [] [] [] [] slot_start slot_end [] []) no_slots no_statics 0

-- the columns of those checks, on either route
abbrev pub late_columns : List ℕ → List ℕ → List ℕ → List ℕ → List ℕ → List ℕ → List ℕ → List ℕ → List ℕ → ℕ → List ℕ → List ℕ → Input
late_columns ids kinds classes lengths slot_start slot_end codes escapePlaces escapeIds base starts roots =
    input_of (object_table own ids kinds classes lengths) (ranges_only slot_start slot_end) (copied_route own codes escapePlaces escapeIds base starts) roots no_policy

abbrev pub late_raw : List ℕ → List ℕ → List ℕ → List ℕ → List ℕ → List ℕ → List ℕ → ℕ → Input
late_raw ids kinds lengths starts bodies bytes roots size =
    input_of (object_table own ids kinds [] lengths) (ranges_only [] []) (raw_route own bytes size starts bodies) roots no_policy

-- the columns of the checks of objects and classes, which are the same on both routes
abbrev pub table_columns : List ℕ → List ℕ → List ℕ → List ℕ → List ℕ → List ℕ → List ℕ → List ℕ → List ℕ → List ℕ → List ℕ → List ℕ → List ℕ → List ℕ
    → List ℕ → List ℕ → ℕ → Input
table_columns ids kinds classes lengths classIds dumped classKinds slot_start slot_end static_start static_end offsets labels weak staticNames types names =
    let schema =
    schema_of (class_table own classIds [] dumped classKinds slot_start slot_end static_start static_end) (slot_table own offsets labels weak)
    (static_table own staticNames types []) names in
    input_of (object_table own ids kinds classes lengths) schema no_route [] no_policy

-- The faults of objects and classes; of copied ids, parts and roots; and all in the order of refusal but PLACES, which is tested last, of an input that has
-- none of these.
unfoldable pub faults_tables : Input → List (List ℕ)
faults_tables x = at 3 (places (bad_object x) (object_count x)) ++ at 4 (places (bad_dumped x) (class_count x.schema))

unfoldable pub faults_late : Input → List (List ℕ)
faults_late x = at 5 (bad_copied x.route) ++ (at 6 (places (bad_span x) (object_count x)) ++ at 7 (places (bad_root (object_count x) x.roots) (length x.roots)))

unfoldable pub faults_before : Input → List (List ℕ)
faults_before x =
    at 1 (once (bad_lengths x))
    ++ (at 2 (once (bad_limit x)) ++ (at 3 (places (bad_object x) (object_count x)) ++ (at 4 (places (bad_dumped x) (class_count x.schema)) ++ faults_late x)))

-- PLACES is tested where the tests before accept.
unfoldable pub counted_says : List ℕ → ℕ → ℕ → List ℕ
counted_says tested n told = cond (accepts tested) (limit_says n told) tested

-- what tests answer that tell no number: 0 for one
abbrev pub passed_says : Result (Unit {0}) Refusal → List ℕ
passed_says = answer_says (λ u. 0 ∷ []) refusal_says

-- What all checks answer, r, and leave in the working column, w, that they are lent with m numbers: a refusal is document 01's; on acceptance the number
-- fits the room where the places do, and the marks of the classes are left.
pub record Counted (x : Input) (room m : ℕ) (r : Result ℕ Refusal) (w : List ℕ) : Type 0 where
  pub told : ℕ
  pub fits : Fits room (place_count x) told
  pub answer : checked_says r ≡ first_of (faults x) (0 ∷ told ∷ [])
  pub marks : accepts (checked_says r) ≡ true → w ≡ marks_if x (class_count x.schema) m

-- What a check leaves in a working column of m numbers where a build goes on: the marks of the classes that are found, after a refusal zeros.
unfoldable pub marks_left : Input → ℕ → List ℕ
marks_left x m = cond (accepts (check_says x)) (marks_if x (class_count x.schema) m) (zeros m)

-- What `check_copied` and `check_raw` answer, r, and leave in the working column, w, that they are lent with m numbers: "all work space is zero".
pub record Judged (x : Input) (m : ℕ) (r : Result ℕ Refusal) (w : List ℕ) : Type 0 where
  pub answer : checked_says r ≡ check_says x
  pub working : w ≡ zeros m

-- What `fit_raw` does: the same answer, and the marks are left.
pub record Marked (x : Input) (m : ℕ) (r : Result ℕ Refusal) (w : List ℕ) : Type 0 where
  pub answer : checked_says r ≡ check_says x
  pub marks : w ≡ marks_left x m

-- What `fit_copied` does: the same refusals, and on acceptance a number that fits the room where the places do.
pub record Fitted (x : Input) (room m : ℕ) (r : Result ℕ Refusal) (w : List ℕ) : Type 0 where
  pub told : ℕ
  pub fits : Fits room (place_count x) told
  pub answer : checked_says r ≡ first_of (faults x) (0 ∷ told ∷ [])
  pub marks : w ≡ marks_left x m
