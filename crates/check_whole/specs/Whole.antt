-- What the tests of whole tables read, and PLACES by a number, which is passed on. Assumes nothing.
use Rattle.std.specs.Prelude.{ℕ, List, []}
use Rattle.rules.specs.Input.{Route, Input}
use Rattle.rules.specs.Tables.{object_table, class_table, slot_table, static_table, raw_route, schema_of, input_of}
use Rattle.check_tables.specs.Reads.{own, no_policy, no_route}
-- 8 PLACES: "total places over the limit"; and no more than the limit
unfoldable pub use Rattle.check_limit.specs.Limit.{limit_says, allowed}

-- the lengths that the raw route's columns have, without the bytes
abbrev pub bodies_only : List ℕ → List ℕ → Route
bodies_only starts bodies = raw_route own [] 0 starts bodies

-- the columns of the class check with those about found objects
abbrev pub dumped_columns : List ℕ → List ℕ → List ℕ → List ℕ → List ℕ → List ℕ → List ℕ → List ℕ → List ℕ → List ℕ → List ℕ → List ℕ
    → List ℕ → List ℕ → ℕ → Input
dumped_columns ids kinds classIds dumped classKinds slot_start slot_end static_start static_end offsets labels weak staticNames types names =
    let schema =
    schema_of (class_table own classIds [] dumped classKinds slot_start slot_end static_start static_end) (slot_table own offsets labels weak)
    (static_table own staticNames types []) names in
    input_of (object_table own ids kinds [] []) schema no_route [] no_policy
