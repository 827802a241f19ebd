-- The code that alone says a label, and an answer by codes. Assumes nothing.
use Rattle.std.specs.Prelude.{◌≡◌, ℕ, ◌<◌, ◌≤◌, List, length, ◌≢◌}
use Rattle.columns.specs.Lists.{◌!◌}
use Rattle.rules.specs.Types.{array_element_label}
use Rattle.ask_field.specs.Sought.{Sought, unread}

-- A code below `most` says its field by itself; of these `code` alone says the label l, and none does where it is 65,536.
pub record Sole (fields : List ℕ) (l code most : ℕ) : Type 0 where
  pub few : most ≤ 32767
  pub within : (v : ℕ) → v < most → v < length fields
  pub field : (v : ℕ) → v < most → fields ! v < array_element_label
  pub only : (v : ℕ) → v < most → fields ! v ≡ l → v ≡ code
  pub below : code < 65536 → code < most
  pub stands : code < 65536 → fields ! code ≡ l

-- an answer that leaves no doubt is the one asked for
abbrev pub Quick : Sought → Sought → Type 0
Quick r s = (r ≢ unread) → r ≡ s
