-- Slot rows, and what filling the three slot columns from them answers and leaves. Assumes nothing.
use Rattle.std.specs.Prelude.{ℕ, Result, Ok, Err, min, ◌≡◌, cond, List, [], ◌∷◌, ltb, length}
use Rattle.columns.specs.Lists.{◌!◌, any_of, tab}
use Rattle.columns.specs.Columns.{cleared}
use Rattle.rules.specs.Built.{SlotsLeft, slots_left}
use Rattle.slot_rows.specs.declared.SlotRow.{SlotRow}
use Rattle.slot_rows.specs.declared.FillError.{FillError}
use Rattle.slot_rows.specs.declared.FillError.TheVariants.{Room}

-- "Filling from slot rows only with ROOM 17."
abbrev pub filled_says : Result ℕ FillError → List ℕ
filled_says (Ok n) = 0 ∷ n ∷ []
filled_says (Err (Room b)) = 9 ∷ b ∷ []

abbrev pub row_offset : SlotRow → ℕ
row_offset r = r.offset

abbrev pub row_label : SlotRow → ℕ
row_label r = r.label

abbrev pub row_weak : SlotRow → ℕ
row_weak r = r.weak

-- What a call leaves of rows, in columns of a, b and c numbers: its answer, and the three columns. "Their outputs are zero after a refusal."
abbrev pub left : List SlotRow → ℕ → ℕ → ℕ → SlotsLeft
left rows a b c = slots_left row_offset row_label row_weak rows a b c

pub record Filling (rows : List SlotRow) (a b c : ℕ) (r : Result ℕ FillError) (o l w : List ℕ) : Type 0 where
  pub answer : filled_says r ≡ (left rows a b c).says
  pub offsets : o ≡ (left rows a b c).offsets
  pub labels : l ≡ (left rows a b c).labels
  pub weak : w ≡ (left rows a b c).weak

-- Rows lent as columns: a row of which one column is too short to have it is no row.
abbrev pub row_of : List ℕ → List ℕ → List ℕ → ℕ → SlotRow
row_of offsets labels weak i = record { offset = offsets ! i; label = labels ! i; weak = weak ! i }

unfoldable pub row_count : List ℕ → List ℕ → List ℕ → ℕ
row_count offsets labels weak = min (min (length offsets) (length labels)) (length weak)

unfoldable pub rows_of : List ℕ → List ℕ → List ℕ → List SlotRow
rows_of offsets labels weak = tab (row_of offsets labels weak) (row_count offsets labels weak)

-- How many of n rows are written: all of them, or none where a column is too short.
unfoldable pub room_for : ℕ → ℕ → ℕ → ℕ → ℕ
room_for n a b c = cond (any_of (ltb a n ∷ ltb b n ∷ ltb c n ∷ [])) 0 n

-- The last step: the ends behind what was written are cleared, and the answer says whether that is all.
pub record RowsSettled (n room : ℕ) (r : Result ℕ FillError) (o l w o' l' w' : List ℕ) : Type 0 where
  pub answer : filled_says r ≡ cond (ltb room n) (9 ∷ 17 ∷ []) (0 ∷ n ∷ [])
  pub offsets : o' ≡ cleared room o
  pub labels : l' ≡ cleared room l
  pub weak : w' ≡ cleared room w
