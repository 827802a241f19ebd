-- An object with an escape, worked by hand. Assumes nothing.
use Prim.Native.Nat.{ℕ, ◌+◌}
use mathlib.Core.Path.{◌≡◌, refl}
use mathlib.Core.List.{List, [], ◌∷◌}
use Rattle.columns.specs.Lists.{tab, places, all_of, collect}
use Rattle.columns.specs.Ranks.{front, halve, behind, bisect}
use Rattle.rules.specs.Types.{array_element_label}
use Rattle.rules.specs.Labels.{Coded, coded, codes_for, codes_of, field_code}
use Rattle.labels.specs.Reading.{row_back, field_back, code_back, next_back, walk_back, exact_back}
use Rattle.ask_late.specs.Late.{nearest, late_back}

-- Its elements are 2, 6, 40,000, 40,001 and 40,007; the field 9, which has no code, stands before the last. A neighbour's one edge stands before them all.
abbrev elements : List ℕ
elements = (array_element_label + 2) ∷ (array_element_label + 6) ∷ (array_element_label + 40000) ∷ (array_element_label + 40001) ∷ 9 ∷ (array_element_label + 40007) ∷ []

unfoldable columns : Coded
columns = coded [] (0 ∷ 1 ∷ 7 ∷ []) ((array_element_label + 70000) ∷ elements) 2

worked_codes : columns.codes ≡ 0xFFFF ∷ 0x8002 ∷ 0x8003 ∷ 0xFFFF ∷ 0x8000 ∷ 0x7FFF ∷ 0x8005 ∷ []
unfolding columns coded codes_for codes_of field_code tab places
worked_codes = refl

-- The neighbour's escape is not the object's, and the escaped field does not stop.
worked_nearest : tab (nearest columns 1) 6 ≡ 0 ∷ 0 ∷ 2 ∷ 2 ∷ 2 ∷ 2 ∷ []
unfolding columns coded codes_for codes_of field_code tab places nearest
worked_nearest = refl

worked_labels : collect (late_back columns 1) 6 ≡ elements
unfolding columns coded codes_for codes_of field_code tab places nearest late_back exact_back walk_back next_back code_back row_back field_back all_of bisect front halve behind
worked_labels = refl

-- Columns that no build leaves: the object's first code names a field that is not there. Read from there, no element has a label; read from the escape, those at
-- it and behind it have.
unfoldable damaged : Coded
damaged = record { codes = 0xFFFF ∷ 5 ∷ 0x8003 ∷ 0xFFFF ∷ 0x8000 ∷ 0x7FFF ∷ 0x8005 ∷ []; fields = []; escape_at = columns.escape_at; escape_label = columns.escape_label }

worked_forward : collect (exact_back damaged 1) 6 ≡ 9 ∷ []
unfolding damaged columns coded codes_for codes_of field_code tab places exact_back walk_back next_back code_back row_back field_back all_of bisect front halve behind
worked_forward = refl

worked_late : collect (late_back damaged 1) 6 ≡ (array_element_label + 40000) ∷ (array_element_label + 40001) ∷ 9 ∷ (array_element_label + 40007) ∷ []
unfolding damaged columns coded codes_for codes_of field_code tab places nearest late_back exact_back walk_back next_back code_back row_back field_back all_of bisect front halve behind
worked_late = refl
