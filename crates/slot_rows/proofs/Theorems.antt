-- What the contracts come to: no call has a second outcome. Assumes nothing.
use mathlib.Core.Path.{◌≡◌, refl, sym, ap, ◌∙◌}
use mathlib.Core.Bool.{cond}
use mathlib.Core.List.{List}
use Prim.Native.Nat.{ℕ}
use lib.Dec.{eqb}
use Rattle.columns.specs.Lists.{◌!◌}
use Rattle.slot_rows.specs.declared.SlotRow.{SlotRow}
use Rattle.std.specs.Prelude.{Result, Ok, Err}
use Rattle.slot_rows.specs.declared.FillError.{FillError}
use Rattle.slot_rows.specs.declared.FillError.TheVariants.{Room}
use Rattle.slot_rows.specs.Rows.{filled_says, Filling}

-- Document 01's numbers and values tell the answers apart, and all else that the contract says is an equation.
filled_of : List ℕ → Result ℕ FillError
filled_of says = cond (eqb (says ! 0) 0) (Ok (says ! 1)) (Err (Room (says ! 1)))

filled_of_says : (r : Result ℕ FillError) → filled_of (filled_says r) ≡ r
unfolding filled_of
filled_of_says (Ok n) = refl
filled_of_says (Err (Room b)) = refl

-- ONE OUTCOME, of rows lent as a slice of structs or as columns.
pub one_filling : {rows : List SlotRow} {a b c : ℕ} {r r' : Result ℕ FillError} {o o' l l' w w' : List ℕ} → Filling rows a b c r o l w → Filling rows a b c r' o' l' w'
    → (r ≡ r') × (o ≡ o') × (l ≡ l') × (w ≡ w')
one_filling {r = r} {r' = r'} f f' =
    (sym (filled_of_says r) ∙ ap filled_of (f.answer ∙ sym f'.answer) ∙ filled_of_says r', f.offsets ∙ sym f'.offsets, f.labels ∙ sym f'.labels, f.weak ∙ sym f'.weak)
