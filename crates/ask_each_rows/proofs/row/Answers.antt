-- `ask_each_rows::row` meets its contract: by the answer. Assumes nothing.
use Prim.Native.Nat.{ℕ}
use mathlib.Core.Path.{◌≡◌, refl, ap, ◌∙◌}
use mathlib.Core.Bool.{false, cond}
use mathlib.Core.List.{List, ◌∷◌}
use lib.ListN.{set}
use Rattle.std.specs.Prelude.{Option}
use Rattle.columns.specs.Columns.{accepts}
use Rattle.rules.specs.Each.{target_said, found_said}
use Rattle.rules.specs.Types.{found_values, field_says}
use Rattle.rules.proofs.Types.{read_refuses}
use Rattle.ask_each_rows.specs.Rows.{Row}
use Rattle.ask_each_rows.proofs.row.Goals as goal

-- the row of an answer that is known, and of a refusal
told : {a b : List ℕ} (i : ℕ) (t m : List ℕ) → a ≡ b → Row a i t m (accepts b) (cond (accepts b) (set t i (target_said b)) t) (cond (accepts b) (set m i (found_said b)) m)
told i t m e = rw e (record { answer = refl; targets = refl; found = refl })

refused : {a b : List ℕ} (i : ℕ) (t m : List ℕ) → a ≡ b → accepts b ≡ false → Row a i t m false t m
refused i t m e f = rw e (record { answer = rw f; targets = rw f; found = rw f })

pub returns-in-Ok-Some : goal.returns-in-Ok-Some
unfolding accepts
returns-in-Ok-Some c = let a = c.args in told _ a.own_targets.now a.found.now (ap field_says c.in-Ok-Some.is ∙ ap (λ (t : Option ℕ). 0 ∷ found_values t) (rw c.in-Ok-Some.is at c.in-Ok-Some.field-0-is))

pub returns-in-Ok-None : goal.returns-in-Ok-None
unfolding accepts
returns-in-Ok-None c = let a = c.args in told _ a.own_targets.now a.found.now (ap field_says c.in-Ok-None.is ∙ ap (λ (t : Option ℕ). 0 ∷ found_values t) (rw c.in-Ok-None.is at c.in-Ok-None.field-0-is))

pub returns-in-Err : goal.returns-in-Err
returns-in-Err c = let a = c.args in refused _ a.own_targets.now a.found.now (ap field_says c.in-Err.is) (read_refuses c.in-Err.field-0)
