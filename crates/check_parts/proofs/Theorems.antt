-- What the contract of `check_parts` comes to: one outcome, and what an acceptance says. Assumes nothing.
use mathlib.Core.Path.{◌≡◌, sym, ap, ◌∙◌}
use mathlib.Core.Bool.{true}
use Rattle.columns.specs.Columns.{accepts}
use Prim.Native.Nat.{ℕ}
use Rattle.std.specs.Prelude.{Result}
use Rattle.rules.specs.declared.Refusal.{Refusal}
use Rattle.rules.specs.Types.{checked_says}
use Rattle.rules.specs.Input.{Schema}
use Rattle.rules.specs.Edges.{Parts}
use Rattle.rules.specs.Parts.{handed_says}
use Rattle.rules.proofs.Types.{one_checked}
use Rattle.rules.proofs.Handed.{HandedPassed, handed-passed, handed_refuse}

module _ (s : Schema) (p : Parts) (r : Result ℕ Refusal) (e : checked_says r ≡ handed_says s p) where
  -- ONE OUTCOME.
  pub one_check : (r' : Result ℕ Refusal) → checked_says r' ≡ handed_says s p → r ≡ r'
  one_check r' e' = one_checked r r' (e ∙ sym e')

  -- Parts that are accepted have passed every test: what the steps of `from_parts` go by.
  pub accepted_passed : accepts (checked_says r) ≡ true → HandedPassed s p
  unfolding handed_says
  accepted_passed y = handed-passed s p ((handed_refuse s p).none_met _ (sym (ap accepts e) ∙ y))
