-- `build_edges::passed` meets its contract: a refusal never accepts. Assumes nothing.
use mathlib.Core.Path.{◌≡◌, refl, sym, ◌∙◌}
use Prim.Native.Nat.{ℕ}
use Rattle.std.specs.Prelude.{Result, Ok, Err, is_ok}
use Rattle.columns.specs.Columns.{accepts}
use Rattle.rules.specs.declared.Refusal.{Refusal}
use Rattle.rules.specs.Types.{checked_says}
use Rattle.rules.proofs.Types.{refusal_refuses}
use Rattle.build_edges.proofs.passed.Goals as goal

checked_ok : (c : Result ℕ Refusal) → accepts (checked_says c) ≡ is_ok c
unfolding accepts
checked_ok (Ok n) = refl
checked_ok (Err r) = refusal_refuses r

pub returns : goal.returns
returns c = c.is_ok.ensures.value ∙ sym (checked_ok _)
