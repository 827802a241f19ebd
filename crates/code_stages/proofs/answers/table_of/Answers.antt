-- `code_stages::answers::table_of` meets its contract. The length, or 0. Assumes nothing.
use mathlib.Core.Path.{sym, ap, ◌∙◌}
use mathlib.Core.Bool.{Bool, cond}
use Prim.Native.Nat.{◌+◌}
use native.Mathlib.Omega.{arith}
use Rattle.rules.proofs.Types.{accepts_ok}
use Rattle.code_stages.proofs.answers.table_of.Goals as goal

pub overflow_add-result : goal.overflow_add-result
overflow_add-result c = omega (arith, c.requires (accepts_ok c.args.b ∙ sym c.is_ok.ensures.value ∙ c.if-is_ok.true))

pub returns-then-is_ok : goal.returns-then-is_ok
returns-then-is_ok c = sym (ap (λ (b : Bool). cond b (c.args.names + 2) 0) (accepts_ok c.args.b ∙ sym c.is_ok.ensures.value ∙ c.if-is_ok.true))

pub returns-else-is_ok : goal.returns-else-is_ok
returns-else-is_ok c = sym (ap (λ (b : Bool). cond b (c.args.names + 2) 0) (accepts_ok c.args.b ∙ sym c.is_ok.ensures.value ∙ c.if-is_ok.false))
