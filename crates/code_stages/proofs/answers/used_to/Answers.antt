-- `code_stages::answers::used_to` meets its contract: the length, or 0. Assumes nothing.
use mathlib.Core.Path.{sym, ap, ◌∙◌}
use mathlib.Core.Bool.{Bool, cond}
use Rattle.rules.proofs.Types.{accepts_ok}
use Rattle.code_stages.proofs.answers.used_to.Goals as goal

pub returns-then-is_ok : goal.returns-then-is_ok
returns-then-is_ok c = sym (ap (λ (b : Bool). cond b c.args.n 0) (accepts_ok c.args.b ∙ sym c.is_ok.ensures.value ∙ c.if-is_ok.true))

pub returns-else-is_ok : goal.returns-else-is_ok
returns-else-is_ok c = sym (ap (λ (b : Bool). cond b c.args.n 0) (accepts_ok c.args.b ∙ sym c.is_ok.ensures.value ∙ c.if-is_ok.false))
