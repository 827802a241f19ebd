-- `ask_span::between` meets its contract: by the two answers. Assumes nothing.
use mathlib.Core.Path.{sym, ◌∙◌}
use Rattle.rules.proofs.Types.{read_refuses}
use Rattle.ask_span.proofs.Spans.{first_refused, next_refused}
use Rattle.ask_span.proofs.between.Goals as goal

pub returns-in_default : goal.returns-in_default
returns-in_default c = first_refused _ _ _ _ _ (rw c.in_default.is (read_refuses c.in_default.field-0))

pub returns-in_default-next : goal.returns-in_default-next
returns-in_default-next c = next_refused _ _ _ _ _ (rw c.in_default-next.is (read_refuses c.in_default-next.field-0))

pub returns : goal.returns
returns c = c.within.ensures ∙ sym (simp (c.in-Ok.is, c.in-Ok-next.is))
