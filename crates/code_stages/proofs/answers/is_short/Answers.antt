-- `code_stages::answers::is_short` meets its contract: one column, or the other. Assumes nothing.
use mathlib.Core.Path.{sym, ◌∙◌}
use native.Mathlib.Omega.{arith}
use borrow.Author.Tests.{lt-ltb}
use Rattle.code_stages.proofs.Laws.{short-first, short_second}
use Rattle.code_stages.proofs.answers.is_short.Goals as goal

pub returns-then-a-need : goal.returns-then-a-need
returns-then-a-need c = let a = c.args in
    lt-ltb a.a a.need c.if-a-need.true ∙ sym (short-first a.need a.a a.b c.if-a-need.true)

pub returns-else-a-need : goal.returns-else-a-need
returns-else-a-need c = let a = c.args in sym (short_second a.need a.a a.b (omega arith))
