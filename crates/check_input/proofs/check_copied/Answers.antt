-- `check_input::check_copied` meets its contract: no room, and so the places; the marks are cleared. Assumes nothing.
use Rattle.check_input.proofs.Theorems.{fitted_marked, marked_judged}
use Rattle.check_input.proofs.check_copied.Goals as goal

pub returns : goal.returns
returns c = marked_judged (fitted_marked c.fit_copied-answer.ensures) c.clear.ensures
