-- `check_input::check_raw` meets its contract: the marks are cleared. Assumes nothing.
use Rattle.check_input.proofs.Theorems.{marked_judged}
use Rattle.check_input.proofs.check_raw.Goals as goal

pub returns : goal.returns
returns c = marked_judged c.fit_raw-answer.ensures c.clear.ensures
