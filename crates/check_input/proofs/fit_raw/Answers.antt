-- `check_input::fit_raw` meets its contract: all checks, then the marks kept or cleared. Assumes nothing.
use Rattle.columns.proofs.Written.{zeroed_length, zeroed_own}
use Rattle.check_input.proofs.Join.{settled}
use Rattle.check_input.proofs.Theorems.{fitted_marked}
use Rattle.check_input.proofs.fit_raw.Goals as goal

pub count_raw-answer-requires : goal.count_raw-answer-requires
count_raw-answer-requires c = zeroed_own c.args.working.now c.zero.ensures

pub returns : goal.returns
returns c = fitted_marked (settled c.count_raw-answer.ensures (zeroed_length c.args.working.now c.zero.ensures) c.count_raw-answer.auto.working c.is_ok.ensures.value c.settle.ensures)
