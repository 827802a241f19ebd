-- `check_input::fit_copied` meets its contract: all checks, then the marks kept or cleared. Assumes nothing.
use Rattle.columns.proofs.Written.{zeroed_length, zeroed_own}
use Rattle.check_input.proofs.Join.{settled}
use Rattle.check_input.proofs.fit_copied.Goals as goal

pub count_copied-answer-requires : goal.count_copied-answer-requires
count_copied-answer-requires c = zeroed_own c.args.working.now c.zero.ensures

pub returns : goal.returns
returns c = settled c.count_copied-answer.ensures (zeroed_length c.args.working.now c.zero.ensures) c.count_copied-answer.auto.working c.is_ok.ensures.value c.settle.ensures
