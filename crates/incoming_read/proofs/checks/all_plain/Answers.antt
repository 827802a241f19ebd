-- `incoming_read::checks::all_plain` meets its contract: whether a code so far is not plain. Assumes nothing.
use Rattle.std.proofs.Common.{refl}
use Rattle.incoming_read.proofs.Passes.{met_start, met_more, plain_end}
use Rattle.incoming_read.proofs.checks.all_plain.Goals as goal

pub loop-code-init : goal.loop-code-init
loop-code-init c = met_start _ _

pub loop-code-preserved : goal.loop-code-preserved
loop-code-preserved c = met_more _ _ c.loop-code.invariant c.loop-code-test.true c.still_odd-odd.ensures

pub returns : goal.returns
returns c = plain_end _ _ c.loop-code.invariant c.loop-code-test.false refl
