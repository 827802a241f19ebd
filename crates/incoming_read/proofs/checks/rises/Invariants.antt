-- `incoming_read::checks::rises` meets its contract: the numbers before i rise. Assumes nothing.
use Rattle.incoming_read.proofs.Passes.{Rising}
use Rattle.incoming_read.proofs.checks.rises.Given as goal

abbrev pub invariant-loop-i : goal.invariant-loop-i
invariant-loop-i g l = Rising (g.T.Number.numbers l.xs) l.i
