-- `columns::bisect` meets its contract: the bisection that is left ends where the whole one does. Assumes nothing.
use Rattle.columns.specs.Ranks.{bisect}
use Rattle.columns.proofs.Ranks.{Bisecting}
use Rattle.columns.proofs.bisect.Given as goal

abbrev pub invariant-loop-n : goal.invariant-loop-n
invariant-loop-n g l = Bisecting (g.T.Number.numbers l.xs) l.x l.lo l.n (bisect (g.T.Number.numbers l.xs) l.x)

abbrev pub decreases-loop-n : goal.decreases-loop-n
decreases-loop-n g l = l.n
