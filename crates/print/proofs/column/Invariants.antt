use Rattle.print.proofs.Printed.{Writing}
use Rattle.print.proofs.column.Given as goal

abbrev pub invariant-loop-x : goal.invariant-loop-x
invariant-loop-x g l = Writing l.text (g.T.Number.numbers l.xs) l.bytes l.x-index
