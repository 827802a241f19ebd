use Rattle.std.proofs.Common.{◌≤◌}
use Rattle.show_cases.proofs.hand.count_read.Given as goal

abbrev pub invariant-loop-e : goal.invariant-loop-e
invariant-loop-e l = l.same ≤ l.e-counter
