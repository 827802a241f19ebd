-- `ask_each_codes::sole` meets its contract: `code` alone says the label below v. Assumes nothing.
use Rattle.std.proofs.Common.{◌≤◌}
use Rattle.ask_each_codes.specs.Codes.{Sole}
use Rattle.ask_each_codes.proofs.sole.Given as goal

abbrev pub invariant-loop-v : goal.invariant-loop-v
invariant-loop-v l = (l.v ≤ l.most) × Sole l.fields l.label l.code l.v
