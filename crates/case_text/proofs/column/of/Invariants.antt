use Rattle.std.proofs.Common.{length, ◌-◌}
use Rattle.case_text.proofs.column.of.Given as goal

abbrev pub decreases-loop-i : goal.decreases-loop-i
decreases-loop-i g l = length l.xs - l.i
