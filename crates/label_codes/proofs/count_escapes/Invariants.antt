-- `label_codes::count_escapes` meets its contract: rows is the number of escapes among the codes of the first o objects. Assumes nothing.
use mathlib.Core.Path.{◌≡◌}
use Rattle.labels.specs.Coding.{all_by, escapes_in}
use Rattle.label_codes.proofs.count_escapes.Given as goal

abbrev pub invariant-loop-o : goal.invariant-loop-o
invariant-loop-o l = (l.rows ≡ escapes_in (all_by l.names l.table l.offsets l.labels l.o))
