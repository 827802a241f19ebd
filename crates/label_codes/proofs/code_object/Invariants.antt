-- `label_codes::code_object` meets its contract: the codes of the first i labels are written, and next is what is expected behind them. Assumes nothing.
use mathlib.Core.Path.{◌≡◌}
use Rattle.columns.specs.Lists.{tab}
use Rattle.columns.proofs.Written.{Written}
use Rattle.rules.specs.Labels.{expected}
use Rattle.labels.specs.Coding.{code_in}
use Rattle.label_codes.proofs.code_object.Given as goal

abbrev pub invariant-loop-i : goal.invariant-loop-i
invariant-loop-i l = (l.next ≡ expected l.labels l.i) × Written (tab (code_in l.names l.table l.labels) l.i) l.initial.edge_codes l.edge_codes l.i
