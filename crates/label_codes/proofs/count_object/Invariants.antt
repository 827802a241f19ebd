-- `label_codes::count_object` meets its contract: rows is the number of escapes among the codes of the first i labels. Assumes nothing.
use mathlib.Core.Path.{◌≡◌}
use Prim.Native.Nat.{◌≤◌}
use Rattle.columns.specs.Lists.{tab}
use Rattle.rules.specs.Labels.{expected}
use Rattle.labels.specs.Coding.{code_in, escapes_in}
use Rattle.label_codes.proofs.count_object.Given as goal

abbrev pub invariant-loop-label : goal.invariant-loop-label
invariant-loop-label l = (l.next ≡ expected l.labels l.label-index) × (l.rows ≤ l.label-index) × (l.rows ≡ escapes_in (tab (code_in l.names l.table l.labels) l.label-index))
