-- `need_escapes::count_capped` meets its contract: the first i labels are counted. Assumes nothing.
use mathlib.Core.Path.{◌≡◌}
use lib.ListN.{take}
use Rattle.need_escapes.specs.Uncoded.{capped}
use Rattle.need_escapes.proofs.count_capped.Given as goal

abbrev pub invariant-loop-label : goal.invariant-loop-label
invariant-loop-label l = l.table ≡ capped l.names l.initial.table (take l.label-index l.labels)
