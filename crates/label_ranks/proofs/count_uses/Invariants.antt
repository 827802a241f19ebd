-- `label_ranks::count_uses` meets its contract: the first i labels are counted. Assumes nothing.
use mathlib.Core.Path.{◌≡◌}
use lib.ListN.{take}
use Rattle.label_ranks.specs.Keys.{uses}
use Rattle.label_ranks.proofs.count_uses.Given as goal

abbrev pub invariant-loop-label : goal.invariant-loop-label
invariant-loop-label l = l.counting ≡ uses l.names l.initial.counting (take l.label-index l.labels)
