-- `label_ranks::write_ranked` meets its contract: the labels of the first i keys are written. Assumes nothing.
use Rattle.columns.proofs.Written.{Written}
use Rattle.label_ranks.specs.Keys.{key_labels}
use Rattle.label_ranks.proofs.write_ranked.Given as goal

abbrev pub invariant-loop-i : goal.invariant-loop-i
invariant-loop-i l = Written (key_labels l.ranking l.i) l.initial.fields l.fields l.i
