-- `label_codes::code_objects` meets its contract: the codes of the first o objects are written, up to where the next one's begin. Assumes nothing.
use Rattle.columns.specs.Lists.{◌!◌}
use Rattle.columns.proofs.Written.{Written}
use Rattle.labels.specs.Coding.{all_by}
use Rattle.label_codes.proofs.code_objects.Given as goal

abbrev pub invariant-loop-o : goal.invariant-loop-o
invariant-loop-o l = Written (all_by l.names l.table l.offsets l.labels l.o) l.initial.edge_codes l.edge_codes (l.offsets ! l.o)
