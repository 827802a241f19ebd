-- `store::code::write_long` meets its contract: the k rows of the long places below i are written. Assumes nothing.
use Rattle.columns.proofs.Written.{Written}
use Rattle.store.specs.Blocked.{long_at_to, long_value_to}
use Rattle.store.proofs.code.write_long.Given as goal

abbrev pub invariant-loop-i : goal.invariant-loop-i
invariant-loop-i l = Written (long_at_to l.values l.i) l.initial.long_at l.long_at l.k × Written (long_value_to l.values l.i) l.initial.long_value l.long_value l.k
