-- `store::code::write_short` meets its contract: the first i short numbers are written. Assumes nothing.
use Rattle.store.specs.Blocked.{short_to}
use Rattle.columns.proofs.Written.{Written}
use Rattle.store.proofs.code.write_short.Given as goal

abbrev pub invariant-loop-i : goal.invariant-loop-i
invariant-loop-i l = Written (short_to l.values l.i) l.initial.short l.short l.i
