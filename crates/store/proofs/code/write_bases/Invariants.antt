-- `store::code::write_bases` meets its contract: the first b bases are written. Assumes nothing.
use Rattle.store.specs.Blocked.{bases_to}
use Rattle.columns.proofs.Written.{Written}
use Rattle.store.proofs.code.write_bases.Given as goal

abbrev pub invariant-loop-b : goal.invariant-loop-b
invariant-loop-b l = Written (bases_to l.values l.b) l.initial.bases l.bases l.b
