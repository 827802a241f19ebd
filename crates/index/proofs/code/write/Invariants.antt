-- `index::code::write` meets its contract: the codes of the first i ids and the k escapes among them are written. Assumes nothing.
use Rattle.columns.proofs.Written.{Written}
use Rattle.index.specs.Copied.{codes_to, escapes_to, escape_ids_to}
use Rattle.index.proofs.code.write.Given as goal

abbrev pub invariant-loop-i : goal.invariant-loop-i
invariant-loop-i l = Written (codes_to l.base l.ids l.i) l.initial.codes l.codes l.i × Written (escapes_to l.base l.ids l.i) l.initial.escape_places l.escape_places l.k × Written (escape_ids_to l.base l.ids l.i) l.initial.escape_ids l.escape_ids l.k
