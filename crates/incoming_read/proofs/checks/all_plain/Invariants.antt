-- `incoming_read::checks::all_plain` meets its contract: whether a code so far is not plain. Assumes nothing.
use Rattle.std.proofs.Common.{length}
use Rattle.incoming_read.proofs.Passes.{Met, odd}
use Rattle.incoming_read.proofs.checks.all_plain.Given as goal

abbrev pub invariant-loop-code : goal.invariant-loop-code
invariant-loop-code l = Met (odd l.limit l.codes) (length l.codes) l.odd l.code-index
