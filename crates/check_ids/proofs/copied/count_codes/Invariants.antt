-- `check_ids::copied::count_codes` meets its contract: the counts so far are those of the codes before this one. Assumes nothing.
use mathlib.Core.Bool.{not}
use lib.Dec.{eqb}
use Rattle.columns.specs.Lists.{◌!◌}
use Rattle.index.specs.Copied.{escaped_code}
use Rattle.check_ids.proofs.Clean.{Counted}
use Rattle.check_ids.proofs.copied.count_codes.Given as goal

abbrev pub invariant-loop-code : goal.invariant-loop-code
invariant-loop-code l =
    Counted (λ k. not (eqb (l.codes ! k) 0)) l.code-index l.held
    × Counted (λ k. eqb (l.codes ! k) escaped_code) l.code-index l.escaped
