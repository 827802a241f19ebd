-- `from_parts::counted` meets its contract. Case by case. Assumes nothing.
use mathlib.Core.Path.{sym}
use Rattle.std.proofs.lemmas.Result.{err_from_is_err_and}
use Rattle.columns.specs.Columns.{accepts}
use Rattle.from_parts.proofs.Whole.{refused_counted}
use Rattle.from_parts.proofs.counted.Goals as goal

pub returns-in_err-c : goal.returns-in_err-c
returns-in_err-c c = let a = c.args in
    let p = err_from_is_err_and c.from_residual.result c.from_residual.ensures.1 in
    rw (p.1, p.2, c.in_err-c.was) (sym (refused_counted c.in_err-c.field-0.0 a.weak a.roots a.dangling))

pub returns : goal.returns
unfolding accepts
returns c = rw c.in_ok-c.was
