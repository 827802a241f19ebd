use Rattle.std.proofs.Common.{◌<◌, length, arith, refl, sym, ◌∙◌}
use Rattle.columns.proofs.Numbers.{numbers_long, numbers-at}
use Rattle.print.proofs.Printed.{writing_on}
use Rattle.print.proofs.column.Goals as goal

pub loop-x-preserved : goal.loop-x-preserved
loop-x-preserved g c =
    let mapped = g.met.T.Number.mapped c.args.xs.now in
    let inside : c.loop-x.x-index < length (g.T.Number.numbers c.args.xs.now) = omega (arith, numbers_long _ _ mapped) in
    writing_on _ _ _ _ _ c.loop-x.invariant inside (c.wide.ensures ∙ sym (numbers-at _ _ mapped _ _ inside c.x-item.is)) c.in_ok-bytes-2.ensures refl
