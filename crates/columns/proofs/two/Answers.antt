-- `columns::two` meets its contract: the middle number says which way on is the one. Assumes nothing.
use Rattle.std.proofs.Common.{arith}
use Rattle.columns.specs.Ranks.{halve}
use Rattle.columns.proofs.Numbers.{numbers-at}
use Rattle.columns.proofs.Ranks.{middle_in, halve_below, halve_above}
use Rattle.columns.proofs.two.Goals as goal

pub returns-then-wide-x : goal.returns-then-wide-x
unfolding halve
returns-then-wide-x g c = let a = c.args in
    let m = middle_in _ a.x a.lo a.n c.requires in
    let r = numbers-at _ _ (g.met.T.Number.mapped a.xs.now) _ _ m c.index-xs-middle.is in
    halve_below 1 _ a.x a.lo a.n _ (omega (arith, r)) c.front-above.ensures

pub returns-else-wide-x : goal.returns-else-wide-x
unfolding halve
returns-else-wide-x g c = let a = c.args in
    let m = middle_in _ a.x a.lo a.n c.requires in
    let r = numbers-at _ _ (g.met.T.Number.mapped a.xs.now) _ _ m c.index-xs-middle.is in
    halve_above 1 _ a.x a.lo a.n _ (omega (arith, r)) c.front-below.ensures
