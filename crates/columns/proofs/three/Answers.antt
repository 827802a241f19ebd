-- `columns::three` meets its contract: the middle number says which way on is the one. Assumes nothing.
use Rattle.std.proofs.Common.{arith, sym}
use Rattle.columns.proofs.Numbers.{numbers-at}
use Rattle.columns.proofs.Ranks.{middle_in, halve-one, halve_below, halve_above}
use Rattle.columns.proofs.three.Goals as goal

pub returns-then-n-eq1 : goal.returns-then-n-eq1
returns-then-n-eq1 g c = let a = c.args in sym (halve-one 3 (g.T.Number.numbers a.xs.now) a.x a.lo a.n (omega arith))

pub returns-then-wide-x : goal.returns-then-wide-x
returns-then-wide-x g c = let a = c.args in
    let m = middle_in _ a.x a.lo a.n c.requires in
    let r = numbers-at _ _ (g.met.T.Number.mapped a.xs.now) _ _ m c.index-xs-middle.is in
    halve_below 2 _ a.x a.lo a.n _ (omega (arith, r)) c.two-above.ensures

pub returns-else-wide-x : goal.returns-else-wide-x
returns-else-wide-x g c = let a = c.args in
    let m = middle_in _ a.x a.lo a.n c.requires in
    let r = numbers-at _ _ (g.met.T.Number.mapped a.xs.now) _ _ m c.index-xs-middle.is in
    halve_above 2 _ a.x a.lo a.n _ (omega (arith, r)) c.two-below.ensures
