-- `columns::front` meets its contract: the middle number says which half is left. Assumes nothing.
use Rattle.std.proofs.Common.{arith, sym}
use Rattle.columns.proofs.Numbers.{numbers_long, numbers-at}
use Rattle.columns.proofs.Ranks.{front_below, front_above}
use Rattle.columns.proofs.front.Goals as goal

pub bounds-xs-middle : goal.bounds-xs-middle
bounds-xs-middle g c = omega (arith, numbers_long _ _ (g.met.T.Number.mapped c.args.xs.now))

pub returns-then-wide-x : goal.returns-then-wide-x
returns-then-wide-x g c = let a = c.args in
    let r = numbers-at _ _ (g.met.T.Number.mapped a.xs.now) _ _ c.requires c.index-xs-middle.is in
    sym (front_below _ a.x a.lo a.n (omega (arith, r)))

pub returns-else-wide-x : goal.returns-else-wide-x
returns-else-wide-x g c = let a = c.args in
    let r = numbers-at _ _ (g.met.T.Number.mapped a.xs.now) _ _ c.requires c.index-xs-middle.is in
    sym (front_above _ a.x a.lo a.n (omega (arith, r)))
