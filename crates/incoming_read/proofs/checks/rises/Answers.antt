-- `incoming_read::checks::rises` meets its contract: the numbers before i rise. Assumes nothing.
use Rattle.std.proofs.Common.{◌-◌, arith}
use Rattle.columns.proofs.Numbers.{numbers_long, numbers-at}
use Rattle.incoming_read.proofs.Passes.{rising_start, rising_more, rising_falls, rising_end}
use Rattle.incoming_read.proofs.checks.rises.Goals as goal

pub loop-i-init : goal.loop-i-init
loop-i-init g c = rising_start _

pub returns-then-wide : goal.returns-then-wide
returns-then-wide g c =
    let is = g.met.T.Number.mapped c.args.xs.now in
    let long = numbers_long _ _ is in
    let own = numbers-at _ _ is c.loop-i.i _ (omega arith) c.index-xs-i.is in
    let before = numbers-at _ _ is (c.loop-i.i - 1) _ (omega arith) c.index-xs-i-in-loop-i.is in
    rising_falls _ c.loop-i.invariant (omega arith) (omega arith)

pub loop-i-preserved : goal.loop-i-preserved
loop-i-preserved g c =
    let is = g.met.T.Number.mapped c.args.xs.now in
    let long = numbers_long _ _ is in
    let own = numbers-at _ _ is c.loop-i.i _ (omega arith) c.index-xs-i.is in
    let before = numbers-at _ _ is (c.loop-i.i - 1) _ (omega arith) c.index-xs-i-in-loop-i.is in
    rising_more _ c.loop-i.invariant (omega arith)

pub returns : goal.returns
returns g c = let long = numbers_long _ _ (g.met.T.Number.mapped c.args.xs.now) in rising_end _ c.loop-i.invariant (omega arith)
