-- `columns::bisect` meets its contract: the bisection that is left ends where the whole one does. Assumes nothing.
use Rattle.std.proofs.Common.{◌<◌, length, sym, ◌∙◌, arith, rules}
use Rattle.columns.proofs.Numbers.{numbers_long, numbers-at}
use Rattle.columns.proofs.Ranks.{bisecting_start, bisecting_on, bisecting_three, bisecting_twelve, bisect-empty, behind-below, behind_above}
use Rattle.columns.proofs.bisect.Goals as goal

pub returns-then-n-eq0 : goal.returns-then-n-eq0
returns-then-n-eq0 g c = sym (bisect-empty (g.T.Number.numbers c.args.xs.now) c.args.x (omega (arith, numbers_long _ _ (g.met.T.Number.mapped c.args.xs.now))))

pub loop-n-init : goal.loop-n-init
loop-n-init g c = let s = numbers_long _ _ (g.met.T.Number.mapped c.args.xs.now) in
    rw s at (bisecting_start (g.T.Number.numbers c.args.xs.now) c.args.x (omega (arith, s)))

pub front-lo-requires : goal.front-lo-requires
front-lo-requires g c = let b = c.loop-n.invariant in omega (arith, b.not_none, b.within)

pub loop-n-smaller : goal.loop-n-smaller
loop-n-smaller g c = omega arith

pub loop-n-preserved : goal.loop-n-preserved
loop-n-preserved g c = rw c.front-lo.ensures (bisecting_on c.loop-n.invariant)

pub three-a-requires : goal.three-a-requires
three-a-requires g c = let b = c.loop-n.invariant in (b.not_none, b.within)

pub three-b-requires : goal.three-b-requires
three-b-requires g c = let b = bisecting_three c.loop-n.invariant _ c.three-a.ensures in (b.not_none, b.within)

pub three-c-requires : goal.three-c-requires
three-c-requires g c = let b = bisecting_three (bisecting_three c.loop-n.invariant _ c.three-a.ensures) _ c.three-b.ensures in
    (b.not_none, b.within)

pub three-p-requires : goal.three-p-requires
three-p-requires g c =
    let b = bisecting_three (bisecting_three (bisecting_three c.loop-n.invariant _ c.three-a.ensures) _ c.three-b.ensures) _ c.three-c.ensures in
    (b.not_none, b.within)

pub bounds-xs-p : goal.bounds-xs-p
bounds-xs-p g c = let d = bisecting_twelve c.loop-n.invariant (omega arith) _ _ _ _ c.three-a.ensures c.three-b.ensures c.three-c.ensures c.three-p.ensures in
    rw (← numbers_long _ _ (g.met.T.Number.mapped c.args.xs.now)) d.0

pub offset_bounds-xs-p : goal.offset_bounds-xs-p
offset_bounds-xs-p g c = let d = bisecting_twelve c.loop-n.invariant (omega arith) _ _ _ _ c.three-a.ensures c.three-b.ensures c.three-c.ensures c.three-p.ensures in
    let l : c.three-p.result < length c.args.xs.now = rw (← numbers_long _ _ (g.met.T.Number.mapped c.args.xs.now)) d.0 in
    search rules

pub overflow_add-result : goal.overflow_add-result
overflow_add-result g c = let d = bisecting_twelve c.loop-n.invariant (omega arith) _ _ _ _ c.three-a.ensures c.three-b.ensures c.three-c.ensures c.three-p.ensures in
    let l : c.three-p.result < length c.args.xs.now = rw (← numbers_long _ _ (g.met.T.Number.mapped c.args.xs.now)) d.0 in
    search rules

pub returns-then-wide-x : goal.returns-then-wide-x
returns-then-wide-x g c = let d = bisecting_twelve c.loop-n.invariant (omega arith) _ _ _ _ c.three-a.ensures c.three-b.ensures c.three-c.ensures c.three-p.ensures in
    let r = numbers-at _ _ (g.met.T.Number.mapped c.args.xs.now) _ _ d.0 c.index-xs-p.is in
    sym (behind-below _ c.args.x _ (omega (arith, r))) ∙ d.1

pub returns-else-wide-x : goal.returns-else-wide-x
returns-else-wide-x g c = let d = bisecting_twelve c.loop-n.invariant (omega arith) _ _ _ _ c.three-a.ensures c.three-b.ensures c.three-c.ensures c.three-p.ensures in
    let r = numbers-at _ _ (g.met.T.Number.mapped c.args.xs.now) _ _ d.0 c.index-xs-p.is in
    sym (behind_above _ c.args.x _ (omega (arith, r))) ∙ d.1
