-- `lookup::find_plain` meets its contract: the first i ids are passed. Assumes nothing.
use native.Mathlib.Omega.{arith}
use Rattle.lookup.proofs.Walk.{passed_none, passed_more, passed_few, passed-at, passed_all}
use Rattle.lookup.proofs.find_plain.Goals as goal

pub loop-i-init : goal.loop-i-init
loop-i-init c = passed_none _ _

pub returns-then-x-id : goal.returns-then-x-id
returns-then-x-id c = passed-at c.loop-i.invariant c.loop-i-test.true c.if-x-id.true

pub overflow_add-below : goal.overflow_add-below
overflow_add-below c = omega (arith, passed_few (passed_more c.loop-i.invariant c.loop-i-test.true c.if-x-id.false c.from-below.ensures))

pub loop-i-preserved : goal.loop-i-preserved
loop-i-preserved c = passed_more c.loop-i.invariant c.loop-i-test.true c.if-x-id.false c.from-below.ensures

pub returns : goal.returns
returns c = passed_all c.loop-i.invariant c.loop-i-test.false
