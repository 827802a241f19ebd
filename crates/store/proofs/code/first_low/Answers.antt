-- `store::code::first_low` meets its contract: no place before i is low. Assumes nothing.
use borrow.Author.Tests.{lt-ltb, le-ltb}
use Rattle.columns.proofs.First.{searching_start, searching_more, searching_hit}
use Rattle.store.proofs.code.first_low.Goals as goal

pub loop-i-init : goal.loop-i-init
loop-i-init c = searching_start _ _

pub returns-then-v-values : goal.returns-then-v-values
returns-then-v-values c = searching_hit _ _ c.loop-i.invariant c.loop-i-test.true (lt-ltb _ _ c.if-v-values.true)

pub loop-i-preserved : goal.loop-i-preserved
loop-i-preserved c = searching_more _ _ c.loop-i.invariant c.loop-i-test.true (le-ltb _ _ c.if-v-values.false)
