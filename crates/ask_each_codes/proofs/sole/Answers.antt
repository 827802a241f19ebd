-- `ask_each_codes::sole` meets its contract: `code` alone says the label below v. Assumes nothing.
use Rattle.std.proofs.Common.{◌-◌, arith}
use Rattle.ask_each_codes.proofs.Walk.{sole_none, sole_other, sole_hit, sole_end}
use Rattle.ask_each_codes.proofs.sole.Goals.{then-l-label+else-code-lt65536, else-l-label}
use Rattle.ask_each_codes.proofs.sole.Goals as goal

pub returns-then-asked-fields : goal.returns-then-asked-fields
returns-then-asked-fields c = sole_none _ _

pub loop-v-init : goal.loop-v-init
loop-v-init c = (omega arith, sole_none _ _)

pub bounds-fields-v : goal.bounds-fields-v
bounds-fields-v c = omega (arith, c.plain_codes-most.ensures.0, c.loop-v-test.true)

pub returns-then-l-ge-ARRAY_ELEMENT : goal.returns-then-l-ge-ARRAY_ELEMENT
returns-then-l-ge-ARRAY_ELEMENT c = sole_none _ _

pub returns-then-code-lt65536 : goal.returns-then-code-lt65536
returns-then-code-lt65536 c = sole_none _ _

pub loop-v-preserved : goal.loop-v-preserved
loop-v-preserved c = let m = c.plain_codes-most.ensures in (
  omega (arith, c.loop-v-test.true),
  elim c.if-l-label.branch [
    | then-l-label+else-code-lt65536 w ↦ rw w.code-is (sole_hit c.loop-v.invariant.1 (omega (arith, m.0, c.loop-v-test.true)) (omega (arith, m.1, c.loop-v-test.true)) c.if-l-ge-ARRAY_ELEMENT.false w.if-code-lt65536.false w.if-l-label.true)
    | else-l-label w ↦ rw w.code-is (sole_other c.loop-v.invariant.1 (omega (arith, m.0, c.loop-v-test.true)) (omega (arith, m.1, c.loop-v-test.true)) c.if-l-ge-ARRAY_ELEMENT.false w.if-l-label.false)
  ],
)

pub returns : goal.returns
returns c = sole_end c.loop-v.invariant.1 c.loop-v.invariant.0 c.loop-v-test.false
