-- `ask_late::back` meets its contract: what is asked at the end of the way is asked, so many steps more behind it, at each edge of it. Assumes nothing.
use mathlib.Core.Path.{sym, ◌∙◌}
use Prim.Native.Nat.{◌+◌, ◌-◌, ◌≤◌, ◌<◌}
use native.Mathlib.Omega.{arith}
use Rattle.std.proofs.lemmas.Result.{err_from_is_err_and}
use Rattle.columns.specs.Lists.{◌!◌}
use Rattle.labels.specs.Reading.{coded_in}
use Rattle.ask_late.specs.Late.{steps_of}
use Rattle.ask_late.proofs.Steps.{back_start, all_passed, element-passed, element_far, field-passed, field-unread, escape_met}
use Rattle.ask_late.proofs.back.Goals as goal

pub loop-left-init : goal.loop-left-init
loop-left-init c = back_start _ _ _ _ c.requires.1.0 c.requires.1.1

pub overflow_add-steps : goal.overflow_add-steps
overflow_add-steps c = omega (arith, c.loop-left.invariant.high)

pub returns-then-steps-gt-ARRAY_ELEMENT : goal.returns-then-steps-gt-ARRAY_ELEMENT
returns-then-steps-gt-ARRAY_ELEMENT c = let a = c.args in
    let d = coded_in a.coded in
    let few : steps_of (a.coded.codes.now ! (a.start + (c.loop-left.left - 1))) < 67108864 = omega (arith, c.steps_of-more.ensures.0) in
    element_far d a.start a.k a.first _ _ c.loop-left.invariant c.loop-left-test.true few (omega (arith, c.steps_of-more.ensures.0))

pub loop-left-preserved-else-steps-gt-ARRAY_ELEMENT : goal.loop-left-preserved-else-steps-gt-ARRAY_ELEMENT
loop-left-preserved-else-steps-gt-ARRAY_ELEMENT c = let a = c.args in
    let d = coded_in a.coded in
    let few : steps_of (a.coded.codes.now ! (a.start + (c.loop-left.left - 1))) < 67108864 = omega (arith, c.steps_of-more.ensures.0) in
    rw c.steps_of-more.ensures.0
    (element-passed d a.start a.k a.first _ _ c.loop-left.invariant c.loop-left-test.true few (omega (arith, c.steps_of-more.ensures.0)))

pub returns-then-code : goal.returns-then-code
returns-then-code c = let a = c.args in
    let d = coded_in a.coded in
    escape_met d a.start a.k a.first _ _ c.loop-left.invariant c.loop-left-test.true c.if-code.true c.behind_escape.ensures

pub loop-left-preserved : goal.loop-left-preserved
loop-left-preserved c = let a = c.args in
    let d = coded_in a.coded in
    let other : 67108864 ≤ steps_of (a.coded.codes.now ! (a.start + (c.loop-left.left - 1))) = omega (arith, c.steps_of-more.ensures.0) in
    field-passed d a.start a.k a.first _ _ c.loop-left.invariant c.loop-left-test.true other (omega arith) c.if-code.false (sym c.in_ok-alone.ensures)

pub returns-in_err-alone : goal.returns-in_err-alone
returns-in_err-alone c = let a = c.args in
    let d = coded_in a.coded in
    let other : 67108864 ≤ steps_of (a.coded.codes.now ! (a.start + (c.loop-left.left - 1))) = omega (arith, c.steps_of-more.ensures.0) in
    let p = err_from_is_err_and c.from_residual.result c.from_residual.ensures.1 in
    rw p.1 (field-unread d a.start a.k a.first _ _ c.loop-left.invariant c.loop-left-test.true other (omega arith) c.if-code.false (sym c.in_err-alone.ensures))

pub returns : goal.returns
returns c = let a = c.args in
    let d = coded_in a.coded in
    c.element.ensures ∙ all_passed d a.start a.k a.first _ _ c.loop-left.invariant c.loop-left-test.false
