-- `ask_late::exact` meets its contract: a field's and an escaped element's label by the code alone, another element's by going back. Assumes nothing.
use mathlib.Core.Path.{sym, ap, ◌∙◌}
use Prim.Native.Nat.{ℕ, ◌+◌, ◌≤◌, ◌<◌}
use native.Mathlib.Omega.{arith}
use Rattle.columns.specs.Lists.{◌!◌}
use Rattle.labels.specs.Reading.{coded_in}
use Rattle.ask_late.specs.Late.{late_next, steps_of, after_steps}
use Rattle.ask_late.proofs.Steps.{steps_small, late_element, late_other}
use Rattle.ask_late.proofs.exact.Goals as goal

pub back_by_blocks-requires : goal.back_by_blocks-requires
back_by_blocks-requires c = let a = c.args in
    let code = a.coded.codes.now ! (a.start + a.k) in
    let few : steps_of code < 67108864 = omega (arith, c.steps_of-steps.ensures.0) in
    omega (arith, c.steps_of-steps.ensures.0, (steps_small code few).0, (steps_small code few).2)

pub returns-then-steps-lt-OTHER : goal.returns-then-steps-lt-OTHER
returns-then-steps-lt-OTHER c = let a = c.args in
    let d = coded_in a.coded in
    let few : steps_of (a.coded.codes.now ! (a.start + a.k)) < 67108864 = omega (arith, c.steps_of-steps.ensures.0) in
    c.back_by_blocks.ensures ∙ ap (λ (s : ℕ). after_steps s (late_next d a.start a.k)) c.steps_of-steps.ensures.0 ∙ sym (late_element d a.start a.k few)

pub returns : goal.returns
returns c = let a = c.args in
    let d = coded_in a.coded in
    let other : 67108864 ≤ steps_of (a.coded.codes.now ! (a.start + a.k)) = omega (arith, c.steps_of-steps.ensures.0) in
    c.alone.ensures ∙ sym (late_other d a.start a.k other (omega arith))
