-- `ask_each_codes::first_code` meets its contract: each code before k says a field with another label, or an element. Assumes nothing.
use Rattle.std.proofs.Common.{◌+◌, ◌-◌, refl, arith}
use Rattle.columns.proofs.First.{searching_start}
use Rattle.ask_field.proofs.Placed.{decoded-end}
use Rattle.ask_each_codes.proofs.Walk.{code-hit, code-passed}
use Rattle.ask_each_codes.proofs.first_code.Goals as goal

pub overflow_add-odd : goal.overflow_add-odd
overflow_add-odd c = omega (arith, c.requires.sole.few)

pub loop-k-init : goal.loop-k-init
loop-k-init c = searching_start _ _

pub overflow_cast-code : goal.overflow_cast-code
overflow_cast-code c = omega (arith, c.shared_slice_known-in-loop-k-1.given (c.args.start + c.loop-k.k))

pub returns-then-code-asked : goal.returns-then-code-asked
returns-then-code-asked c = let a = c.args in
    λ q. code-hit a.edge_codes.now a.fields.now a.label _ _ c.requires.sole a.start a.count c.loop-k.invariant c.loop-k-test.true (omega (arith, c.shared_slice_known-in-loop-k-1.given (a.start + c.loop-k.k))) c.if-code-asked.true

pub returns-then-odd-wrapping_add_u16 : goal.returns-then-odd-wrapping_add_u16
returns-then-odd-wrapping_add_u16 c = λ q. absurd (q refl)

pub loop-k-preserved : goal.loop-k-preserved
loop-k-preserved c = let a = c.args in
    code-passed a.edge_codes.now a.fields.now a.label _ _ c.requires.sole a.start a.count c.loop-k.invariant c.loop-k-test.true (omega (arith, c.shared_slice_known-in-loop-k-1.given (a.start + c.loop-k.k)))
    c.if-code-asked.false (omega (arith, c.wrapping_add_u16.ensures, c.if-odd-wrapping_add_u16.false)) c.requires.count_in_bounds.1

pub returns : goal.returns
returns c = λ q. decoded-end _ _ _ _ c.loop-k.invariant c.loop-k-test.false
