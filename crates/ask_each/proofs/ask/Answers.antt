-- `ask_each::ask` meets its contract: the answers below i stand in the columns, and behind them the spans of the others. Assumes nothing.
use mathlib.Core.Path.{sym, ◌∙◌}
use native.Mathlib.Omega.{arith}
use Rattle.ask_span.specs.Graph.{strong_in}
use Rattle.ask_each.proofs.Answers.{asking_start, onward_on, onward-row, onward-kept, onward_refused, onward-end}
use Rattle.ask_each.proofs.ask.Goals as goal

pub loop-i-init : goal.loop-i-init
loop-i-init c = asking_start _ _ _ c.requires.told

pub run-at-requires : goal.run-at-requires
run-at-requires c = let h = c.loop-i.invariant in
    let p = c.requires in record { objects_in_bounds = (omega (arith, h.same_targets, p.objects_in_bounds.0), omega (arith, h.same_found, p.objects_in_bounds.1)); sole = p.sole; fact = h.asking }

pub offset_bounds-objects-at : goal.offset_bounds-objects-at
offset_bounds-objects-at c = omega (arith, c.if-at-objects.true, c.well_formed)

pub overflow_cast-object : goal.overflow_cast-object
overflow_cast-object c = omega (arith, c.shared_slice_known-then-at-objects-1.given c.run-at.result)

pub row-done-requires : goal.row-done-requires
row-done-requires c = let at = c.if-at-objects.true in
    let r = c.run-at.ensures in
    let h = c.loop-i.invariant in
    let p = c.requires.objects_in_bounds in
    (omega (arith, at, r.same_targets, h.same_targets, p.0), omega (arith, at, r.same_found, h.same_found, p.1))

pub overflow_add-i : goal.overflow_add-i
overflow_add-i c = omega (arith, c.if-at-objects.true, c.well_formed)

pub loop-i-smaller-then-done : goal.loop-i-smaller-then-done
loop-i-smaller-then-done c = let r = c.run-at.ensures in
    omega (arith, c.if-at-objects.true, r.rises, c.loop-i-test.true)

pub loop-i-preserved-then-done : goal.loop-i-preserved-then-done
loop-i-preserved-then-done c =
    let graph = strong_in c.args.graph in
    let on = onward_on graph c.args.label c.args.objects.now c.loop-i.invariant c.run-at.ensures in
    onward-row graph c.args.label c.args.objects.now on c.row-done.ensures c.if-done.true (sym c.field-answer.ensures) c.if-at-objects.true c.requires.objects_in_bounds.0 c.requires.objects_in_bounds.1

pub returns-else-done : goal.returns-else-done
returns-else-done c =
    let graph = strong_in c.args.graph in
    let r = c.row-done.ensures in
    let on = onward_on graph c.args.label c.args.objects.now c.loop-i.invariant c.run-at.ensures in
    let stays = onward-kept graph c.args.label c.args.objects.now on r c.if-done.false in
    onward_refused graph c.args.label c.args.objects.now stays (sym c.field-answer.ensures) (sym r.answer ∙ c.if-done.false) c.refusal.ensures c.if-at-objects.true

pub loop-i-smaller : goal.loop-i-smaller
loop-i-smaller c = omega (arith, c.if-at-objects.false, c.loop-i-test.true)

pub loop-i-preserved : goal.loop-i-preserved
loop-i-preserved c = onward_on _ _ _ c.loop-i.invariant c.run-at.ensures

pub returns : goal.returns
returns c =
    let graph = strong_in c.args.graph in
    onward-end graph c.args.label c.args.objects.now c.loop-i.invariant c.loop-i-test.false c.requires.objects_in_bounds.0 c.requires.objects_in_bounds.1
