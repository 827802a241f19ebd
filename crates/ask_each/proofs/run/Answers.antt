-- `ask_each::run` meets its contract: the answers below i stand in the columns, and behind them the spans of the others. Assumes nothing.
use lib.ListN.{length}
use mathlib.Core.Path.{◌≡◌, refl, sym, ◌∙◌}
use native.Mathlib.Omega.{arith}
use Rattle.ask_span.specs.Graph.{strong_in}
use Rattle.ask_each.proofs.Single.{quick_whole}
use Rattle.ask_each.proofs.Answers.{onward_start, onward-row, onward-kept}
use Rattle.ask_each.proofs.run.Goals as goal

pub loop-i-init : goal.loop-i-init
loop-i-init c = onward_start _ _ _ c.requires.fact

pub overflow_cast-start : goal.overflow_cast-start
overflow_cast-start c = omega (arith, c.slice_known-in-loop-i-1.given c.loop-i.i)

pub overflow_cast-count : goal.overflow_cast-count
overflow_cast-count c = omega (arith, c.slice_known-in-loop-i-2-1.given c.loop-i.i)

pub overflow_cast-object : goal.overflow_cast-object
overflow_cast-object c = omega (arith, c.shared_slice_known-in-loop-i-1.given c.loop-i.i)

pub by_codes-answer-requires : goal.by_codes-answer-requires
by_codes-answer-requires c = record { sole = c.requires.sole; few_told = c.loop-i.invariant.asking.spans.told c.loop-i.i (omega arith) c.loop-i-test.true }

pub row-done-requires : goal.row-done-requires
row-done-requires c = let p = c.requires.objects_in_bounds in
    (omega (arith, c.loop-i-test.true, c.loop-i.invariant.same_targets, p.0), omega (arith, c.loop-i-test.true, c.loop-i.invariant.same_found, p.1))

pub loop-i-preserved : goal.loop-i-preserved
loop-i-preserved c =
    let graph = strong_in c.args.graph in
    let r = c.row-done.ensures in
    let is = quick_whole graph _ c.args.label refl c.by_codes-answer.ensures (sym r.answer ∙ c.if-not-done.false) in
    onward-row graph c.args.label c.args.objects.now c.loop-i.invariant r c.if-not-done.false (sym is) c.loop-i-test.true c.requires.objects_in_bounds.0 c.requires.objects_in_bounds.1

pub returns-then-not-done : goal.returns-then-not-done
returns-then-not-done c = onward-kept _ _ _ c.loop-i.invariant c.row-done.ensures c.if-not-done.true

pub returns : goal.returns
returns c = let e : c.loop-i.i ≡ length c.args.objects.now = omega (arith, c.loop-i.invariant.asking.within) in
    rw e at c.loop-i.invariant
