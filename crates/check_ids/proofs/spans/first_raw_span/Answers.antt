-- `check_ids::spans::first_raw_span` meets its contract: no object before o has a body at fault. Assumes nothing.
use mathlib.Core.Path.{sym, ◌∙◌}
use Rattle.columns.proofs.First.{searching_start, searching_more, searching_hit}
use Rattle.check_tables.proofs.Laws.{searching_over}
use Rattle.check_ids.proofs.Parted.{raw-span_fault}
use Rattle.check_ids.proofs.spans.first_raw_span.Goals as goal

pub loop-o-init : goal.loop-o-init
loop-o-init c = searching_start _ _

pub returns-then-raw_fault : goal.returns-then-raw_fault
returns-then-raw_fault c = let a = c.args in
    searching_hit _ _ c.loop-o.invariant c.loop-o-test.true (raw-span_fault a.kinds.now a.lengths.now a.starts.now a.bodies.now a.bytes.now a.size
    c.loop-o.o ∙ sym c.raw_fault.ensures ∙ c.if-raw_fault.true)

pub loop-o-preserved : goal.loop-o-preserved
loop-o-preserved c = let a = c.args in
    searching_more _ _ c.loop-o.invariant c.loop-o-test.true (raw-span_fault a.kinds.now a.lengths.now a.starts.now a.bodies.now a.bytes.now a.size
    c.loop-o.o ∙ sym c.raw_fault.ensures ∙ c.if-raw_fault.false)

pub returns : goal.returns
returns c = searching_over c.loop-o.invariant c.loop-o-test.false
