-- `check_ids::spans::first_copied_span` meets its contract: no object before o has a part past the codes. Assumes nothing.
use mathlib.Core.Path.{◌∙◌}
use Rattle.columns.proofs.First.{searching_start, searching_more, searching_hit}
use Rattle.check_tables.proofs.Laws.{searching_over}
use Rattle.check_ids.proofs.Parted.{copied_here}
use Rattle.check_ids.proofs.spans.first_copied_span.Goals as goal

pub loop-o-init : goal.loop-o-init
loop-o-init c = searching_start _ _

pub returns-then-copied_fault : goal.returns-then-copied_fault
returns-then-copied_fault c = let a = c.args in
    searching_hit _ _ c.loop-o.invariant c.loop-o-test.true (copied_here a.kinds.now a.classes.now a.lengths.now a.slot_starts.now a.slot_ends.now a.codes.now a.starts.now
    c.loop-o.o c.part_of-part.ensures c.copied_fault.ensures ∙ c.if-copied_fault.true)

pub loop-o-preserved : goal.loop-o-preserved
loop-o-preserved c = let a = c.args in
    searching_more _ _ c.loop-o.invariant c.loop-o-test.true (copied_here a.kinds.now a.classes.now a.lengths.now a.slot_starts.now a.slot_ends.now a.codes.now a.starts.now
    c.loop-o.o c.part_of-part.ensures c.copied_fault.ensures ∙ c.if-copied_fault.false)

pub returns : goal.returns
returns c = searching_over c.loop-o.invariant c.loop-o-test.false
