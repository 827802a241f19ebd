-- `ask_late::back_by_blocks` meets its contract: as `back`, 32 edges at a time. Assumes nothing.
use Rattle.labels.specs.Reading.{coded_in}
use Rattle.ask_late.proofs.Steps.{Back}
use Rattle.ask_late.proofs.back_by_blocks.Given as goal

abbrev pub invariant-loop-left : goal.invariant-loop-left
invariant-loop-left l = Back (coded_in l.coded) l.start l.k l.first l.steps l.left

abbrev pub decreases-loop-left : goal.decreases-loop-left
decreases-loop-left l = l.left
