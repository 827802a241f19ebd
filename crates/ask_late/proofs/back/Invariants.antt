-- `ask_late::back` meets its contract: what is asked at the end of the way is asked, so many steps more behind it, at each edge of it. Assumes nothing.
use Rattle.labels.specs.Reading.{coded_in}
use Rattle.ask_late.proofs.Steps.{Back}
use Rattle.ask_late.proofs.back.Given as goal

abbrev pub invariant-loop-left : goal.invariant-loop-left
invariant-loop-left l = Back (coded_in l.coded) l.start l.k l.first l.steps l.left
