-- `ask_edge::first_to` meets its contract: no edge before k goes to the target. Assumes nothing.
use Rattle.columns.proofs.First.{Searching}
use Rattle.ask_edge.specs.Edge.{goes_to}
use Rattle.ask_edge.proofs.first_to.Given as goal

abbrev pub invariant-loop-k : goal.invariant-loop-k
invariant-loop-k l = Searching (goes_to l.targets l.start l.target) l.count l.k
