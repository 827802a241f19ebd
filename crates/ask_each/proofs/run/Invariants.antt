-- `ask_each::run` meets its contract: the answers below i stand in the columns, and behind them the spans of the others. Assumes nothing.
use Rattle.ask_span.specs.Graph.{strong_in}
use Rattle.ask_each.specs.Listed.{Onward}
use Rattle.ask_each.proofs.run.Given as goal

abbrev pub invariant-loop-i : goal.invariant-loop-i
invariant-loop-i l = Onward (strong_in l.graph) l.label l.objects l.from l.initial.own_targets l.initial.found l.own_targets l.found l.i
