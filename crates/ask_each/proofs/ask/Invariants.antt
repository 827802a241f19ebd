-- `ask_each::ask` meets its contract: the answers below i stand in the columns, and behind them the spans of the others. Assumes nothing.
use Prim.Native.Nat.{◌-◌}
use lib.ListN.{length}
use Rattle.ask_span.specs.Graph.{strong_in}
use Rattle.ask_each.specs.Listed.{Onward}
use Rattle.ask_each.proofs.ask.Given as goal

abbrev pub invariant-loop-i : goal.invariant-loop-i
invariant-loop-i l = Onward (strong_in l.graph) l.label l.objects 0 l.initial.own_targets l.initial.found l.own_targets l.found l.i

abbrev pub decreases-loop-i : goal.decreases-loop-i
decreases-loop-i l = length l.objects - l.i
