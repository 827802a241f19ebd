-- `ask_each_spans::spans` meets its contract: the spans below i are told, and one that leaves a doubt is left out. Assumes nothing.
use Rattle.ask_short.specs.Lean.{short_of}
use Rattle.ask_each_spans.specs.Told.{Telling}
use Rattle.ask_each_spans.proofs.spans.Given as goal

abbrev pub invariant-loop-i : goal.invariant-loop-i
invariant-loop-i l = Telling (short_of l.bases l.short) l.limit l.limit l.objects 0 l.initial.own_targets l.initial.found l.own_targets l.found l.i
