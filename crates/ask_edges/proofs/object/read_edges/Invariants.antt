-- `ask_edges::object::read_edges` meets its contract: k edges are read, those that have room are written, and `next` is what is expected behind them. Assumes nothing.
use Prim.Native.Nat.{ℕ}
use mathlib.Core.List.{List}
use Rattle.rules.specs.Labels.{Coded}
use Rattle.ask_edges.specs.Object.{ReadsEdges}
use Rattle.ask_edges.proofs.Reading.{Reading}
use Rattle.ask_edges.proofs.object.read_edges.Given as goal

abbrev pub invariant-loop-k : goal.invariant-loop-k
invariant-loop-k g l = (objects : ℕ) (ts : List ℕ) (d : Coded) (e : ℕ) → ReadsEdges (goal.R-post g l.read) objects ts d e l.count
    → Reading objects ts d e l.count l.room l.initial.own_targets l.initial.own_labels l.next l.k l.own_targets l.own_labels
