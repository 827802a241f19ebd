-- `ask_edges::object::read_edges` meets its contract: k edges are read, those that have room are written, and `next` is what is expected behind them. Assumes nothing.
use mathlib.Core.Path.{◌≡◌}
use native.Mathlib.Omega.{arith}
use Rattle.ask_edges.proofs.Reading.{met, unmet, reading_start, reading_more, reading_past, reading_stops, reading_ends}
use Rattle.ask_edges.proofs.object.read_edges.Goals.{then-k-room, else-k-room}
use Rattle.ask_edges.proofs.object.read_edges.Goals as goal

pub loop-k-init : goal.loop-k-init
loop-k-init g c = λ objects ts d e h. reading_start objects ts d e c.args.count c.args.room _ _

pub loop-k-preserved : goal.loop-k-preserved
loop-k-preserved g c = λ objects ts d e h.
    let a = c.args in
    let m = c.loop-k-test.true in
    let w = c.loop-k.invariant objects ts d e h in
    let parts = met _ _ _ (h _ _ _ m c.in-Ok.ensures) in
    rw c.after-next.ensures
    (elim c.if-k-room.branch [
      | then-k-room v ↦
          rw (v.own_targets-is, v.own_labels-is)
          (reading_more objects ts d e a.count a.room w m parts.0 parts.2 parts.1 v.if-k-room.true c.requires.room_in_bounds.0 c.requires.room_in_bounds.1)
      | else-k-room v ↦
          rw (v.own_targets-is, v.own_labels-is)
          (reading_past objects ts d e a.count a.room w m parts.0 parts.2 v.if-k-room.false)
    ])

pub returns-in_default : goal.returns-in_default
returns-in_default g c = λ objects ts d e h.
    let m = c.loop-k-test.true in
    reading_stops objects ts d e c.args.count c.args.room (c.loop-k.invariant objects ts d e h) m (unmet _ _ _ (h _ _ _ m c.in_default.ensures))

pub returns : goal.returns
returns g c = λ objects ts d e h.
    let all : c.loop-k.k ≡ c.args.count = omega arith in
    reading_ends objects ts d e c.args.count c.args.room (c.loop-k.invariant objects ts d e h) all
