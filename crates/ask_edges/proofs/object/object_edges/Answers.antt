-- `ask_edges::object::object_edges` meets its contract: by the span, the edges that could be read, and the room. Assumes nothing.
use mathlib.Core.Path.{◌≡◌, sym, ◌∙◌}
use Prim.Native.Nat.{◌+◌, ◌-◌}
use native.Mathlib.Omega.{arith}
use borrow.Author.Rules.{rules}
use lib.ListN.{length}
use Rattle.columns.specs.Lists.{part}
use Rattle.rules.proofs.Types.{list_refuses}
use Rattle.ask_span.specs.Graph.{strong_in}
use Rattle.ask_span.proofs.Spans.{Inside, span_inside, span_exists}
use Rattle.ask_edges.specs.Read.{read_edge_says, edge_back, step_at}
use Rattle.ask_edges.proofs.Found.{room_few, found-edges, found_refused}
use Rattle.ask_edges.proofs.Reading.{edge-said}
use Rattle.ask_edges.proofs.object.object_edges.Goals.{In-Ok}
use Rattle.ask_edges.proofs.object.object_edges.Goals as goal

-- the object's edges are in order, and within both columns
inside : (c : In-Ok) → Inside (length c.args.graph.labels.codes.now) (length c.args.graph.targets.now) c.in-Ok.field-0.start c.in-Ok.field-0.end
inside c = span_inside _ _ _ _ (sym c.in-Ok.ensures)

pub overflow_sub-count : goal.overflow_sub-count
overflow_sub-count c = (inside c).ordered

pub overflow_sub-objects : goal.overflow_sub-objects
overflow_sub-objects c = omega (arith, span_exists _ _ _ _ (sym c.in-Ok.ensures))

pub offset_bounds-graph-start : goal.offset_bounds-graph-start
offset_bounds-graph-start c = let i = inside (goal.at.offset_bounds-graph-start c).In-Ok in omega (arith, i.ordered, i.targeted)

pub slice_bounds-targets-count : goal.slice_bounds-targets-count
slice_bounds-targets-count c = (inside (goal.at.slice_bounds-targets-count c).In-Ok).ordered

pub slice_bounds-targets-start : goal.slice_bounds-targets-start
slice_bounds-targets-start c = (inside (goal.at.slice_bounds-targets-start c).In-Ok).ordered

pub slice_bounds-targets-end : goal.slice_bounds-targets-end
slice_bounds-targets-end c = (inside (goal.at.slice_bounds-targets-end c).In-Ok).targeted

pub offset_bounds-graph-start-in-Ok : goal.offset_bounds-graph-start-in-Ok
offset_bounds-graph-start-in-Ok c = let i = inside (goal.at.offset_bounds-graph-start-in-Ok c).In-Ok in omega (arith, i.ordered, i.coded)

pub slice_bounds-codes-count : goal.slice_bounds-codes-count
slice_bounds-codes-count c = (inside (goal.at.slice_bounds-codes-count c).In-Ok).ordered

pub slice_bounds-codes-start : goal.slice_bounds-codes-start
slice_bounds-codes-start c = (inside (goal.at.slice_bounds-codes-start c).In-Ok).ordered

pub slice_bounds-codes-end : goal.slice_bounds-codes-end
slice_bounds-codes-end c = (inside (goal.at.slice_bounds-codes-end c).In-Ok).coded

pub read_edges-read-requires-clause-room_in_bounds : goal.read_edges-read-requires-clause-room_in_bounds
read_edges-read-requires-clause-room_in_bounds c = rw c.room_for-room.ensures (room_few _ _ _)

pub returns-in-Ok : goal.returns-in-Ok
returns-in-Ok c =
    let graph = strong_in c.args.graph in
    let i = inside (goal.at.returns-in-Ok c).In-Ok in
    let start = c.in-Ok.field-0.start in
    let end = c.in-Ok.field-0.end in
    let d = graph.labels in
    let objects = length graph.offsets.short - 1 in
    let all = c.read_edges-read.ensures objects graph.targets d start
    (λ k next r m p.
    let read : read_edge_says r ≡ edge_back objects d.fields d.escape_at d.escape_label (start + k) next (step_at (part graph.targets start end) (part d.codes start end) k) = search rules in
    read ∙ edge-said objects graph.targets d start end next k m i.targeted i.coded) in
    found-edges graph c.args.object (sym c.in-Ok.ensures) c.args.own_targets.now c.args.own_labels.now c.room_for-room.ensures all c.judge-answer.ensures c.settle.ensures

pub returns-in-Err : goal.returns-in-Err
returns-in-Err c = found_refused (strong_in c.args.graph) c.args.object c.args.own_targets.now c.args.own_labels.now
    (c.from.ensures ∙ c.in-Err.ensures) (list_refuses c.from.result) c.settle-in-Err.ensures
