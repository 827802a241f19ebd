-- `ask_short_edges::object_edges` meets its contract: by the span, the room, and the edges that could be read. Assumes nothing.
use mathlib.Core.Path.{◌≡◌, sym, ap, ◌∙◌}
use mathlib.Core.Bool.{cond}
use mathlib.Core.List.{List, []}
use mathlib.Core.Logic.{inl, inr}
use Prim.Native.Nat.{ℕ, ◌+◌, ◌-◌, ◌≤◌}
use native.Mathlib.Omega.{arith}
use borrow.Author.Rules.{rules}
use lib.Dec.{leb}
use lib.ListN.{length}
use Rattle.columns.specs.Lists.{◌!◌}
use Rattle.rules.proofs.Types.{read_refuses}
use Rattle.ask_span.proofs.Spans.{span_inside, span_exists}
use Rattle.ask_edges.specs.Read.{read_edge_says, with_label}
use Rattle.ask_short.specs.Lean.{plain_back, lean_in}
use Rattle.ask_short.proofs.Plain.{any-edge}
use Rattle.ask_short_edges.proofs.Replies.{replied_edges, replied_refused, replied_short}
use Rattle.ask_short_edges.proofs.object_edges.Goals as goal

-- the span is refused
pub returns-in_default : goal.returns-in_default
returns-in_default c = let e = c.refuse.ensures in
    replied_refused (lean_in c.args.graph) c.args.object c.args.own_targets.now c.args.own_labels.now e.0 e.1 e.2 c.in_default.ensures (read_refuses c.in_default.field-0)

pub overflow_sub-count : goal.overflow_sub-count
overflow_sub-count c = (span_inside _ _ _ _ (sym c.in-Ok.ensures)).ordered

-- a column is too short
pub returns-then-own_targets-count : goal.returns-then-own_targets-count
returns-then-own_targets-count c = let e = c.refuse-then-own_targets-count.ensures in
    replied_short (lean_in c.args.graph) c.args.object c.args.own_targets.now c.args.own_labels.now e.0 e.1 e.2 (sym c.in-Ok.ensures) (inl c.if-own_targets-count.true)

pub returns-then-own_labels-count : goal.returns-then-own_labels-count
returns-then-own_labels-count c = let e = c.refuse-then-own_labels-count.ensures in
    replied_short (lean_in c.args.graph) c.args.object c.args.own_targets.now c.args.own_labels.now e.0 e.1 e.2 (sym c.in-Ok.ensures) (inr c.if-own_labels-count.true)

pub overflow_sub-objects : goal.overflow_sub-objects
overflow_sub-objects c = omega (arith, span_exists _ _ _ _ (sym c.in-Ok.ensures))

pub read_edges-read-requires-clause-may_read : goal.read_edges-read-requires-clause-may_read
read_edges-read-requires-clause-may_read c = let i = span_inside _ _ _ _ (sym c.in-Ok.ensures) in
    let coded : c.in-Ok.field-0.end ≤ length c.args.graph.codes.now = i.coded in
    let targeted : c.in-Ok.field-0.end ≤ length c.args.graph.targets.now = i.targeted in
    λ k next m. search rules

pub settle-requires : goal.settle-requires
settle-requires c = search rules

pub returns : goal.returns
returns c = let graph = lean_in c.args.graph in
    let objects = length graph.offsets.short - 1 in
    let start = c.in-Ok.field-0.start in
    let all = c.read_edges-read.ensures objects graph.targets graph.labels start
    (λ k next r m p.
    let t = graph.targets ! (start + k) in
    let code = graph.labels.codes ! (start + k) in
    let read : read_edge_says r ≡ cond (leb objects t) [] (with_label t (plain_back graph.labels.fields next code)) = search rules in
    read ∙ ap (λ (ls : List ℕ). cond (leb objects t) [] (with_label t ls)) (any-edge graph.labels.fields (start + k) next code)) in
    replied_edges graph c.args.object c.args.own_targets.now c.args.own_labels.now (sym c.in-Ok.ensures)
    c.if-own_targets-count.false c.if-own_labels-count.false all c.settle.ensures
