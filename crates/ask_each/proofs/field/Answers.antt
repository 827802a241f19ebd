-- `ask_each::field` meets its contract: ROOM, or the list asked over its spans, settled. Assumes nothing.
use mathlib.Core.Path.{sym, ◌∙◌}
use native.Mathlib.Omega.{arith}
use lib.ListN.{length}
use Rattle.ask_span.specs.Graph.{strong_in}
use Rattle.ask_each.specs.Listed.{asks}
use Rattle.ask_each_spans.proofs.Offsets.{told_wider}
use Rattle.ask_each.proofs.Answers.{room_for, each_room, each-asked}
use Rattle.ask_each.proofs.field.Goals as goal

pub returns-then-lacks : goal.returns-then-lacks
returns-then-lacks c =
    let single = asks (strong_in c.args.graph) c.args.label in
    each_room single c.args.objects.now c.args.own_targets.now c.args.found.now (sym c.lacks_room-lacks.ensures ∙ c.if-lacks.true) c.settle.ensures

pub spans-requires : goal.spans-requires
spans-requires c = let room = room_for _ _ _ (sym c.lacks_room-lacks.ensures ∙ c.if-lacks.false) in
    (room.0, room.1, c.limit-end.ensures.2)

pub ask-answer-requires : goal.ask-answer-requires
ask-answer-requires c = let p = c.spans.ensures in
    let e = c.limit-end.ensures in
    let a = c.args in
    let room = room_for (length a.objects.now) (length a.own_targets.now) (length a.found.now) (sym c.lacks_room-lacks.ensures ∙ c.if-lacks.false) in record { objects_in_bounds = (omega (arith, p.same_targets, room.0), omega (arith, p.same_found, room.1)); sole = c.sole-code.ensures; told = told_wider e.0 e.1 p.spans }

pub returns : goal.returns
returns c =
    let single = asks (strong_in c.args.graph) c.args.label in
    let p = c.spans.ensures in
    each-asked single c.args.objects.now c.args.own_targets.now c.args.found.now (sym c.lacks_room-lacks.ensures ∙ c.if-lacks.false) p.same_targets p.same_found
    c.ask-answer.ensures c.settle-2.ensures
