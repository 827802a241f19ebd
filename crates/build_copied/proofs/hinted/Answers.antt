-- `build_copied::hinted` meets its contract. The two halves come together by `whole`. Assumes nothing.
use Rattle.rules.specs.Input.{Input}
use Rattle.rules.specs.Needs.{Lent}
use Rattle.rules.specs.Tables.{object_table, class_table, slot_table, static_table, schema_of, copied_route, input_of, coding_room}
use Rattle.build_finish.proofs.Whole.{asked, whole}
use Rattle.build_copied.proofs.hinted.Goals as goal

pub finish-requires : goal.finish-requires
finish-requires c =
    let input : Input =
    let a = c.args in
    input_of
    (object_table (λ x. x.now) a.ids a.kinds a.classes a.lengths)
    (schema_of
    (class_table (λ x. x.now) a.class_ids a.loaders a.dumped a.class_kinds a.slot_starts a.slot_ends a.static_starts a.static_ends)
    (slot_table (λ x. x.now) a.slot_offsets a.slot_labels a.slot_weak)
    (static_table (λ x. x.now) a.static_names a.static_types a.static_values)
    a.names)
    (copied_route (λ x. x.now) a.codes a.escape_places a.escape_ids a.base a.starts)
    a.roots.now
    a.policy in
    let room : Lent =
    let a = c.args in
    (coding_room (λ x. x.now) a.bases a.short a.long_at a.long_value a.fields a.table a.escape_at a.escape_label a.edge_codes a.counting a.ranking) in
    asked input room
    c.args.targets.now c.args.labels.now c.args.weak_from.now c.args.weak_to.now c.args.roots_out.now c.args.working.now
    c.lay_copied-v.ensures.answer c.lay_copied-v.ensures.laid

pub returns : goal.returns
returns c =
    let input : Input =
    let a = c.args in
    input_of
    (object_table (λ x. x.now) a.ids a.kinds a.classes a.lengths)
    (schema_of
    (class_table (λ x. x.now) a.class_ids a.loaders a.dumped a.class_kinds a.slot_starts a.slot_ends a.static_starts a.static_ends)
    (slot_table (λ x. x.now) a.slot_offsets a.slot_labels a.slot_weak)
    (static_table (λ x. x.now) a.static_names a.static_types a.static_values)
    a.names)
    (copied_route (λ x. x.now) a.codes a.escape_places a.escape_ids a.base a.starts)
    a.roots.now
    a.policy in
    let room : Lent =
    let a = c.args in
    (coding_room (λ x. x.now) a.bases a.short a.long_at a.long_value a.fields a.table a.escape_at a.escape_label a.edge_codes a.counting a.ranking) in
    whole input room
    c.args.targets.now c.args.labels.now c.args.weak_from.now c.args.weak_to.now c.args.roots_out.now c.args.working.now
    c.lay_copied-v.ensures.answer c.lay_copied-v.ensures.laid c.finish.ensures
    c.lay_copied-v.auto.targets
    c.lay_copied-v.auto.labels
    c.lay_copied-v.auto.weak_from
    c.lay_copied-v.auto.weak_to
    c.lay_copied-v.auto.roots_out
    c.lay_copied-v.auto.working
