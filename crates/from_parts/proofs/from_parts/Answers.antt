-- `from_parts::from_parts` meets its contract: what the checks answer, counted, is what coding is handed. Assumes nothing.
use mathlib.Core.Path.{◌≡◌, ◌∙◌}
use Rattle.rules.specs.Types.{checked_says}
use Rattle.rules.specs.Input.{Schema}
use Rattle.rules.specs.Edges.{Parts}
use Rattle.rules.specs.Needs.{Lent}
use Rattle.rules.specs.Parts.{handed_says}
use Rattle.rules.specs.Tables.{class_table, slot_table, static_table, schema_of, coding_room}
use Rattle.from_parts.specs.Parts.{plain_columns}
use Rattle.from_parts.proofs.Whole.{handed-same, checked_ready, parts-left}
use Rattle.from_parts.proofs.from_parts.Goals as goal

pub code_parts-requires : goal.code_parts-requires
code_parts-requires c =
    let schema : Schema =
    let a = c.args in
    schema_of
    (class_table (λ x. x.now) a.class_ids a.loaders a.dumped a.class_kinds a.slot_starts a.slot_ends a.static_starts a.static_ends)
    (slot_table (λ x. x.now) a.slot_offsets a.slot_labels a.slot_weak)
    (static_table (λ x. x.now) a.static_names a.static_types a.static_values)
    a.names in
    let parts : Parts =
    let a = c.args in
    plain_columns (λ x. x.now) a.offsets a.targets a.labels a.weak_from a.weak_to a.roots a.dangling in
    let checked : checked_says c.check_parts-c.result ≡ handed_says schema parts =
    let a = c.args in
    c.check_parts-c.ensures
    ∙ handed-same schema
    a.offsets.now a.targets.now a.labels.now a.weak_from.now a.weak_to.now a.roots.now a.dangling in
    checked_ready schema parts checked c.counted-v.ensures

pub returns : goal.returns
returns c =
    let schema : Schema =
    let a = c.args in
    schema_of
    (class_table (λ x. x.now) a.class_ids a.loaders a.dumped a.class_kinds a.slot_starts a.slot_ends a.static_starts a.static_ends)
    (slot_table (λ x. x.now) a.slot_offsets a.slot_labels a.slot_weak)
    (static_table (λ x. x.now) a.static_names a.static_types a.static_values)
    a.names in
    let parts : Parts =
    let a = c.args in
    plain_columns (λ x. x.now) a.offsets a.targets a.labels a.weak_from a.weak_to a.roots a.dangling in
    let room : Lent =
    let a = c.args in
    (coding_room (λ x. x.now) a.bases a.short a.long_at a.long_value a.fields a.table a.escape_at a.escape_label a.edge_codes a.counting a.ranking) in
    let checked : checked_says c.check_parts-c.result ≡ handed_says schema parts =
    let a = c.args in
    c.check_parts-c.ensures
    ∙ handed-same schema
    a.offsets.now a.targets.now a.labels.now a.weak_from.now a.weak_to.now a.roots.now a.dangling in
    parts-left schema parts checked c.counted-v.ensures room c.code_parts.ensures
