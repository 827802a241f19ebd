-- `check_parts::check_parts` meets its contract: test by test. Assumes nothing.
use mathlib.Core.Path.{◌≡◌, sym, ap, ◌∙◌}
use Prim.Native.Nat.{ℕ}
use native.Mathlib.Omega.{arith}
use Rattle.columns.specs.Lists.{first_place}
use Rattle.rules.specs.Input.{Schema, class_count}
use Rattle.rules.specs.Tables.{class_table, slot_table, static_table, schema_of}
use Rattle.rules.specs.Edges.{Parts}
use Rattle.rules.specs.Needs.{objects_of}
use Rattle.rules.specs.Verdict.{schema_lengths, over_limit, bad_class, bad_slot, bad_static, limits}
use Rattle.check_tables.proofs.Even.{schema_dumped, schema_tables}
use Rattle.check_parts.specs.Checks.{handed}
use Rattle.check_parts.proofs.Handed.{pairs-even, handed_tables, handed-pairs, handed_limit, handed_class, handed-places, handed-parts}
use Rattle.check_parts.proofs.check_parts.Goals as goal

pub returns-then-schema_lengths : goal.returns-then-schema_lengths
unfolding schema_lengths
returns-then-schema_lengths c =
    let schemaFor : Schema =
    let a = c.args in
    schema_of
    (class_table (λ x. x.now) a.class_ids a.loaders a.dumped a.class_kinds a.slot_starts a.slot_ends a.static_starts a.static_ends)
    (slot_table (λ x. x.now) a.slot_offsets a.slot_labels a.slot_weak) (static_table (λ x. x.now) a.static_names a.static_types a.static_values) a.names in
    let partsFor : Parts =
    let a = c.args in handed a.offsets.now a.targets.now a.labels.now a.weak_from.now a.weak_to.now a.roots.now in
    let uneven : schema_lengths schemaFor ≡ c.schema_lengths.result =
    sym c.schema_lengths.ensures in
    handed_tables schemaFor partsFor (uneven ∙ c.if-schema_lengths.true)

pub returns-then-differ : goal.returns-then-differ
returns-then-differ c =
    let schemaFor : Schema =
    let a = c.args in
    schema_of
    (class_table (λ x. x.now) a.class_ids a.loaders a.dumped a.class_kinds a.slot_starts a.slot_ends a.static_starts a.static_ends)
    (slot_table (λ x. x.now) a.slot_offsets a.slot_labels a.slot_weak) (static_table (λ x. x.now) a.static_names a.static_types a.static_values) a.names in
    let partsFor : Parts =
    let a = c.args in handed a.offsets.now a.targets.now a.labels.now a.weak_from.now a.weak_to.now a.roots.now in
    handed-pairs schemaFor partsFor (sym c.differ.ensures ∙ c.if-differ.true)

pub returns-then-over_limit : goal.returns-then-over_limit
unfolding limits over_limit schema_lengths
returns-then-over_limit c =
    let schemaFor : Schema =
    let a = c.args in
    schema_of
    (class_table (λ x. x.now) a.class_ids a.loaders a.dumped a.class_kinds a.slot_starts a.slot_ends a.static_starts a.static_ends)
    (slot_table (λ x. x.now) a.slot_offsets a.slot_labels a.slot_weak) (static_table (λ x. x.now) a.static_names a.static_types a.static_values) a.names in
    let partsFor : Parts =
    let a = c.args in handed a.offsets.now a.targets.now a.labels.now a.weak_from.now a.weak_to.now a.roots.now in
    let uneven : schema_lengths schemaFor ≡ c.schema_lengths.result =
    sym c.schema_lengths.ensures in
    let over : over_limit (objects_of partsFor) schemaFor ≡ c.over_limit.result =
    let s = schemaFor in
    sym (c.over_limit.ensures ∙ ap (λ (m : ℕ). over_limit m s) c.object_count.ensures) in
    handed_limit schemaFor partsFor (uneven ∙ c.if-schema_lengths.false) (sym c.differ.ensures ∙ c.if-differ.false) (over ∙ c.if-over_limit.true)

pub first_class-class-requires : goal.first_class-class-requires
unfolding schema_lengths
first_class-class-requires c =
    let schemaFor : Schema =
    let a = c.args in
    schema_of
    (class_table (λ x. x.now) a.class_ids a.loaders a.dumped a.class_kinds a.slot_starts a.slot_ends a.static_starts a.static_ends)
    (slot_table (λ x. x.now) a.slot_offsets a.slot_labels a.slot_weak) (static_table (λ x. x.now) a.static_names a.static_types a.static_values) a.names in
    let uneven : schema_lengths schemaFor ≡ c.schema_lengths.result =
    sym c.schema_lengths.ensures in
    schema_tables schemaFor (uneven ∙ c.if-schema_lengths.false)

pub returns-then-class-class_ids : goal.returns-then-class-class_ids
unfolding bad_class bad_slot bad_static limits over_limit schema_lengths
returns-then-class-class_ids c =
    let schemaFor : Schema =
    let a = c.args in
    schema_of
    (class_table (λ x. x.now) a.class_ids a.loaders a.dumped a.class_kinds a.slot_starts a.slot_ends a.static_starts a.static_ends)
    (slot_table (λ x. x.now) a.slot_offsets a.slot_labels a.slot_weak) (static_table (λ x. x.now) a.static_names a.static_types a.static_values) a.names in
    let partsFor : Parts =
    let a = c.args in handed a.offsets.now a.targets.now a.labels.now a.weak_from.now a.weak_to.now a.roots.now in
    let uneven : schema_lengths schemaFor ≡ c.schema_lengths.result =
    sym c.schema_lengths.ensures in
    let over : over_limit (objects_of partsFor) schemaFor ≡ c.over_limit.result =
    let s = schemaFor in
    sym (c.over_limit.ensures ∙ ap (λ (m : ℕ). over_limit m s) c.object_count.ensures) in
    let class : c.first_class-class.result ≡ first_place (bad_class schemaFor) (class_count schemaFor) =
    let s = schemaFor in
    c.first_class-class.ensures ∙ ap (first_place (bad_class s)) (schema_dumped s (uneven ∙ c.if-schema_lengths.false)) in
    handed_class schemaFor partsFor (uneven ∙ c.if-schema_lengths.false) (sym c.differ.ensures ∙ c.if-differ.false) (over ∙ c.if-over_limit.false)
    class c.if-class-class_ids.true

pub returns-then-labels-gt268435456 : goal.returns-then-labels-gt268435456
unfolding bad_class bad_slot bad_static limits over_limit schema_lengths
returns-then-labels-gt268435456 c =
    let schemaFor : Schema =
    let a = c.args in
    schema_of
    (class_table (λ x. x.now) a.class_ids a.loaders a.dumped a.class_kinds a.slot_starts a.slot_ends a.static_starts a.static_ends)
    (slot_table (λ x. x.now) a.slot_offsets a.slot_labels a.slot_weak) (static_table (λ x. x.now) a.static_names a.static_types a.static_values) a.names in
    let partsFor : Parts =
    let a = c.args in handed a.offsets.now a.targets.now a.labels.now a.weak_from.now a.weak_to.now a.roots.now in
    let uneven : schema_lengths schemaFor ≡ c.schema_lengths.result =
    sym c.schema_lengths.ensures in
    let over : over_limit (objects_of partsFor) schemaFor ≡ c.over_limit.result =
    let s = schemaFor in
    sym (c.over_limit.ensures ∙ ap (λ (m : ℕ). over_limit m s) c.object_count.ensures) in
    let class : c.first_class-class.result ≡ first_place (bad_class schemaFor) (class_count schemaFor) =
    let s = schemaFor in
    c.first_class-class.ensures ∙ ap (first_place (bad_class s)) (schema_dumped s (uneven ∙ c.if-schema_lengths.false)) in
    handed-places schemaFor partsFor (uneven ∙ c.if-schema_lengths.false) (sym c.differ.ensures ∙ c.if-differ.false) (over ∙ c.if-over_limit.false)
    class (omega arith) c.if-labels-gt268435456.true

pub judge_parts-requires : goal.judge_parts-requires
unfolding schema_lengths
judge_parts-requires c =
    let schemaFor : Schema =
    let a = c.args in
    schema_of
    (class_table (λ x. x.now) a.class_ids a.loaders a.dumped a.class_kinds a.slot_starts a.slot_ends a.static_starts a.static_ends)
    (slot_table (λ x. x.now) a.slot_offsets a.slot_labels a.slot_weak) (static_table (λ x. x.now) a.static_names a.static_types a.static_values) a.names in
    let partsFor : Parts =
    let a = c.args in handed a.offsets.now a.targets.now a.labels.now a.weak_from.now a.weak_to.now a.roots.now in
    let uneven : schema_lengths schemaFor ≡ c.schema_lengths.result =
    sym c.schema_lengths.ensures in
    pairs-even schemaFor partsFor (uneven ∙ c.if-schema_lengths.false) (sym c.differ.ensures ∙ c.if-differ.false)

pub returns : goal.returns
unfolding bad_class bad_slot bad_static limits over_limit schema_lengths
returns c =
    let schemaFor : Schema =
    let a = c.args in
    schema_of
    (class_table (λ x. x.now) a.class_ids a.loaders a.dumped a.class_kinds a.slot_starts a.slot_ends a.static_starts a.static_ends)
    (slot_table (λ x. x.now) a.slot_offsets a.slot_labels a.slot_weak) (static_table (λ x. x.now) a.static_names a.static_types a.static_values) a.names in
    let partsFor : Parts =
    let a = c.args in handed a.offsets.now a.targets.now a.labels.now a.weak_from.now a.weak_to.now a.roots.now in
    let uneven : schema_lengths schemaFor ≡ c.schema_lengths.result =
    sym c.schema_lengths.ensures in
    let over : over_limit (objects_of partsFor) schemaFor ≡ c.over_limit.result =
    let s = schemaFor in
    sym (c.over_limit.ensures ∙ ap (λ (m : ℕ). over_limit m s) c.object_count.ensures) in
    let class : c.first_class-class.result ≡ first_place (bad_class schemaFor) (class_count schemaFor) =
    let s = schemaFor in
    c.first_class-class.ensures ∙ ap (first_place (bad_class s)) (schema_dumped s (uneven ∙ c.if-schema_lengths.false)) in
    c.judge_parts.ensures
    ∙ handed-parts schemaFor partsFor (uneven ∙ c.if-schema_lengths.false) (sym c.differ.ensures ∙ c.if-differ.false) (over ∙ c.if-over_limit.false) class
    c.if-class-class_ids.false c.if-labels-gt268435456.false
