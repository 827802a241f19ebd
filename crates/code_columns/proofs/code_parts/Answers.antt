-- `code_columns::code_parts` meets its contract: one law puts together what the stages say. Assumes nothing.
use mathlib.Core.Path.{refl, ◌∙◌}
use native.Mathlib.Omega.{arith}
use Rattle.rules.specs.Needs.{Lent}
use Rattle.rules.specs.Tables.{coding_room}
use Rattle.code_columns.proofs.Compose.{ready_names, offsets-before, fields-before, space_before, codes-before, coded-whole}
use Rattle.code_columns.proofs.code_parts.Goals as goal

pub fields_room-v2-requires : goal.fields_room-v2-requires
fields_room-v2-requires c = λ y.
    ready_names (c.requires (offsets-before c.offsets_stage-v1.ensures y))

pub space_room-v3-requires : goal.space_room-v3-requires
space_room-v3-requires c = λ y.
    let w = fields-before _ _ _ _ _ c.fields_room-v2.ensures y in
    let r = c.requires (offsets-before c.offsets_stage-v1.ensures w.0) in
    record { all = r; room_fields = w.1; room_table = omega (arith, w.2, c.fields_room-v2.auto.table) }

pub write_fields-requires : goal.write_fields-requires
write_fields-requires c = λ y.
    let q = space_before _ _ _ _ _ _ _ _ _ c.space_room-v3.ensures y in
    let w = fields-before _ _ _ _ _ c.fields_room-v2.ensures q.0 in
    let r = c.requires (offsets-before c.offsets_stage-v1.ensures w.0) in
    record {
      name = ready_names r;
      few_labels = r.few_labels;
      room_fields = omega (arith, w.1, c.space_room-v3.auto.fields);
      room_table = omega (arith, w.2, c.fields_room-v2.auto.table, c.space_room-v3.auto.table);
      room_counting = q.1;
      room_ranking = q.2;
    }

pub codes_stage-r-requires : goal.codes_stage-r-requires
codes_stage-r-requires c =
    let room : Lent =
    let a = c.args in
    (coding_room (λ x. x.now) a.bases a.short a.long_at a.long_value a.fields a.table a.escape_at a.escape_label a.edge_codes a.counting a.ranking) in
    λ y.
    let q = space_before _ _ _ _ _ _ _ _ _ c.space_room-v3.ensures y in
    let w = fields-before _ _ _ _ _ c.fields_room-v2.ensures q.0 in
    let r = c.requires (offsets-before c.offsets_stage-v1.ensures w.0) in
    record {
      room = record {
        few = omega (arith, r.few_names);
        long = omega (arith, w.2, c.fields_room-v2.auto.table, c.space_room-v3.auto.table, c.write_fields.auto.table);
      };
      laid = r.laid;
    }

pub settle-requires : goal.settle-requires
settle-requires c = λ x.
    let y = codes-before c.codes_stage-r.ensures x in
    let q = space_before _ _ _ _ _ _ _ _ _ c.space_room-v3.ensures y in
    let w = fields-before _ _ _ _ _ c.fields_room-v2.ensures q.0 in
    let r = c.requires (offsets-before c.offsets_stage-v1.ensures w.0) in
    r.few_names

pub returns : goal.returns
returns c =
    let room : Lent =
    let a = c.args in
    (coding_room (λ x. x.now) a.bases a.short a.long_at a.long_value a.fields a.table a.escape_at a.escape_label a.edge_codes a.counting a.ranking) in
    coded-whole room c.requires c.offsets_stage-v1.ensures c.fields_room-v2.ensures
    c.space_room-v3.ensures c.write_fields.ensures c.codes_stage-r.ensures refl refl refl
    c.settle.ensures
    c.offsets_stage-v1.auto.bases
    c.offsets_stage-v1.auto.short
    c.offsets_stage-v1.auto.long_at
    c.offsets_stage-v1.auto.long_value
    (c.write_fields.auto.fields
    ∙ c.space_room-v3.auto.fields)
    (c.write_fields.auto.table
    ∙ c.space_room-v3.auto.table
    ∙ c.fields_room-v2.auto.table)
    c.codes_stage-r.auto.escape_at
    c.codes_stage-r.auto.escape_label
    c.codes_stage-r.auto.edge_codes
    c.write_fields.auto.counting
    c.write_fields.auto.ranking
