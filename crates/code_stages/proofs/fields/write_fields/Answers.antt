-- `code_stages::fields::write_fields` meets its contract. The fields are those of the rules, and the table is theirs. Assumes nothing.
use mathlib.Core.Path.{sym, ◌∙◌}
use native.Mathlib.Omega.{arith}
use Prim.Native.Nat.{◌≤◌}
use Rattle.rules.specs.Types.{built_says}
use Rattle.rules.proofs.Types.{accepts_ok}
use Rattle.code_stages.proofs.Laws.{refused_never, chosen_few, chosen_front, fields_written}
use Rattle.rules.specs.Types.{loader_label}
use Rattle.labels.proofs.Listed.{fields-named}
use Rattle.code_stages.proofs.fields.write_fields.Goals as goal

pub write_fields-n-requires : goal.write_fields-n-requires
write_fields-n-requires c = let p = c.requires (accepts_ok c.args.v ∙ sym c.is_ok.ensures.value ∙ c.if-is_ok.true) in
    let few = p.name.few_names in record {
      room = (
        record { few = omega (arith, few); long = p.room_table },
        record { few = omega (arith, few); long = p.room_counting },
        record { few = omega (arith, few); long = p.room_ranking },
        omega (arith, p.few_labels),
      );
      ranges = p.name.ranges;
      labels_in_bounds = p.room_fields;
    }

pub write_table-requires : goal.write_table-requires
write_table-requires c = let a = c.args in
    let p = c.requires (accepts_ok a.v ∙ sym c.is_ok.ensures.value ∙ c.if-is_ok.true) in
    let w = c.write_fields-n.ensures in
    let few : a.names ≤ loader_label = omega (arith, p.name.few_names) in
    record {
      room = (
        record { few = few; long = omega (arith, p.room_table, c.write_fields-n.auto.table) },
        omega (arith, w.used, p.room_fields, c.write_fields-n.auto.fields),
        chosen_few a.names _ a.labels.now w,
      );
      named = rw (chosen_front w) (fields-named a.names few _ a.labels.now);
    }

pub returns-then-is_ok : goal.returns-then-is_ok
returns-then-is_ok c = λ y.
    fields_written c.args.names c.write_fields-n.new.table c.write_fields-n.ensures
    c.write_table.ensures

pub returns-else-is_ok : goal.returns-else-is_ok
returns-else-is_ok c = λ y.
    refused_never (built_says c.args.v) (accepts_ok c.args.v ∙ sym c.is_ok.ensures.value ∙ c.if-is_ok.false) y
