-- `code_stages::space::escapes_without` meets its contract. Few fields are listed by marks; of more the escapes are counted by layers. Assumes nothing.
use mathlib.Core.Path.{refl, ap, ◌∙◌}
use native.Mathlib.Omega.{arith}
use mathlib.Core.List.{List}
use Prim.Native.Nat.{ℕ, ◌+◌, ◌≤◌}
use lib.ListN.{length}
use Rattle.columns.specs.Columns.{over}
use Rattle.rules.specs.Types.{loader_label}
use Rattle.rules.specs.Labels.{code_table}
use Rattle.label_fields.proofs.Choice.{chosen_marked, chosen_ranked, marked_fit}
use Rattle.labels.proofs.Listed.{fields-named}
use Rattle.label_fields.proofs.Tabling.{table_written}
use Rattle.code_stages.proofs.Laws.{chosen_within, chosen_front, escapes_same}
use Rattle.code_stages.proofs.space.escapes_without.Goals as goal

pub returns-then-listed-gt32767 : goal.returns-then-listed-gt32767
returns-then-listed-gt32767 c = let a = c.args in
    let p = c.requires in
    escapes_same a.offsets.now a.labels.now
    (chosen_ranked a.names a.table.now _ a.labels.now (omega (arith, p.all.few_names)) p.room_table c.zero.ensures c.mark_named.ensures c.count_marked-listed.ensures (omega arith))
    c.slow_escapes.ensures.need

pub write_marked-requires : goal.write_marked-requires
write_marked-requires c = let a = c.args in
    let p = c.requires in
    let few : a.names ≤ loader_label = omega (arith, p.all.few_names) in (
      record { few = few; long = omega (arith, p.room_table, c.zero.auto.d, c.mark_named.auto.table) },
      marked_fit a.names a.table.now _ a.labels.now few p.room_table c.zero.ensures c.mark_named.ensures c.count_marked-listed.ensures c.if-listed-gt32767.false p.room_fields,
    )

pub write_table-requires : goal.write_table-requires
write_table-requires c = let a = c.args in
    let p = c.requires in
    let few : a.names ≤ loader_label = omega (arith, p.all.few_names) in
    let long : a.names + 2 ≤ length c.mark_named.new.table = omega (arith, p.room_table, c.zero.auto.d, c.mark_named.auto.table) in
    let short : c.count_marked-listed.result ≤ 32767 = c.if-listed-gt32767.false in
    let same = c.write_marked.auto.fields in
    let w = chosen_marked a.names a.table.now _ a.labels.now few p.room_table c.zero.ensures c.mark_named.ensures c.count_marked-listed.ensures short c.write_marked.ensures in
    record {
      room = (record { few = few; long = long }, rw same (chosen_within w p.room_fields), short);
      named = rw (chosen_front w) (fields-named a.names few _ a.labels.now);
    }

pub returns : goal.returns
returns c = let a = c.args in
    let p = c.requires in
    let few : a.names ≤ loader_label = omega (arith, p.all.few_names) in
    let w = chosen_marked a.names a.table.now _ a.labels.now few p.room_table c.zero.ensures c.mark_named.ensures c.count_marked-listed.ensures c.if-listed-gt32767.false
    c.write_marked.ensures in
    let of = table_written a.names _ c.mark_named.new.table _ (fields-named a.names few _ a.labels.now)
    (c.write_table.ensures ∙ ap (λ (z : List ℕ). over (code_table a.names z) c.mark_named.new.table) (chosen_front w)) in
    escapes_same a.offsets.now a.labels.now refl (c.count_escapes.ensures.need _ of)
