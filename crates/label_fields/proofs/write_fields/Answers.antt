-- `label_fields::write_fields` meets its contract: the marked labels where they are few enough, else the ranking. Assumes nothing.
use mathlib.Core.Path.{sym, ap, ◌∙◌}
use mathlib.Core.List.{List}
use Prim.Native.Nat.{ℕ}
use native.Mathlib.Omega.{arith}
use lib.ListN.{length}
use Rattle.columns.specs.Columns.{over}
use Rattle.label_fields.proofs.Choice.{chosen_marked, chosen_ranked, marked_fit, ranked_fit}
use Rattle.label_fields.proofs.write_fields.Goals as goal

pub write_marked-requires : goal.write_marked-requires
write_marked-requires c = let a = c.args in
    let p = c.requires.room.0 in (
      record { few = p.few; long = omega (arith, p.long) },
      marked_fit a.names a.table.now _ a.labels.now p.few p.long c.zero.ensures c.mark_named.ensures c.count_marked-listed.ensures c.if-listed-le32767.true c.requires.labels_in_bounds,
    )

pub returns-then-listed-le32767 : goal.returns-then-listed-le32767
returns-then-listed-le32767 c = let a = c.args in
    let p = c.requires.room.0 in
    chosen_marked a.names a.table.now _ a.labels.now p.few p.long c.zero.ensures c.mark_named.ensures c.count_marked-listed.ensures c.if-listed-le32767.true c.write_marked.ensures

pub rank_fields-requires : goal.rank_fields-requires
rank_fields-requires c = let a = c.args in
    let p = c.requires.room.0 in (
      c.requires.room.1,
      c.requires.room.2,
      c.requires.room.3,
      ranked_fit a.names a.table.now _ a.labels.now p.few p.long c.zero.ensures c.mark_named.ensures c.count_marked-listed.ensures c.if-listed-le32767.false c.requires.labels_in_bounds,
    )

pub returns : goal.returns
returns c = let a = c.args in
    let p = c.requires.room.0 in
    let is = chosen_ranked a.names a.table.now _ a.labels.now p.few p.long c.zero.ensures c.mark_named.ensures c.count_marked-listed.ensures c.if-listed-le32767.false in
    record { used = c.rank_fields.ensures.used ∙ ap length (sym is); front = c.rank_fields.ensures.front ∙ ap (λ (z : List ℕ). over z a.fields.now) (sym is) }
