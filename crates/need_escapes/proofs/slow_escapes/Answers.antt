-- `need_escapes::slow_escapes` meets its contract. Assumes nothing.
use mathlib.Core.Path.{◌∙◌}
use Rattle.need_escapes.proofs.Uncoded.{uses_room, uses_few, elements_few, escapes_sum, table-left}
use native.Mathlib.Omega.{arith}
use Rattle.need_escapes.proofs.slow_escapes.Goals as goal

pub count_uncoded-fields-requires : goal.count_uncoded-fields-requires
count_uncoded-fields-requires c = let a = c.args in (
  uses_room a.names a.offsets.now a.labels.now a.table.now c.requires.room.0 c.requires.room.1 c.requires.known_labels.0 c.requires.known_labels.1 c.zero.ensures
      c.count_capped.ensures,
  uses_few a.names a.offsets.now a.labels.now a.table.now c.requires.room.0 c.requires.room.1 c.requires.known_labels.0 c.requires.known_labels.1
      c.zero.ensures c.count_capped.ensures,
)

pub overflow_add-result : goal.overflow_add-result
overflow_add-result c = let a = c.args in
    omega (
      arith,
      elements_few a.names a.offsets.now a.labels.now a.table.now c.requires.room.0 c.requires.room.1 c.requires.known_labels.0 c.requires.known_labels.1
          c.zero.ensures c.count_capped.ensures c.count_escapes-elements.ensures.rows,
      c.count_uncoded-fields.ensures.few,
      c.count_uncoded-fields.ensures.low,
    )

pub returns : goal.returns
returns c = let a = c.args in
    let u = c.count_uncoded-fields.ensures in
    record {
      need = escapes_sum a.names a.offsets.now a.labels.now a.table.now c.requires.room.0 c.requires.room.1 c.requires.known_labels.0 c.requires.known_labels.1 c.zero.ensures
          c.count_capped.ensures c.count_escapes-elements.ensures.rows 32767 u.last (omega arith) u.low u.ends u.rows;
      left = c.zero-2.ensures ∙ table-left a.names a.offsets.now a.labels.now a.table.now c.requires.room.0 c.requires.room.1 c.requires.known_labels.0
          c.requires.known_labels.1 c.zero.ensures c.count_capped.ensures;
    }
