-- `slot_rows::fill_rows` meets its contract: row by row, each column is filled as far as there are rows with room. Assumes nothing.
use mathlib.Core.Path.{◌≡◌, refl}
use mathlib.Core.List.{map}
use lib.ListN.{take, length-take}
use lib.Seq.{length-take-le}
use native.Mathlib.Omega.{arith}
use Rattle.columns.proofs.Written.{written_none, written_push, written_end}
use Rattle.slot_rows.specs.Rows.{row_offset, row_label, row_weak}
use Rattle.slot_rows.proofs.Laws.{rows_more, filled}
use Rattle.slot_rows.proofs.fill_rows.Goals as goal

pub loop-i-init : goal.loop-i-init
loop-i-init c = record { offsets = written_none _; labels = written_none _; weak = written_none _ }

pub loop-i-preserved : goal.loop-i-preserved
loop-i-preserved c =
    let e = length-take c.room_for-room.result c.args.rows.now in
    let v = c.loop-i.invariant in
    let rows = c.args.rows.now in
    let room = c.room_for-room.result in
    let i = c.loop-i.i in
    record {
      offsets = written_push _ v.offsets (omega arith) (rows_more row_offset rows room i c.loop-i-test.true);
      labels = written_push _ v.labels (omega arith) (rows_more row_label rows room i c.loop-i-test.true);
      weak = written_push _ v.weak (omega arith) (rows_more row_weak rows room i c.loop-i-test.true);
    }

pub returns : goal.returns
returns c =
    let a = c.args in
    let v = c.loop-i.invariant in
    let w = c.room_for-room.ensures.within in
    let e : c.loop-i.i ≡ c.room_for-room.result = omega (arith, length-take-le c.room_for-room.result a.rows.now w.0) in
    filled a.rows.now a.offsets.now a.labels.now a.weak.now refl c.room_for-room.ensures.room w c.settle.ensures
    (written_end (λ k. map row_offset (take k a.rows.now)) _ v.offsets e) (written_end (λ k. map row_label (take k a.rows.now)) _ v.labels e) (written_end (λ k. map row_weak (take k a.rows.now)) _ v.weak e)
