-- `slot_rows::fill_columns` meets its contract: the rows are copied where all columns have room, and the ends are cleared. Assumes nothing.
use mathlib.Core.Path.{◌≡◌}
use Prim.Native.Nat.{min}
use native.Mathlib.Omega.{arith}
use lib.ListN.{length}
use Rattle.slot_rows.proofs.Laws.{columns_filled}
use Rattle.slot_rows.proofs.fill_columns.Goals as goal

pub returns : goal.returns
returns c =
    let a = c.args in
    let n-is : c.min-n.result ≡ min (min (length a.from_offsets.now) (length a.from_labels.now)) (length a.from_weak.now) = omega arith in
    columns_filled a.from_offsets.now a.from_labels.now a.from_weak.now a.offsets.now a.labels.now a.weak.now n-is c.room_for-room.ensures.room c.room_for-room.ensures.within
    c.settle.ensures c.copy.ensures c.copy-2.ensures c.copy-3.ensures
