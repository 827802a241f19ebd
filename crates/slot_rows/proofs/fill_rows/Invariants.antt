-- Each column is filled by the first i rows. Assumes nothing.
use mathlib.Core.List.{map}
use lib.ListN.{take}
use Rattle.columns.proofs.Written.{Written}
use Rattle.slot_rows.specs.Rows.{row_offset, row_label, row_weak}
use Rattle.slot_rows.proofs.fill_rows.Given as goal

abbrev pub invariant-loop-i : goal.invariant-loop-i
invariant-loop-i l = record {
  offsets : Written (map row_offset (take l.i l.rows)) l.initial.offsets l.offsets l.i;
  labels : Written (map row_label (take l.i l.rows)) l.initial.labels l.labels l.i;
  weak : Written (map row_weak (take l.i l.rows)) l.initial.weak l.weak l.i;
}
