-- `label_codes::code_objects` meets its contract: the codes of the first o objects are written, up to where the next one's begin. Assumes nothing.
use mathlib.Core.Path.{◌∙◌}
use Prim.Native.Nat.{◌+◌}
use native.Mathlib.Omega.{arith}
use Rattle.columns.specs.Lists.{◌!◌, part}
use Rattle.columns.proofs.Sums.{part_length_lem}
use Rattle.columns.proofs.Written.{written_none}
use Rattle.columns.proofs.Parts.{written_part}
use Rattle.labels.specs.Coding.{codes_by, all_by}
use Rattle.labels.proofs.Coded.{codes-length, laid_next, all_more}
use Rattle.label_codes.proofs.code_objects.Goals as goal

pub loop-o-init : goal.loop-o-init
unfolding all_by
loop-o-init c = rw c.requires.1.starts (written_none c.args.edge_codes.now)

pub offset_bounds-labels-from : goal.offset_bounds-labels-from
offset_bounds-labels-from c = omega (arith, laid_next c.requires.1 c.loop-o.o c.loop-o-test.true)

pub slice_bounds-code_object-end : goal.slice_bounds-code_object-end
slice_bounds-code_object-end c = omega (arith, laid_next c.requires.1 c.loop-o.o c.loop-o-test.true)

pub offset_bounds-edge_codes-from : goal.offset_bounds-edge_codes-from
offset_bounds-edge_codes-from c = omega (arith, laid_next c.requires.1 c.loop-o.o c.loop-o-test.true)

pub slice_bounds-code_object-end-in-loop-o : goal.slice_bounds-code_object-end-in-loop-o
slice_bounds-code_object-end-in-loop-o c = omega (arith, laid_next c.requires.1 c.loop-o.o c.loop-o-test.true)

pub loop-o-preserved : goal.loop-o-preserved
loop-o-preserved c = let a = c.args in
    let o = c.loop-o.o in
    let offsets = a.offsets.now in
    let ls = part a.labels.now (offsets ! o) (offsets ! (o + 1)) in
    let n = laid_next c.requires.1 o c.loop-o-test.true in
    let e = codes-length a.names a.table.now ls ∙ part_length_lem a.labels.now (offsets ! o) (offsets ! (o + 1)) n.1 in
    rw (all_more a.names a.table.now offsets a.labels.now o)
    (written_part (codes_by a.names a.table.now ls) (offsets ! (o + 1)) c.loop-o.invariant n.0 (omega arith) e c.code_object.ensures)
