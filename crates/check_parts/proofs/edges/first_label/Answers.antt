-- `check_parts::edges::first_label` meets its contract: the labels of the first o objects are without fault. Assumes nothing.
use Prim.Native.Nat.{◌+◌, ◌≤◌}
use native.Mathlib.Numerals.{add-one}
use lib.ListN.{length}
use Rattle.columns.specs.Lists.{◌!◌}
use Rattle.labels.proofs.Coded.{laid_within}
use Rattle.check_parts.proofs.Faults.{labelled_none, labelled_more, labelled-hit, labelled_all}
use native.Mathlib.Omega.{arith}
use Rattle.check_parts.proofs.edges.first_label.Goals as goal

pub loop-o-init : goal.loop-o-init
loop-o-init c = labelled_none _ _ _

pub offset_bounds-labels-from : goal.offset_bounds-labels-from
offset_bounds-labels-from c =
    let within : let a = c.args in let o = c.loop-o.o in (a.offsets.now ! o ≤ a.offsets.now ! (o + 1)) × (a.offsets.now ! (o + 1) ≤ length a.labels.now) =
    rw (add-one c.loop-o.o) (laid_within c.requires c.loop-o.o (omega arith)) in
    omega (arith, within)

pub slice_bounds-first_in_object-count : goal.slice_bounds-first_in_object-count
slice_bounds-first_in_object-count c =
    let within : let a = c.args in let o = c.loop-o.o in (a.offsets.now ! o ≤ a.offsets.now ! (o + 1)) × (a.offsets.now ! (o + 1) ≤ length a.labels.now) =
    rw (add-one c.loop-o.o) (laid_within c.requires c.loop-o.o (omega arith)) in
    omega (arith, within)

pub slice_bounds-first_in_object-start : goal.slice_bounds-first_in_object-start
slice_bounds-first_in_object-start c =
    let within : let a = c.args in let o = c.loop-o.o in (a.offsets.now ! o ≤ a.offsets.now ! (o + 1)) × (a.offsets.now ! (o + 1) ≤ length a.labels.now) =
    rw (add-one c.loop-o.o) (laid_within c.requires c.loop-o.o (omega arith)) in
    omega (arith, within)

pub slice_bounds-first_in_object-end : goal.slice_bounds-first_in_object-end
slice_bounds-first_in_object-end c =
    let within : let a = c.args in let o = c.loop-o.o in (a.offsets.now ! o ≤ a.offsets.now ! (o + 1)) × (a.offsets.now ! (o + 1) ≤ length a.labels.now) =
    rw (add-one c.loop-o.o) (laid_within c.requires c.loop-o.o (omega arith)) in
    omega (arith, within)

pub overflow_sub-to : goal.overflow_sub-to
overflow_sub-to c =
    let within : let a = c.args in let o = c.loop-o.o in (a.offsets.now ! o ≤ a.offsets.now ! (o + 1)) × (a.offsets.now ! (o + 1) ≤ length a.labels.now) =
    rw (add-one c.loop-o.o) (laid_within c.requires c.loop-o.o (omega arith)) in
    omega (arith, within)

pub overflow_add-result : goal.overflow_add-result
overflow_add-result c =
    let within : let a = c.args in let o = c.loop-o.o in (a.offsets.now ! o ≤ a.offsets.now ! (o + 1)) × (a.offsets.now ! (o + 1) ≤ length a.labels.now) =
    rw (add-one c.loop-o.o) (laid_within c.requires c.loop-o.o (omega arith)) in
    omega (arith, within)

pub returns-then-k-to : goal.returns-then-k-to
returns-then-k-to c = let a = c.args in labelled-hit a.names a.offsets.now a.labels.now c.requires c.loop-o.invariant (omega arith) c.first_in_object-k.ensures c.if-k-to.true

pub loop-o-preserved : goal.loop-o-preserved
loop-o-preserved c = let a = c.args in labelled_more a.names a.offsets.now a.labels.now c.requires c.loop-o.invariant (omega arith) c.first_in_object-k.ensures
    c.if-k-to.false

pub returns : goal.returns
returns c = let a = c.args in labelled_all a.names a.offsets.now a.labels.now c.loop-o.invariant (omega arith)
