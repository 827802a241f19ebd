-- `label_fields::fields::mark_named` meets its contract: the labels and names of the first c classes are marked. Assumes nothing.
use mathlib.Core.Path.{refl}
use Prim.Native.Nat.{◌-◌}
use Rattle.columns.specs.Lists.{◌!◌}
use Rattle.labels.specs.Fields.{slots_named, statics_named, naming, named_by}
use Rattle.label_fields.proofs.Marks.{marking_none, marking_more, named_more}
use Rattle.label_fields.proofs.fields.mark_named.Goals as goal

pub loop-c-init : goal.loop-c-init
unfolding named_by
loop-c-init c = marking_none _ _

pub loop-c-preserved : goal.loop-c-preserved
loop-c-preserved c = let a = c.args in
    let k = c.loop-c.c in
    let s = naming a.slot_starts.now a.slot_ends.now a.static_starts.now a.static_ends.now a.slot_labels.now a.static_names.now a.static_types.now in
    let xs = slots_named s.labels (s.slot_start ! k) (s.slot_end ! k - s.slot_start ! k) in
    let ys = statics_named s.names s.types (s.static_start ! k) (s.static_end ! k - s.static_start ! k) in
    let first = rw (c.index-from.ensures, c.index-to.ensures) at c.mark_slots.ensures in
    let second = rw (c.index-first.ensures, c.index-last.ensures) at c.mark_statics.ensures in
    marking_more ys (marking_more xs c.loop-c.invariant refl first) (named_more s k) second
