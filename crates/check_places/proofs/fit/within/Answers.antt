-- `check_places::fit::within` meets its contract: the codes and the classes, summed. Assumes nothing.
use native.Mathlib.Omega.{arith}
use Rattle.check_places.proofs.Bound.{most_within}
use Rattle.check_places.proofs.fit.within.Goals as goal

pub returns-then-most-room : goal.returns-then-most-room
returns-then-most-room c = λ e. let a = c.args in
    most_within a.ids.now a.kinds.now a.classes.now a.lengths.now a.class_ids.now a.loaders.now a.dumped.now a.slot_starts.now a.slot_ends.now
    a.static_starts.now a.static_ends.now a.static_types.now a.static_values.now a.codes.now a.starts.now c.count_classes-most.ensures.value
    c.requires.held_value (c.in_order.ensures e) (omega arith)
