-- `incoming_read::object::reads` meets its contract: by the span, the limits, the targets and the labels. Assumes nothing.
use Rattle.std.proofs.Common.{sym, ◌∙◌}
use Rattle.ask_span.proofs.Spans.{span_inside}
use Rattle.rules.proofs.Types.{read_refuses}
use Rattle.incoming_read.proofs.Readable.{read_many, read_far, read_out, read_walk, read_none}
use Rattle.incoming_read.proofs.object.reads.Goals as goal
use Rattle.incoming_read.proofs.object.reads.Goals.{then-object-ge67108864-via-then-object-ge67108864, then-object-ge67108864-via-else-object-ge67108864+then-at-gt268435456}

pub returns-in_default : goal.returns-in_default
returns-in_default c = read_none _ _ c.requires.escape_label_value c.requires.object_in_bounds c.in_default.ensures (read_refuses c.in_default.field-0)

pub returns-then-object-ge67108864 : goal.returns-then-object-ge67108864
returns-then-object-ge67108864 c =
    let r = c.requires in
    let at = sym c.in-Ok.ensures in
    elim c.then-object-ge67108864.branch [
      | then-object-ge67108864-via-then-object-ge67108864 w ↦ read_many _ _ r.escape_label_value r.object_in_bounds at w.if-object-ge67108864.true
      | then-object-ge67108864-via-else-object-ge67108864+then-at-gt268435456 w ↦
          read_far _ _ r.escape_label_value r.object_in_bounds at w.if-object-ge67108864.false w.if-at-gt268435456.true
    ]

pub targets_are_objects-requires : goal.targets_are_objects-requires
targets_are_objects-requires c = let i = span_inside _ _ _ _ (sym c.in-Ok.ensures) in (i.ordered, i.targeted)

pub labels_read-requires : goal.labels_read-requires
labels_read-requires c = let i = span_inside _ _ _ _ (sym c.in-Ok.ensures) in (i.ordered, i.coded)

pub returns-then-targets_are_objects : goal.returns-then-targets_are_objects
returns-then-targets_are_objects c =
    read_walk _ _ c.requires.escape_label_value c.requires.object_in_bounds (sym c.in-Ok.ensures) c.if-object-ge67108864.false c.if-at-gt268435456.false
    (sym c.targets_are_objects.ensures ∙ c.if-targets_are_objects.true) c.labels_read.ensures

pub returns-else-targets_are_objects : goal.returns-else-targets_are_objects
returns-else-targets_are_objects c =
    c.if-targets_are_objects.false
    ∙ read_out _ _ c.requires.escape_label_value c.requires.object_in_bounds (sym c.in-Ok.ensures) c.if-object-ge67108864.false c.if-at-gt268435456.false
    (sym c.targets_are_objects.ensures ∙ c.if-targets_are_objects.false)
