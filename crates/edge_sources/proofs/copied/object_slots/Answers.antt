-- `edge_sources::copied::object_slots` meets its contract: the class's row says which slots. Assumes nothing.
use native.Mathlib.Omega.{arith}
use Rattle.index.specs.Copied.{ids_of}
use Rattle.edge_append.proofs.Reading.{slots_none, slots_some}
use Rattle.edge_append.proofs.Appending.{appended_none}
use Rattle.edge_sources.proofs.Inside.{copied-read}
use Rattle.edge_sources.proofs.copied.object_slots.Goals as goal

pub returns-then-kind : goal.returns-then-kind
returns-then-kind c = let a = c.args in
    rw (← slots_none (ids_of a.codes.now a.escape_places.now a.escape_ids.now a.base) a.start a.class_kinds.now a.slot_starts.now a.slot_ends.now a.slot_labels.now a.slot_weak.now a.policy a.kind a.class c.if-kind.true) appended_none

pub slots-requires : goal.slots-requires
slots-requires c = let a = c.args in
    let f = c.requires.slots_in in
    let z = c.if-kind.false in
    let e = c.index-first.ensures in
    let g = c.index.ensures in record {
      count_in_bounds = (omega (arith, e, g, f.ordered z, f.labels_in z), omega (arith, e, g, f.ordered z, f.weak_in z));
      can_read = λ k l. (c.requires.rises, omega (arith, e, g, f.held z));
      edge_room = rw (
        ← copied-read (ids_of a.codes.now a.escape_places.now a.escape_ids.now a.base) a.start a.slot_labels.now a.slot_weak.now _ _ _,
        slots_some (ids_of a.codes.now a.escape_places.now a.escape_ids.now a.base) a.start a.class_kinds.now a.slot_starts.now a.slot_ends.now
            a.slot_labels.now a.slot_weak.now a.policy a.kind a.class c.if-kind.false c.keeps-keeps.ensures c.index-first.ensures
            c.index.ensures,
      ) c.requires.edge_room;
    }

pub returns : goal.returns
returns c = let a = c.args in
    rw (
      ← slots_some (ids_of a.codes.now a.escape_places.now a.escape_ids.now a.base) a.start a.class_kinds.now a.slot_starts.now a.slot_ends.now
          a.slot_labels.now a.slot_weak.now a.policy a.kind a.class c.if-kind.false c.keeps-keeps.ensures c.index-first.ensures
          c.index.ensures,
      copied-read (ids_of a.codes.now a.escape_places.now a.escape_ids.now a.base) a.start a.slot_labels.now a.slot_weak.now _ _ _,
    ) c.slots.ensures
