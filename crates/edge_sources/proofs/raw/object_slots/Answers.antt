-- `edge_sources::raw::object_slots` meets its contract: the class's row says which slots. Assumes nothing.
use native.Mathlib.Omega.{arith}
use Rattle.edge_append.proofs.Bytes.{raw_none, raw_some}
use Rattle.edge_append.proofs.Appending.{appended_none}
use Rattle.edge_sources.proofs.Inside.{raw-read}
use Rattle.edge_sources.proofs.raw.object_slots.Goals as goal

pub returns-then-kind : goal.returns-then-kind
returns-then-kind c = let a = c.args in
    rw (← raw_none a.bytes.now a.size a.start a.body a.class_kinds.now a.slot_starts.now a.slot_ends.now a.slot_offsets.now a.slot_labels.now a.slot_weak.now a.policy a.kind a.class c.if-kind.true) appended_none

pub slots-requires : goal.slots-requires
slots-requires c = let a = c.args in
    let f = c.requires.slots_in in
    let z = c.if-kind.false in
    let e = c.index-first.ensures in
    let g = c.index.ensures in record {
      count_in_bounds = (omega (arith, e, g, f.ordered z, f.labels_in z), omega (arith, e, g, f.ordered z, f.weak_in z));
      can_read = λ k l. (omega (arith, e, g, f.ordered z, f.labels_in z, c.requires.slot_offsets_len), c.requires.body_in z);
      edge_room = rw (
        ← raw-read a.bytes.now a.size a.start a.body a.slot_offsets.now a.slot_labels.now a.slot_weak.now _ _ _,
        raw_some a.bytes.now a.size a.start a.body a.class_kinds.now a.slot_starts.now a.slot_ends.now a.slot_offsets.now
            a.slot_labels.now a.slot_weak.now a.policy a.kind a.class c.if-kind.false c.keeps-keeps.ensures c.index-first.ensures
            c.index.ensures,
      ) c.requires.edge_room;
    }

pub returns : goal.returns
returns c = let a = c.args in
    rw (
      ← raw_some a.bytes.now a.size a.start a.body a.class_kinds.now a.slot_starts.now a.slot_ends.now a.slot_offsets.now a.slot_labels.now
          a.slot_weak.now a.policy a.kind a.class c.if-kind.false c.keeps-keeps.ensures c.index-first.ensures c.index.ensures,
      raw-read a.bytes.now a.size a.start a.body a.slot_offsets.now a.slot_labels.now a.slot_weak.now _ _ _,
    ) c.slots.ensures
