-- `edge_object::object::object_raw` meets its contract: the four parts, the account and the weak run, one after the other. Assumes nothing.
use Rattle.edge_append.specs.Object.{raw_parts}
use Rattle.edge_object.proofs.Whole.{room_slots, room_elements, room_statics, room_loaders, all_grow, settle_room, all_done, settled_as}
use Rattle.edge_object.proofs.object.object_raw.Goals as goal

pub object_slots-s1-requires : goal.object_slots-s1-requires
unfolding raw_parts
object_slots-s1-requires c = record { slots_in = c.requires.slots_in; slot_offsets_len = c.requires.slot_offsets_len; body_in = c.requires.body_in; edge_room = room_slots c.requires.fact }

pub object_elements-s2-requires : goal.object_elements-s2-requires
unfolding raw_parts
object_elements-s2-requires c = record { count_bound = c.requires.count_bound; edge_room = room_elements c.requires.fact c.object_slots-s1.ensures }

pub found_statics-s3-requires : goal.found_statics-s3-requires
unfolding raw_parts
found_statics-s3-requires c = record { statics_in = c.requires.statics_in; edge_room = room_statics c.requires.fact c.object_slots-s1.ensures c.object_elements-s2.ensures }

pub found_loader-s4-requires : goal.found_loader-s4-requires
unfolding raw_parts
found_loader-s4-requires c = record {
  mark_in_bounds = c.requires.mark_in_bounds;
  edge_room = room_loaders c.requires.fact c.object_slots-s1.ensures c.object_elements-s2.ensures
      c.found_statics-s3.ensures;
}

pub tally-requires : goal.tally-requires
unfolding raw_parts
tally-requires c = all_grow c.requires.fact c.object_slots-s1.ensures c.object_elements-s2.ensures c.found_statics-s3.ensures
    c.found_loader-s4.ensures

pub narrow-requires : goal.narrow-requires
narrow-requires c = c.requires.object_bound

pub close_run-requires : goal.close_run-requires
unfolding raw_parts
close_run-requires c = settle_room c.requires.fact c.object_slots-s1.ensures c.object_elements-s2.ensures c.found_statics-s3.ensures
    c.found_loader-s4.ensures

pub returns : goal.returns
unfolding raw_parts
returns c = all_done c.requires.fact c.object_slots-s1.ensures c.object_elements-s2.ensures c.found_statics-s3.ensures
    c.found_loader-s4.ensures c.tally.ensures (settled_as c.narrow.ensures c.close_run.ensures)
