-- `edge_append::append::append_slot` meets its contract: the flag read decides whether the slot is kept. Assumes nothing.
use Rattle.edge_append.proofs.Reading.{slot_read}
use Rattle.edge_append.proofs.append.append_slot.Goals as goal

pub append-requires : goal.append-requires
append-requires c = let a = c.args in
    rw (slot_read a.slot_labels.now a.slot_weak.now a.keeps a.place a.id c.is_kept-kept.ensures) c.requires.edge_room

pub returns : goal.returns
returns c = let a = c.args in
    rw (← slot_read a.slot_labels.now a.slot_weak.now a.keeps a.place a.id c.is_kept-kept.ensures) c.append.ensures
