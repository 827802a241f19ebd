-- `edge_sources::class::statics` meets its contract: the references of the first k statics are appended. Assumes nothing.
use Rattle.edge_append.specs.Held.{static_from}
use Rattle.edge_append.proofs.Appending.{appended_none, more_parts, room_part}
use borrow.Author.Rules.{rules}
use Rattle.edge_sources.proofs.class.statics.Goals as goal

pub loop-k-init : goal.loop-k-init
loop-k-init c = appended_none

pub append_static-s-requires : goal.append_static-s-requires
unfolding static_from
append_static-s-requires c = record {
  place_in_bounds = search rules;
  edge_room = room_part _ c.loop-k.k c.loop-k.invariant c.args.count c.loop-k-test.true c.requires.edge_room;
}

pub loop-k-preserved : goal.loop-k-preserved
unfolding static_from
loop-k-preserved c = more_parts _ c.loop-k.k c.loop-k.invariant c.append_static-s.ensures
