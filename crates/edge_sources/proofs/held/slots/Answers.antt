-- `edge_sources::held::slots` meets its contract: the first k slots stand inside and are appended, and the reader reads on as it did. Assumes nothing.
use mathlib.Core.Path.{refl, sym, ◌∙◌}
use native.Mathlib.Omega.{arith}
use Rattle.edge_append.proofs.Appending.{tab_none, tab_more}
use Rattle.edge_append.proofs.Bytes.{leading-next}
use Rattle.edge_sources.proofs.Inside.{slot-held, told_inside, held_room, held_stop, held_end}
use Rattle.edge_sources.proofs.held.slots.Goals as goal

pub loop-k-init : goal.loop-k-init
loop-k-init g c = record { ids = refl; insides = refl; on = λ j h. h; all = refl; appended = tab_none _ }

pub stands-requires : goal.stands-requires
stands-requires g c = c.loop-k.invariant.on _ (c.requires.can_read c.loop-k.k c.loop-k-test.true)

pub returns-then-not-stands : goal.returns-then-not-stands
returns-then-not-stands g c =
    let v = c.loop-k.invariant in
    held_stop _ _ c.loop-k.k v.all v.appended (told_inside c.loop-k.k v.insides c.stands.ensures c.if-not-stands.true) c.args.count (omega arith)

pub id-id-requires : goal.id-id-requires
id-id-requires g c = record {
  can = c.loop-k.invariant.on _ (c.requires.can_read c.loop-k.k c.loop-k-test.true);
  stands = sym c.stands.ensures ∙ c.if-not-stands.false;
}

pub append_slot-s-requires : goal.append_slot-s-requires
append_slot-s-requires g c =
    let a = c.args in
    let v = c.loop-k.invariant in
    let e = slot-held a.slot_labels.now a.slot_weak.now a.keeps a.first c.loop-k.k v.ids c.id-id.ensures.id in
    record {
      place_in_bounds = (omega arith, omega arith);
      edge_room = held_room _ _ c.loop-k.k v.all v.appended e (told_inside c.loop-k.k v.insides c.stands.ensures c.if-not-stands.false) a.count c.loop-k-test.true c.requires.edge_room;
    }

pub loop-k-preserved : goal.loop-k-preserved
loop-k-preserved g c =
    let a = c.args in
    let v = c.loop-k.invariant in
    let e = slot-held a.slot_labels.now a.slot_weak.now a.keeps a.first c.loop-k.k v.ids c.id-id.ensures.id in
    record {
      ids = c.id-id.ensures.ids ∙ v.ids;
      insides = c.id-id.ensures.insides ∙ v.insides;
      on = λ j h. c.id-id.ensures.on j (v.on j h);
      all = leading-next _ c.loop-k.k v.all (told_inside c.loop-k.k v.insides c.stands.ensures c.if-not-stands.false);
      appended = tab_more _ c.loop-k.k v.appended e c.append_slot-s.ensures;
    }

pub returns : goal.returns
returns g c = held_end _ _ c.loop-k.k c.loop-k.invariant.all c.loop-k.invariant.appended c.args.count (omega arith)
