-- `need_weak::raw::object` meets its contract: the class's row says which slots. Assumes nothing.
use mathlib.Core.Path.{◌∙◌}
use Rattle.need_weak.proofs.Counting.{raw_no_pairs, raw-kept, raw-pairs}
use native.Mathlib.Omega.{arith}
use Rattle.need_weak.proofs.raw.object.Goals as goal

pub returns-then-kind : goal.returns-then-kind
returns-then-kind c = let a = c.args in record {
  is = raw_no_pairs a.ids.now a.bytes.now a.size a.start a.body a.class_kinds.now a.slot_starts.now a.slot_ends.now
      a.slot_offsets.now a.slot_weak.now a.policy a.kind a.class c.if-kind.true;
  few = omega arith;
}

pub returns-then-keeps : goal.returns-then-keeps
returns-then-keeps c = let a = c.args in record {
  is = raw-kept a.ids.now a.bytes.now a.size a.start a.body a.class_kinds.now a.slot_starts.now a.slot_ends.now
      a.slot_offsets.now a.slot_weak.now a.policy a.kind a.class c.keeps.ensures c.if-keeps.true;
  few = omega arith;
}

pub returns : goal.returns
returns c = let a = c.args in
    let f = c.requires.rises.1 in
    let z = c.if-kind.false in
    record {
      is = c.slots.ensures.is ∙ raw-pairs a.ids.now a.bytes.now a.size a.start a.body a.class_kinds.now a.slot_starts.now a.slot_ends.now
          a.slot_offsets.now a.slot_weak.now a.policy a.kind a.class z c.keeps.ensures c.if-keeps.false c.index-first.ensures
          c.index.ensures;
      few = omega (arith, c.slots.ensures.few, c.index-first.ensures, c.index.ensures, f.ordered z, f.weak_in z);
    }
