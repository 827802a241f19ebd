-- `need_weak::copied::object` meets its contract: the class's row says which slots. Assumes nothing.
use mathlib.Core.Path.{◌∙◌}
use Rattle.index.specs.Copied.{ids_of}
use Rattle.need_weak.proofs.Counting.{copied_none, copied-kept, copied_some}
use native.Mathlib.Omega.{arith}
use Rattle.need_weak.proofs.copied.object.Goals as goal

pub returns-then-kind : goal.returns-then-kind
returns-then-kind c = let a = c.args in record {
  is = copied_none a.ids.now (ids_of a.codes.now a.escape_places.now a.escape_ids.now a.base) a.start a.class_kinds.now
      a.slot_starts.now a.slot_ends.now a.slot_weak.now a.policy a.kind a.class c.if-kind.true;
  few = omega arith;
}

pub returns-then-keeps : goal.returns-then-keeps
returns-then-keeps c = let a = c.args in record {
  is = copied-kept a.ids.now (ids_of a.codes.now a.escape_places.now a.escape_ids.now a.base) a.start a.class_kinds.now
      a.slot_starts.now a.slot_ends.now a.slot_weak.now a.policy a.kind a.class c.keeps.ensures c.if-keeps.true;
  few = omega arith;
}

pub returns : goal.returns
returns c = let a = c.args in
    let f = c.requires.1 in
    let z = c.if-kind.false in
    record {
      is = c.slots.ensures.is ∙ copied_some a.ids.now (ids_of a.codes.now a.escape_places.now a.escape_ids.now a.base) a.start a.class_kinds.now
          a.slot_starts.now a.slot_ends.now a.slot_weak.now a.policy a.kind a.class z c.keeps.ensures c.if-keeps.false c.index-first.ensures
          c.index.ensures;
      few = omega (arith, c.slots.ensures.few, c.index-first.ensures, c.index.ensures, f.ordered z, f.weak_in z);
    }
