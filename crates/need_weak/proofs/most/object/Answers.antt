-- `need_weak::most::object` meets its contract: the class's row says which slots. Assumes nothing.
use mathlib.Core.Path.{◌∙◌}
use Rattle.need_weak.proofs.Bound.{most_none, most_plain, most_kept, most_some}
use native.Mathlib.Omega.{arith}
use Rattle.need_weak.proofs.most.object.Goals as goal

pub returns-then-kind : goal.returns-then-kind
returns-then-kind c = let a = c.args in record { is = most_none a.class_kinds.now a.slot_starts.now a.slot_ends.now a.slot_weak.now a.policy a.kind a.class c.if-kind.true; few = omega arith }

pub returns-then-is_plain : goal.returns-then-is_plain
returns-then-is_plain c = let a = c.args in record {
  is = most_plain a.class_kinds.now a.slot_starts.now a.slot_ends.now a.slot_weak.now a.policy a.kind a.class c.requires.mixed_value
      (c.requires.slots_in.kind_in c.if-kind.false) c.is_plain.ensures c.if-is_plain.true;
  few = omega arith;
}

pub returns-then-keeps : goal.returns-then-keeps
returns-then-keeps c = let a = c.args in record {
  is = most_kept a.class_kinds.now a.slot_starts.now a.slot_ends.now a.slot_weak.now a.policy a.kind a.class
      c.keeps.ensures c.if-keeps.true;
  few = omega arith;
}

pub returns : goal.returns
returns c = let a = c.args in
    let f = c.requires.slots_in in
    let z = c.if-kind.false in
    record {
      is = c.slots.ensures.is ∙ most_some a.class_kinds.now a.slot_starts.now a.slot_ends.now a.slot_weak.now a.policy a.kind a.class z
          c.keeps.ensures c.if-keeps.false c.index-first.ensures c.index.ensures;
      few = omega (arith, c.slots.ensures.few, c.index-first.ensures, c.index.ensures, f.ordered z, f.weak_in z);
    }
