-- `need_weak::raw::count_weak_raw` meets its contract: n is the number of pairs of the first o objects. Assumes nothing.
use mathlib.Core.Path.{refl}
use Rattle.need_weak.specs.Pairs.{raw_total}
use Rattle.need_weak.proofs.Counting.{raw_more}
use native.Mathlib.Omega.{arith}
use borrow.Author.Rules.{rules}
use Rattle.need_weak.proofs.raw.count_weak_raw.Goals as goal

pub loop-o-init : goal.loop-o-init
unfolding raw_total
loop-o-init c = (search rules, refl)

pub loop-o-preserved : goal.loop-o-preserved
loop-o-preserved c = let a = c.args in
    let w = c.loop-o.invariant in (
      omega (arith, w.0, c.object-n.ensures.few, c.requires.objects_in.2),
      raw_more a.ids.now a.kinds.now a.classes.now a.starts.now a.bodies.now
          a.bytes.now a.size a.class_kinds.now a.slot_starts.now a.slot_ends.now a.slot_offsets.now a.slot_weak.now a.policy c.loop-o.o w.1
          c.index.ensures c.index-in-loop-o.ensures c.object-n.ensures.is,
    )
