-- `need_weak::copied::count_weak_copied` meets its contract: n is the number of pairs of the first o objects. Assumes nothing.
use mathlib.Core.Path.{refl}
use Rattle.index.specs.Copied.{ids_of}
use Rattle.need_weak.specs.Pairs.{copied_total}
use Rattle.need_weak.proofs.Counting.{copied_more}
use native.Mathlib.Omega.{arith}
use borrow.Author.Rules.{rules}
use Rattle.need_weak.proofs.copied.count_weak_copied.Goals as goal

pub loop-o-init : goal.loop-o-init
unfolding copied_total
loop-o-init c = (search rules, refl)

pub loop-o-preserved : goal.loop-o-preserved
loop-o-preserved c = let a = c.args in
    let w = c.loop-o.invariant in (
      omega (arith, w.0, c.object-n.ensures.few, c.requires.objects_in.1),
      copied_more a.ids.now a.kinds.now a.classes.now a.starts.now
          (ids_of a.codes.now a.escape_places.now a.escape_ids.now a.base) a.class_kinds.now a.slot_starts.now a.slot_ends.now a.slot_weak.now a.policy
          c.loop-o.o w.1 c.index.ensures c.index-in-loop-o.ensures c.object-n.ensures.is,
    )
