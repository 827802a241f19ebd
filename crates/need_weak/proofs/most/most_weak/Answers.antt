-- `need_weak::most::most_weak` meets its contract: n is that of the first o objects. Assumes nothing.
use mathlib.Core.Path.{refl}
use Rattle.need_weak.specs.Pairs.{most_weak}
use Rattle.need_weak.proofs.Bound.{most_more}
use native.Mathlib.Omega.{arith}
use borrow.Author.Rules.{rules}
use Rattle.need_weak.proofs.most.most_weak.Goals as goal

pub loop-o-init : goal.loop-o-init
unfolding most_weak
loop-o-init c = (search rules, refl)

pub loop-o-preserved : goal.loop-o-preserved
loop-o-preserved c = let a = c.args in
    let w = c.loop-o.invariant in (
      omega (arith, w.0, c.object-n.ensures.few, c.requires.kinds_len_bound.2),
      most_more a.kinds.now a.classes.now a.class_kinds.now a.slot_starts.now
          a.slot_ends.now a.slot_weak.now a.policy c.loop-o.o w.1 c.index.ensures c.object-n.ensures.is,
    )
