-- `need_weak::most::plain_weak` meets its contract: none of the classes before has a weak slot. Assumes nothing.
use mathlib.Core.Path.{sym, ◌∙◌}
use lib.ListN.{length}
use Rattle.columns.proofs.Tests.{some_any, any_start, any_more}
use Rattle.need_weak.specs.Pairs.{plain_weak}
use Rattle.need_weak.proofs.most.plain_weak.Goals as goal

pub loop-class-init : goal.loop-class-init
loop-class-init c = (any_start _)

pub returns-then-class_weak : goal.returns-then-class_weak
returns-then-class_weak c = let a = c.args in
    sym (some_any (plain_weak a.class_kinds.now a.slot_starts.now a.slot_ends.now a.slot_weak.now) (length a.class_kinds.now) c.loop-class.class c.loop-class-test.true (sym c.class_weak.ensures ∙ c.if-class_weak.true))

pub loop-class-preserved : goal.loop-class-preserved
loop-class-preserved c = let a = c.args in
    (any_more (plain_weak a.class_kinds.now a.slot_starts.now a.slot_ends.now a.slot_weak.now) c.loop-class.class c.loop-class.invariant (sym c.class_weak.ensures ∙ c.if-class_weak.false))
