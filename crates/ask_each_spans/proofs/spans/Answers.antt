-- `ask_each_spans::spans` meets its contract: the spans below i are told, and one that leaves a doubt is left out. Assumes nothing.
use Rattle.std.proofs.Common.{arith}
use Rattle.columns.specs.Lists.{◌!◌}
use Rattle.ask_each_spans.proofs.Offsets.{few_told, told_none, telling_start, telling_more, telling_skip, telling_end}
use Rattle.ask_each_spans.proofs.spans.Goals as goal

pub loop-i-init : goal.loop-i-init
loop-i-init c = telling_start _ _ _ _ (omega arith) (told_none _ _ _ _ _ _)

-- a doubt
pub loop-i-preserved-in_default : goal.loop-i-preserved-in_default
loop-i-preserved-in_default c = telling_skip _ _ _ _ c.loop-i.invariant c.loop-i-test.true c.requires.1

pub loop-i-preserved : goal.loop-i-preserved
loop-i-preserved c = let a = c.args in
    rw c.from.ensures
    (telling_more _ _ _ _ c.loop-i.invariant _ _ c.loop-i-test.true c.requires.0 c.requires.1
    (few_told a.bases.now a.short.now a.limit (a.objects.now ! c.loop-i.i) c.in-Some.ensures.1 c.requires.2))

pub returns : goal.returns
returns c = telling_end _ _ _ _ c.loop-i.invariant c.loop-i-test.false
