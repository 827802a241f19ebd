-- `check_parts::offsets::first_fall` meets its contract: no offset before i is below the one before it. Assumes nothing.
use mathlib.Core.Path.{◌≡◌, sym, ap, ◌∙◌}
use Prim.Native.Nat.{ℕ, pred, ◌-◌}
use borrow.Author.Tests.{lt-ltb, le-ltb}
use lib.Dec.{ltb}
use Rattle.columns.specs.Lists.{◌!◌}
use Rattle.columns.proofs.First.{searching_more, searching_hit, searching_end}
use Rattle.check_parts.proofs.Faults.{falls_start}
use lib.ListN.{length}
use native.Mathlib.Omega.{arith}
use Rattle.check_parts.proofs.offsets.first_fall.Goals as goal

pub loop-i-init : goal.loop-i-init
loop-i-init c = falls_start c.args.offsets.now c.requires

pub returns-then-offsets-i : goal.returns-then-offsets-i
returns-then-offsets-i c = let a = c.args in
    let e : c.loop-i.i - 1 ≡ pred c.loop-i.i = omega arith in
    searching_hit _ _ c.loop-i.invariant (omega arith) (ap (λ (j : ℕ). ltb (a.offsets.now ! c.loop-i.i) (a.offsets.now ! j)) (sym e) ∙ lt-ltb _ _ c.if-offsets-i.true)

pub loop-i-preserved : goal.loop-i-preserved
loop-i-preserved c = let a = c.args in
    let e : c.loop-i.i - 1 ≡ pred c.loop-i.i = omega arith in
    searching_more _ _ c.loop-i.invariant (omega arith) (ap (λ (j : ℕ). ltb (a.offsets.now ! c.loop-i.i) (a.offsets.now ! j)) (sym e) ∙ le-ltb _ _ c.if-offsets-i.false)

pub returns : goal.returns
returns c = let all : c.loop-i.i ≡ length c.args.offsets.now = omega arith in sym all ∙ searching_end _ _ c.loop-i.invariant (omega arith)
