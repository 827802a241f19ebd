-- `check_parts::ends::pair_fault` meets its contract: at each return the tests that led there say whether it is at fault. Assumes nothing.
use mathlib.Core.Path.{sym}
use Prim.Native.Nat.{◌≤◌, ◌<◌}
use borrow.Author.Tests.{le-leb, lt-leb}
use Rattle.columns.specs.Lists.{any_of}
use Rattle.check_parts.specs.Checks.{pair_fault}
use Rattle.check_parts.proofs.Faults.{pair-later, pair_earlier, pair_same}
use native.Mathlib.Omega.{arith}
use Rattle.check_parts.proofs.ends.pair_fault.Goals as goal

pub returns-then-objects-index : goal.returns-then-objects-index
unfolding pair_fault any_of
returns-then-objects-index c = let a = c.args in
    let far : a.objects ≤ a.a = omega arith in
    simp (le-leb _ _ far)

pub returns-then-objects-index-2 : goal.returns-then-objects-index-2
unfolding pair_fault any_of
returns-then-objects-index-2 c = let a = c.args in
    let near : a.a < a.objects = omega arith in
    let far : a.objects ≤ a.b = omega arith in
    simp (lt-leb _ _ near, le-leb _ _ far)

pub returns-then-a0-a : goal.returns-then-a0-a
returns-then-a0-a c = let a = c.args in
    sym (pair-later a.objects a.a0 a.b0 a.a a.b (omega arith) (omega arith) (omega arith))

pub returns-then-a-a0 : goal.returns-then-a-a0
returns-then-a-a0 c = let a = c.args in
    sym (pair_earlier a.objects a.a0 a.b0 a.a a.b (omega arith))

pub returns : goal.returns
returns c = let a = c.args in
    sym (pair_same a.objects a.a0 a.b0 a.a a.b (omega arith) (omega arith) (omega arith))
