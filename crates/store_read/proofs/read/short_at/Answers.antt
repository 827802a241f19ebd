-- `store_read::read::short_at` meets its contract: at each return the tests that led there say which case of `short_back` holds. Assumes nothing.
use native.Mathlib.Omega.{arith}
use Prim.Native.Nat.{◌+◌, ◌/◌, ◌^◌, ◌≤◌, ◌<◌}
use lib.ListN.{get_or}
use borrow.Author.Tests.{lt-ltb, le-ltb}
use Rattle.store_read.specs.Back.{short_back}
use Rattle.store_read.proofs.read.short_at.Goals as goal

pub returns-then-bases-b : goal.returns-then-bases-b
unfolding short_back
returns-then-bases-b c = simp (le-ltb _ _ c.if-bases-b.true)

pub overflow_sub-base : goal.overflow_sub-base
overflow_sub-base c = omega (arith, c.shared_slice_known-1.given (c.args.i / 256))

pub returns-then-base-d : goal.returns-then-base-d
unfolding short_back
returns-then-base-d c = let a = c.args in
    let l : 2 ^ 64 ≤ get_or a.bases.now (a.i / 256) 0 + a.s = omega arith in
    simp (lt-ltb _ _ c.if-bases-b.false, le-ltb _ _ l)

pub overflow_add-result : goal.overflow_add-result
overflow_add-result c = omega (arith, c.shared_slice_known-1.given (c.args.i / 256))

pub returns : goal.returns
unfolding short_back
returns c = let a = c.args in
    let l : get_or a.bases.now (a.i / 256) 0 + a.s < 2 ^ 64 = omega (arith, c.shared_slice_known-1.given (a.i / 256)) in
    simp (lt-ltb _ _ c.if-bases-b.false, lt-ltb _ _ l)
