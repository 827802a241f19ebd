-- `store::code::judge` meets its contract: at each return the tests that led there say which case of `coding_says` holds. Assumes nothing.
use borrow.Author.Tests.{lt-ltb, le-ltb}
use Rattle.store.specs.Blocked.{coding_says, first_low, blocks_of, long_at_to}
use Prim.Native.Nat.{◌≤◌, ◌<◌}
use lib.ListN.{length}
use native.Mathlib.Omega.{arith}
use Rattle.store.proofs.code.judge.Goals as goal

pub returns-then-n-gt67108865 : goal.returns-then-n-gt67108865
unfolding coding_says
returns-then-n-gt67108865 c = let a = c.args in
    let vs = a.values.now in
    let many : 67108865 < length vs = omega arith in
    simp (lt-ltb _ _ many)

pub returns-then-low-n : goal.returns-then-low-n
unfolding coding_says
returns-then-low-n c = let a = c.args in
    let vs = a.values.now in
    let few : length vs ≤ 67108865 = omega arith in
    let low : first_low vs < length vs = omega arith in
    simp (c.first_low-low.ensures, le-ltb _ _ few, lt-ltb _ _ low)

pub returns-then-nb-blocks : goal.returns-then-nb-blocks
unfolding coding_says
returns-then-nb-blocks c = let a = c.args in
    let vs = a.values.now in
    let few : length vs ≤ 67108865 = omega arith in
    let risen : length vs ≤ first_low vs = omega arith in
    let full : a.nb < blocks_of (length vs) = omega arith in
    simp (le-ltb _ _ few, le-ltb _ _ risen, lt-ltb _ _ full)

pub returns-then-ns-n : goal.returns-then-ns-n
unfolding coding_says
returns-then-ns-n c = let a = c.args in
    let vs = a.values.now in
    let few : length vs ≤ 67108865 = omega arith in
    let risen : length vs ≤ first_low vs = omega arith in
    let bases : blocks_of (length vs) ≤ a.nb = omega arith in
    let full : a.ns < length vs = omega arith in
    simp (le-ltb _ _ few, le-ltb _ _ risen, le-ltb _ _ bases, lt-ltb _ _ full)

pub returns-then-na-rows : goal.returns-then-na-rows
unfolding coding_says
returns-then-na-rows c = let a = c.args in
    let vs = a.values.now in
    let few : length vs ≤ 67108865 = omega arith in
    let risen : length vs ≤ first_low vs = omega arith in
    let bases : blocks_of (length vs) ≤ a.nb = omega arith in
    let short : length vs ≤ a.ns = omega arith in
    let full : a.na < length (long_at_to vs (length vs)) = omega arith in
    simp (le-ltb _ _ few, le-ltb _ _ risen, le-ltb _ _ bases, le-ltb _ _ short, lt-ltb _ _ full)

pub returns-then-nv-rows : goal.returns-then-nv-rows
unfolding coding_says
returns-then-nv-rows c = let a = c.args in
    let vs = a.values.now in
    let few : length vs ≤ 67108865 = omega arith in
    let risen : length vs ≤ first_low vs = omega arith in
    let bases : blocks_of (length vs) ≤ a.nb = omega arith in
    let short : length vs ≤ a.ns = omega arith in
    let rows : length (long_at_to vs (length vs)) ≤ a.na = omega arith in
    let full : a.nv < length (long_at_to vs (length vs)) = omega arith in
    simp (le-ltb _ _ few, le-ltb _ _ risen, le-ltb _ _ bases, le-ltb _ _ short, le-ltb _ _ rows, lt-ltb _ _ full)

pub returns : goal.returns
unfolding coding_says
returns c = let a = c.args in
    let vs = a.values.now in
    let few : length vs ≤ 67108865 = omega arith in
    let risen : length vs ≤ first_low vs = omega arith in
    let bases : blocks_of (length vs) ≤ a.nb = omega arith in
    let short : length vs ≤ a.ns = omega arith in
    let rows : length (long_at_to vs (length vs)) ≤ a.na = omega arith in
    let values : length (long_at_to vs (length vs)) ≤ a.nv = omega arith in
    simp (c.count_long-rows.ensures, le-ltb _ _ few, le-ltb _ _ risen, le-ltb _ _ bases, le-ltb _ _ short, le-ltb _ _ rows, le-ltb _ _ values)
