-- `index::code::judge` meets its contract: at each return the tests that led there say which case of `ids_coding_says` holds. Assumes nothing.
use Prim.Native.Nat.{◌≤◌, ◌<◌}
use native.Mathlib.Omega.{arith}
use borrow.Author.Tests.{lt-ltb, le-ltb}
use Rattle.index.specs.Copied.{ids_coding_says, escape_rows}
use Rattle.index.proofs.code.judge.Goals as goal

pub returns-then-nc-n : goal.returns-then-nc-n
unfolding ids_coding_says
returns-then-nc-n c = simp (lt-ltb _ _ c.if-nc-n.true)

pub returns-then-np-rows : goal.returns-then-np-rows
unfolding ids_coding_says
returns-then-np-rows c = let a = c.args in
    let full : a.np < escape_rows a.base a.ids.now = omega arith in
    simp (le-ltb _ _ c.if-nc-n.false, lt-ltb _ _ full)

pub returns-then-ni-rows : goal.returns-then-ni-rows
unfolding ids_coding_says
returns-then-ni-rows c = let a = c.args in
    let places : escape_rows a.base a.ids.now ≤ a.np = omega arith in
    let full : a.ni < escape_rows a.base a.ids.now = omega arith in
    simp (le-ltb _ _ c.if-nc-n.false, le-ltb _ _ places, lt-ltb _ _ full)

pub returns : goal.returns
unfolding ids_coding_says
returns c = let a = c.args in
    let places : escape_rows a.base a.ids.now ≤ a.np = omega arith in
    let escaped : escape_rows a.base a.ids.now ≤ a.ni = omega arith in
    simp (c.count_escapes-rows.ensures, le-ltb _ _ c.if-nc-n.false, le-ltb _ _ places, le-ltb _ _ escaped)
