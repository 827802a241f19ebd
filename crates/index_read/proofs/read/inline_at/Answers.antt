-- `index_read::read::inline_at` meets its contract: a sum that passes 64 bits is refused before it is made. Assumes nothing.
use mathlib.Core.Path.{◌≡◌}
use Prim.Native.Nat.{◌+◌, ◌-◌, ◌*◌, ◌^◌, ◌≤◌}
use native.Mathlib.Omega.{arith}
use borrow.Author.Tests.{ne_eqb, le-leb}
use Rattle.columns.specs.Lists.{any_of}
use Rattle.index_read.specs.Back.{whole}
use Rattle.index_read.proofs.read.inline_at.Goals as goal

pub returns-in_default : goal.returns-in_default
unfolding whole any_of
returns-in_default c = let a = c.args in
    let over : 2 ^ 64 ≤ a.base + 8 * (a.code - 1) = omega arith in
    let some : a.base + 8 * (a.code - 1) ≡ 0 → ⊥ = λ e. omega arith in
    simp (ne_eqb _ _ some, le-leb _ _ over)
