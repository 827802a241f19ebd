-- `labels::code::slot_of` meets its contract: by the two tests. Assumes nothing.
use Prim.Native.Nat.{◌≤◌, ◌<◌}
use native.Mathlib.Omega.{arith}
use borrow.Author.Tests.{eq-eqb, ne_eqb, lt-ltb, le-ltb}
use Rattle.labels.specs.Coding.{table_place}
use Rattle.labels.proofs.code.slot_of.Goals as goal

pub returns-then-label-eq-LOADER : goal.returns-then-label-eq-LOADER
unfolding table_place
returns-then-label-eq-LOADER c = simp (eq-eqb _ _ c.if-label-eq-LOADER.true)

pub returns-then-at-names : goal.returns-then-at-names
unfolding table_place
returns-then-at-names c = let a = c.args in
    let l : a.label < a.names = omega arith in
    simp (ne_eqb _ _ c.if-label-eq-LOADER.false, lt-ltb _ _ l) c.index-at.ensures

pub returns : goal.returns
unfolding table_place
returns c = let a = c.args in
    let l : a.names ≤ a.label = omega arith in
    simp (ne_eqb _ _ c.if-label-eq-LOADER.false, le-ltb _ _ l)
