-- `ask_weak::weak_referents` meets its contract: INDEX first, then the two bisections. Assumes nothing.
use Prim.Native.Nat.{◌-◌, ◌≤◌, ◌<◌}
use native.Mathlib.Omega.{arith}
use borrow.Author.Tests.{lt-ltb, le-ltb, le-leb, lt-leb}
use lib.ListN.{length}
use Rattle.columns.specs.Lists.{all_of}
use Rattle.ask_weak.specs.Rows.{weak_rows_of}
use Rattle.ask_weak.proofs.weak_referents.Goals as goal

pub returns-then-short-object : goal.returns-then-short-object
unfolding weak_rows_of
returns-then-short-object c = let none : length c.args.short.now - 1 ≤ c.args.object = omega arith in
    simp (le-ltb _ _ none)

pub returns-then-short-object-lt2 : goal.returns-then-short-object-lt2
unfolding weak_rows_of
returns-then-short-object-lt2 c = let none : length c.args.short.now - 1 ≤ c.args.object = omega arith in
    simp (le-ltb _ _ none)

pub returns-then-end-start : goal.returns-then-end-start
unfolding weak_rows_of all_of
returns-then-end-start c = let some : c.args.object < length c.args.short.now - 1 = omega arith in
    rw (lt-ltb _ _ some, ← c.bisect-start.ensures, ← c.rows_end-end.ensures) (simp (lt-leb _ _ c.if-end-start.true))

pub returns-then-weak_to-end : goal.returns-then-weak_to-end
unfolding weak_rows_of all_of
returns-then-weak_to-end c = let some : c.args.object < length c.args.short.now - 1 = omega arith in
    rw (lt-ltb _ _ some, ← c.bisect-start.ensures, ← c.rows_end-end.ensures) (simp (le-leb _ _ c.if-end-start.false, lt-leb _ _ c.if-weak_to-end.true))

pub returns : goal.returns
unfolding weak_rows_of all_of
returns c = let some : c.args.object < length c.args.short.now - 1 = omega arith in
    rw (lt-ltb _ _ some, ← c.bisect-start.ensures, ← c.rows_end-end.ensures) (simp (le-leb _ _ c.if-end-start.false, le-leb _ _ c.if-weak_to-end.false))
