-- `ask_span::span_by` meets its contract: INDEX first, then the two offsets. Assumes nothing.
use Prim.Native.Nat.{◌-◌, ◌≤◌, ◌<◌}
use native.Mathlib.Omega.{arith}
use borrow.Author.Tests.{lt-ltb, le-ltb}
use Rattle.ask_span.proofs.span_by.Goals as goal

pub returns-then-offsets-object : goal.returns-then-offsets-object
returns-then-offsets-object g c = λ back h.
    let none : c.args.offsets - 1 ≤ c.args.object = omega arith in
    simp (le-ltb _ _ none)

pub returns-then-offsets-object-lt2 : goal.returns-then-offsets-object-lt2
returns-then-offsets-object-lt2 g c = λ back h.
    let none : c.args.offsets - 1 ≤ c.args.object = omega arith in
    simp (le-ltb _ _ none)

pub returns : goal.returns
returns g c = λ back h.
    let some : c.args.object < c.args.offsets - 1 = omega arith in
    rw (lt-ltb _ _ some, ← h _ _ c.offset-first.ensures, ← h _ _ c.offset-next.ensures) c.between.ensures
