-- `ask_late::element` meets its contract: an index that has more than 31 bits is refused before it is made. Assumes nothing.
use Prim.Native.Nat.{◌%◌, ◌<◌}
use mathlib.Core.Path.{◌≡◌}
use native.Mathlib.Omega.{arith}
use borrow.Author.Tests.{lt-ltb, le-ltb}
use Rattle.rules.specs.Types.{array_element_label}
use Rattle.ask_late.proofs.element.Goals as goal

pub returns-then-index-ge-ARRAY_ELEMENT : goal.returns-then-index-ge-ARRAY_ELEMENT
returns-then-index-ge-ARRAY_ELEMENT c = simp (le-ltb _ _ c.if-index-ge-ARRAY_ELEMENT.true)

pub returns : goal.returns
returns c = let l : c.args.index < array_element_label = omega arith in
    let whole : c.args.index % array_element_label ≡ c.args.index = omega arith in
    simp (c.element.ensures, whole, lt-ltb _ _ l)
