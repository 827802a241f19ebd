-- `check_edge::label_fault` meets its contract: a field, the loader or an element. Assumes nothing.
use mathlib.Core.Path.{sym, ap, ◌∙◌}
use Prim.Native.Nat.{ℕ}
use lib.Dec.{leb}
use Rattle.check_edge.proofs.Labels.{label-field, label_loader, label-element}
use native.Mathlib.Omega.{arith}
use Rattle.check_edge.proofs.label_fault.Goals as goal

pub returns-then-label-lt-LOADER : goal.returns-then-label-lt-LOADER
returns-then-label-lt-LOADER c = let a = c.args in ap (λ (w : ℕ). leb a.names w) c.index.ensures ∙ sym (label-field a.names a.next a.label c.if-label-lt-LOADER.true)

pub returns-then-label-lt-ARRAY_ELEMENT : goal.returns-then-label-lt-ARRAY_ELEMENT
returns-then-label-lt-ARRAY_ELEMENT c = let a = c.args in sym (label_loader a.names a.next a.label c.if-label-lt-LOADER.false c.if-label-lt-ARRAY_ELEMENT.true)

pub returns : goal.returns
returns c = let a = c.args in sym (label-element a.names a.next a.label c.if-label-lt-ARRAY_ELEMENT.false (omega arith))
