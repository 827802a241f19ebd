-- The faults of one label as the walk tests them. Assumes nothing.
use mathlib.Core.Path.{◌≡◌, refl}
use mathlib.Core.Logic.{◌⊎◌, inl, inr}
use mathlib.Core.Bool.{Bool, true, false, not, ◌||◌, ◌&&◌}
use Prim.Native.Nat.{ℕ, ◌-◌, ◌≤◌, ◌<◌}
use native.Mathlib.Omega.{arith}
use borrow.Author.Tests.{lt-ltb, le-ltb, le-leb, lt-leb}
use lib.Dec.{leb, ltb}
use Rattle.columns.specs.Lists.{all_of, any_of}
use Rattle.columns.proofs.Lists.{lt_or_ge}
use Rattle.columns.proofs.Tests.{or_true}
use Rattle.rules.specs.Types.{loader_label, array_element_label}
use Rattle.check_edge.specs.Edge.{label_fault}

-- by the three kinds
module _ (names n l : ℕ) where
  pub label-field : l < loader_label → label_fault names n l ≡ leb names l
  unfolding label_fault any_of all_of
  label-field h = rw (lt-leb loader_label l h, lt-leb array_element_label l (omega arith), lt-ltb l 4294967296 (omega arith)) (go (lt_or_ge l names))
    where
      go : (l < names) ⊎ (names ≤ l) → not ((ltb l names || false) && true) || false ≡ leb names l
      go (inl k) = rw (lt-ltb l names k, lt-leb names l k)
      go (inr k) = rw (le-ltb l names k, le-leb names l k)

  pub label_loader : loader_label ≤ l → l < array_element_label → label_fault names n l ≡ false
  unfolding label_fault any_of all_of
  label_loader h k = rw (le-leb loader_label l h, lt-leb array_element_label l k, or_true (ltb l names), lt-ltb l 4294967296 (omega arith))

  pub label-element : array_element_label ≤ l → l < 4294967296 → label_fault names n l ≡ ltb (l - array_element_label) n
  unfolding label_fault any_of all_of
  label-element k w = rw (le-leb loader_label l (omega arith), le-leb array_element_label l k, or_true (ltb l names), lt-ltb l 4294967296 w) (go (ltb (l - array_element_label) n))
    where
      go : (b : Bool) → (b && true) || false ≡ b
      go true = refl
      go false = refl
