-- The first of a list of faults. Assumes nothing.
use mathlib.Core.Path.{◌≡◌, refl}
use mathlib.Core.Bool.{Bool}
use mathlib.Core.List.{List, [], ◌∷◌, ◌++◌}
use Prim.Native.Nat.{ℕ, ◌≤◌, ◌<◌}
use native.Mathlib.Omega.{arith}
use lib.ListN.{take, get_or}
use Rattle.columns.specs.Lists.{places, first_place}
use Rattle.columns.proofs.Lists.{first_none}
use Rattle.columns.proofs.Tests.{no_places}

-- the first place of a test, in front of others; where there is none, the end
pub first_of : (t : ℕ → Bool) (n : ℕ) (ys : List ℕ) → first_place t n < n → first_place t n ∷ [] ≡ take 1 (places t n ++ ys)
first_of t n ys l = go (places t n) l
  where
    go : (xs : List ℕ) → get_or xs 0 n < n → get_or xs 0 n ∷ [] ≡ take 1 (xs ++ ys)
    go [] l = absurd (omega arith)
    go (x ∷ xs) l = refl

pub first_or_end : (t : ℕ → Bool) (n : ℕ) → first_place t n ∷ [] ≡ take 1 (places t n ++ (n ∷ []))
first_or_end t n = go (places t n)
  where
    go : (xs : List ℕ) → get_or xs 0 n ∷ [] ≡ take 1 (xs ++ (n ∷ []))
    go [] = refl
    go (x ∷ xs) = refl

pub none_of_them : (t : ℕ → Bool) (n : ℕ) → n ≤ first_place t n → places t n ≡ []
none_of_them t n l = no_places t n (λ i k. first_none t n i l k)
