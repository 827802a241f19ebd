-- Lists of faults one after the other: the first of them. Assumes nothing.
use mathlib.Core.Path.{◌≡◌, refl}
use mathlib.Core.Logic.{⊎_elim}
use mathlib.Core.List.{List, [], ◌∷◌, ◌++◌, map}
use Prim.Native.Nat.{ℕ, zero, suc, ◌<◌}
use native.Mathlib.Omega.{arith}
use lib.ListN.{take}
use Rattle.columns.specs.Lists.{collect}
use Rattle.columns.proofs.Lists.{lt_or_ge}
use Rattle.rules.specs.Verdict.{first_of}
use Rattle.rules.specs.Parts.{in_column}

pub nothing-taken : (xs : List ℕ) → [] ≡ take 1 xs → xs ≡ []
nothing-taken [] e = refl
nothing-taken (x ∷ xs) e = let z : ◌≡◌ {A = ℕ} 0 1 = cc in absurd (omega arith)

-- the first of lists one after the other, where the ones before are empty
take-front : {A : Type 0} (xs ys : List A) (x : A) → take 1 xs ≡ x ∷ [] → take 1 (xs ++ ys) ≡ x ∷ []
take-front [] ys x e = let z : ◌≡◌ {A = ℕ} 0 1 = cc in absurd (omega arith)
take-front (a ∷ xs) ys x e = e

pub first_collected : {A : Type 0} (f : ℕ → List A) (m o : ℕ) (x : A) → collect f o ≡ [] → o < m → take 1 (f o) ≡ x ∷ [] → take 1 (collect f m) ≡ x ∷ []
first_collected f zero o x e l h = absurd (omega arith)
first_collected f (suc m) o x e l h =
    ⊎_elim (λ k. take-front (collect f m) (f m) x (first_collected f m o x e k h)) (λ k. let q : m ≡ o = omega arith in rw (q, e) h) (lt_or_ge o m)

pub first_mapped : {A B : Type 0} (f : A → B) (xs : List A) (x : A) → take 1 xs ≡ x ∷ [] → take 1 (map f xs) ≡ f x ∷ []
first_mapped f [] x e = let z : ◌≡◌ {A = ℕ} 0 1 = cc in absurd (omega arith)
first_mapped f (a ∷ xs) x e = let q : a ≡ x = cc in rw q

-- A column of faults in front of others: its first fault is the answer, and without one the others are.
module _ (c : ℕ) (ps : List ℕ) (fs : List (List ℕ)) (done : List ℕ) where
  pub column_fails : {p : ℕ} → p ∷ [] ≡ take 1 ps → 10 ∷ c ∷ p ∷ [] ≡ first_of (in_column c ps ++ fs) done
  unfolding in_column
  column_fails {p} e = go ps e
    where
      go : (qs : List ℕ) → p ∷ [] ≡ take 1 qs → 10 ∷ c ∷ p ∷ [] ≡ first_of (in_column c qs ++ fs) done
      go [] e = let z : ◌≡◌ {A = ℕ} 0 1 = cc in absurd (omega arith)
      go (q ∷ qs) e = let z : p ≡ q = cc in rw z

  pub column-passes : ps ≡ [] → first_of fs done ≡ first_of (in_column c ps ++ fs) done
  unfolding in_column
  column-passes e = rw e
