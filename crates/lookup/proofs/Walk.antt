-- The walk from the front: what holds of the ids that are passed, and what it answers. Assumes nothing.
use mathlib.Core.Path.{◌≡◌, refl, sym}
use mathlib.Core.List.{List, [], ◌∷◌}
use Prim.Native.Nat.{ℕ, ◌+◌, ◌≤◌, ◌<◌, zero-le}
use native.Mathlib.Nat.{not-suc-le-zero}
use native.Mathlib.Numerals.{add-one}
use native.Mathlib.Omega.{arith}
use borrow.Author.Count.{below_more}
use lib.Dec.{ltb}
use lib.ListN.{length, take}
use lib.Seq.{take-suc, take_all, length-take-le}
use Rattle.columns.specs.Lists.{◌!◌, one}
use Rattle.columns.specs.Ranks.{rank}
use Rattle.columns.proofs.Ranks.{rank_within}
use Rattle.columns.proofs.Sums.{sum-append}
use Rattle.columns.proofs.Search.{find_first, find_none}
use Rattle.std.specs.Prelude.{Ok, Err}
use Rattle.lookup.specs.Lookup.{lookup_of}

-- none of the first i ids is x, and so many of them are below it
pub record PassedBy (xs : List ℕ) (x below i : ℕ) : Type 0 where
  pub inside : i ≤ length xs
  pub none : (p : ℕ) → p < i → xs ! p ≡ x → ⊥
  pub counted : below ≡ rank (take i xs) x

pub passed_none : (xs : List ℕ) (x : ℕ) → PassedBy xs x 0 0
unfolding rank
passed_none xs x = record { inside = zero-le; none = λ p l. absurd (not-suc-le-zero l); counted = refl }

rank_more : (xs : List ℕ) (x i : ℕ) → i < length xs → rank (take (i + 1) xs) x ≡ rank (take i xs) x + one (ltb (xs ! i) x)
unfolding rank
rank_more xs x i l = rw (add-one, take-suc xs i 0 l) (omega (arith, sum-append (λ a. one (ltb a x)) (take i xs) (xs ! i ∷ [])))

module _ {xs : List ℕ} {x below i : ℕ} (w : PassedBy xs x below i) where
  pub passed_more : {k : ℕ} → i < length xs → (xs ! i ≡ x → ⊥) → k ≡ one (ltb (xs ! i) x) → PassedBy xs x (below + k) (i + 1)
  passed_more l differs e =
      record {
        inside = omega arith;
        none = below_more _ _ w.none differs;
        counted = rw (w.counted, e) (sym (rank_more xs x i l));
      }

  pub passed_few : below ≤ i
  passed_few = omega (arith, w.counted, rank_within (take i xs) x, length-take-le i xs w.inside)

  pub passed-at : i < length xs → xs ! i ≡ x → Ok i ≡ lookup_of xs x
  unfolding lookup_of
  passed-at l e = rw (find_first xs x i l e w.none)

  pub passed_all : length xs ≤ i → Err below ≡ lookup_of xs x
  unfolding lookup_of
  passed_all l = rw (find_none xs x (λ p k. w.none p (omega arith)), w.counted, take_all i xs l)
