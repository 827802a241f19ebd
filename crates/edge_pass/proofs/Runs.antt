-- Pairs sorted by object, then target, are the objects' runs in order, each sorted by target. Assumes nothing.
use Prim.Native.Nat.{ℕ, zero, suc, ◌<◌}
use native.Mathlib.Omega.{arith}
use mathlib.Core.Path.{◌≡◌, refl, ap, ap₂, ◌∙◌}
use mathlib.Core.Bool.{Bool, true, false, cond, ◌||◌, ◌&&◌}
use mathlib.Core.List.{List, [], ◌∷◌, ◌++◌, map}
use lib.Dec.{eqb, leb}
use lib.ListN.{length, replicate}
use borrow.Author.Tests.{eq-eqb, lt-ltb, le-ltb}
use Rattle.columns.specs.Lists.{collect, insert, sort}
use Rattle.columns.proofs.Sums.{map-collect, collect_ext}
use Rattle.columns.proofs.Every.{Every, every-collect}
use Rattle.rules.specs.Edges.{Pair, pair_le}

-- What is not above anything behind it is inserted before that.
module _ {A : Type 0} (le : A → A → Bool) where
  insert-before : (a : A) (us vs : List A) → Every (λ v. le a v ≡ true) vs → insert le a (us ++ vs) ≡ insert le a us ++ vs
  insert-before a [] [] e = refl
  insert-before a [] (v ∷ vs) e = ap (λ (b : Bool). cond b (a ∷ v ∷ vs) (v ∷ insert le a vs)) e.0
  insert-before a (u ∷ us) vs e = go (le a u) (insert-before a us vs e)
    where
      go : (b : Bool) → insert le a (us ++ vs) ≡ insert le a us ++ vs → cond b (a ∷ u ∷ (us ++ vs)) (u ∷ insert le a (us ++ vs)) ≡ cond b (a ∷ u ∷ us) (u ∷ insert le a us) ++ vs
      go true ih = refl
      go false ih = ap (λ (l : List A). u ∷ l) ih

  sort-parts : (xs ys : List A) → Every (λ a. Every (λ v. le a v ≡ true) (sort le ys)) xs → sort le (xs ++ ys) ≡ sort le xs ++ sort le ys
  sort-parts [] ys e = refl
  sort-parts (a ∷ xs) ys e = ap (insert le a) (sort-parts xs ys e.1) ∙ insert-before a (sort le xs) (sort le ys) e.0

abbrev pair_of : ℕ → ℕ → Pair
pair_of o t = record { object = o; target = t }

pair_lower : (o n t u : ℕ) → o < n → pair_le (pair_of o t) (pair_of n u) ≡ true
pair_lower o n t u l = ap (λ (b : Bool). b || (eqb o n && leb t u)) (lt-ltb o n l)

pair_level : (o t u : ℕ) → pair_le (pair_of o t) (pair_of o u) ≡ leb t u
pair_level o t u = ap₂ (λ (a b : Bool). a || (b && leb t u)) (le-ltb o o (omega arith)) (eq-eqb o o refl)

-- One object's pairs sort by target.
insert_run : (o t : ℕ) (us : List ℕ) → insert pair_le (pair_of o t) (map (pair_of o) us) ≡ map (pair_of o) (insert leb t us)
insert_run o t [] = refl
insert_run o t (u ∷ us) = ap (λ (b : Bool). cond b (pair_of o t ∷ pair_of o u ∷ map (pair_of o) us) (pair_of o u ∷ insert pair_le (pair_of o t) (map (pair_of o) us))) (pair_level o t u) ∙ go (leb t u) (insert_run o t us)
  where
    go : (b : Bool) → insert pair_le (pair_of o t) (map (pair_of o) us) ≡ map (pair_of o) (insert leb t us)
        → cond b (pair_of o t ∷ pair_of o u ∷ map (pair_of o) us) (pair_of o u ∷ insert pair_le (pair_of o t) (map (pair_of o) us)) ≡ map (pair_of o) (cond b (t ∷ u ∷ us) (u ∷ insert leb t us))
    go true ih = refl
    go false ih = ap (λ (l : List Pair). pair_of o u ∷ l) ih

sort_run_lem : (o : ℕ) (ts : List ℕ) → sort pair_le (map (pair_of o) ts) ≡ map (pair_of o) (sort leb ts)
sort_run_lem o [] = refl
sort_run_lem o (t ∷ ts) = ap (insert pair_le (pair_of o t)) (sort_run_lem o ts) ∙ insert_run o t (sort leb ts)

map_same : {A B : Type 0} (f : A → B) (g : B → A) → ((a : A) → g (f a) ≡ a) → (xs : List A) → map g (map f xs) ≡ xs
map_same f g e [] = refl
map_same f g e (a ∷ xs) = ap₂ ◌∷◌ (e a) (map_same f g e xs)

map_number : (o : ℕ) (ts : List ℕ) → map (λ (p : Pair). p.object) (map (pair_of o) ts) ≡ replicate (length ts) o
map_number o [] = refl
map_number o (t ∷ ts) = ap (λ (l : List ℕ). o ∷ l) (map_number o ts)

-- The weak targets of object 0, of object 1, ..
module _ (targets : ℕ → List ℕ) where
  earlier : (n : ℕ) → Every (λ p. p.object < n) (collect (λ o. map (pair_of o) (targets o)) n)
  earlier n = every-collect (λ (p : Pair). p.object < n) (λ o. map (pair_of o) (targets o)) n (λ i l. go i l (targets i))
    where
      go : (i : ℕ) → i < n → (ts : List ℕ) → Every (λ p. p.object < n) (map (pair_of i) ts)
      go i l [] = tt
      go i l (t ∷ ts) = (l, go i l ts)

  below : (n : ℕ) (ps : List Pair) → Every (λ p. p.object < n) ps → (ts : List ℕ) → Every (λ p. Every (λ v. pair_le p v ≡ true) (map (pair_of n) ts)) ps
  below n [] e ts = tt
  below n (p ∷ ps) e ts = (go ts, below n ps e.1 ts)
    where
      go : (ts : List ℕ) → Every (λ v. pair_le p v ≡ true) (map (pair_of n) ts)
      go [] = tt
      go (t ∷ ts) = (pair_lower p.object n p.target t e.0, go ts)

  runs : (n : ℕ) → sort pair_le (collect (λ o. map (pair_of o) (targets o)) n) ≡ collect (λ o. map (pair_of o) (sort leb (targets o))) n
  runs zero = refl
  runs (suc n) =
      let before = collect (λ o. map (pair_of o) (targets o)) n in
      sort-parts pair_le before (map (pair_of n) (targets n)) (rw (sort_run_lem n (targets n)) (below n before (earlier n) (sort leb (targets n))))
      ∙ ap₂ ◌++◌ (runs n) (sort_run_lem n (targets n))

  pub runs_targets : (n : ℕ) → map (λ (p : Pair). p.target) (sort pair_le (collect (λ o. map (pair_of o) (targets o)) n)) ≡ collect (λ o. sort leb (targets o)) n
  runs_targets n =
      ap (map (λ (p : Pair). p.target)) (runs n)
      ∙ map-collect (λ (p : Pair). p.target) (λ o. map (pair_of o) (sort leb (targets o))) n
      ∙ collect_ext _ _ n (λ i l. map_same (pair_of i) (λ (p : Pair). p.target) (λ t. refl) (sort leb (targets i)))

  pub runs_objects : (n : ℕ) → map (λ (p : Pair). p.object) (sort pair_le (collect (λ o. map (pair_of o) (targets o)) n)) ≡ collect (λ o. replicate (length (sort leb (targets o))) o) n
  runs_objects n =
      ap (map (λ (p : Pair). p.object)) (runs n)
      ∙ map-collect (λ (p : Pair). p.object) (λ o. map (pair_of o) (sort leb (targets o))) n
      ∙ collect_ext _ _ n (λ i l. map_number i (sort leb (targets i)))
