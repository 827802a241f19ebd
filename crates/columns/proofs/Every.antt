-- What holds of every element of a list, and of lists made from lists. Assumes nothing.
use Prim.Native.Nat.{ℕ, zero, suc, ◌<◌}
use native.Mathlib.Nat.{not-suc-le-zero}
use native.Mathlib.Omega.{arith}
use mathlib.Core.Path.{◌≡◌, refl}
use mathlib.Core.Bool.{Bool, true, false, cond}
use mathlib.Core.List.{List, [], ◌∷◌, ◌++◌, map}
use lib.Dec.{eqb}
use lib.ListN.{length, get_or}
use Rattle.columns.specs.Lists.{◌!◌, collect, tab, places, flat, insert, sort, distinct}

-- what holds of every element
abbrev pub Every : {A : Type 0} → (A → Type 0) → List A → Type 0
Every P [] = Unit {0}
Every P (a ∷ xs) = P a × Every P xs

pub every_append : {A : Type 0} (P : A → Type 0) (xs ys : List A) → Every P xs → Every P ys → Every P (xs ++ ys)
every_append P [] ys a b = b
every_append P (x ∷ xs) ys a b = (a.0, every_append P xs ys a.1 b)

pub every-collect : {A : Type 0} (P : A → Type 0) (g : ℕ → List A) (n : ℕ) → ((i : ℕ) → i < n → Every P (g i)) → Every P (collect g n)
every-collect P g zero h = tt
every-collect P g (suc n) h = every_append P (collect g n) (g n) (every-collect P g n (λ i l. h i (omega arith))) (h n (omega arith))

pub every-flat : {A B : Type 0} (P : A → Type 0) (Q : B → Type 0) (f : A → List B) → ((a : A) → P a → Every Q (f a)) → (xs : List A) → Every P xs
    → Every Q (flat f xs)
every-flat P Q f h [] e = tt
every-flat P Q f h (a ∷ xs) e = every_append Q (f a) (flat f xs) (h a e.0) (every-flat P Q f h xs e.1)

-- the places of a test are below n, and the test holds there
pub every-places : (t : ℕ → Bool) (n : ℕ) → Every (λ i. (i < n) × (t i ≡ true)) (places t n)
unfolding places
every-places t n = every-collect (λ i. (i < n) × (t i ≡ true)) _ n (λ i l. go i l (t i) refl)
  where
    go : (i : ℕ) → i < n → (b : Bool) → t i ≡ b → Every (λ i. (i < n) × (t i ≡ true)) (cond b (i ∷ []) [])
    go i l true e = ((l, e), tt)
    go i l false e = tt

pub every-at : {A : Type 0} (P : A → Type 0) (d : A) (xs : List A) → Every P xs → (k : ℕ) → k < length xs → P (get_or xs k d)
every-at P d [] e k h = absurd (not-suc-le-zero h)
every-at P d (a ∷ xs) e zero h = e.0
every-at P d (a ∷ xs) e (suc k) h = every-at P d xs e.1 k (omega arith)

pub every-tab : {A : Type 0} (P : A → Type 0) (g : ℕ → A) (n : ℕ) → ((i : ℕ) → i < n → P (g i)) → Every P (tab g n)
unfolding tab
every-tab P g n h = every-collect P (λ i. g i ∷ []) n (λ i l. (h i l, tt))

pub every_map : {A B : Type 0} (P : A → Type 0) (Q : B → Type 0) (f : A → B) → ((a : A) → P a → Q (f a)) → (xs : List A) → Every P xs → Every Q (map f xs)
every_map P Q f h [] e = tt
every_map P Q f h (a ∷ xs) e = (h a e.0, every_map P Q f h xs e.1)

pub every_index : (P : ℕ → Type 0) (xs : List ℕ) → ((i : ℕ) → i < length xs → P (xs ! i)) → Every P xs
every_index P [] h = tt
every_index P (a ∷ xs) h = (h 0 (omega arith), every_index P xs (λ i l. h (suc i) (omega arith)))

every-insert : {A : Type 0} (P : A → Type 0) (le : A → A → Bool) (a : A) (xs : List A) → P a → Every P xs → Every P (insert le a xs)
every-insert P le a [] p e = (p, tt)
every-insert P le a (b ∷ xs) p e = go (le a b) (every-insert P le a xs p e.1)
  where
    go : (t : Bool) → Every P (insert le a xs) → Every P (cond t (a ∷ b ∷ xs) (b ∷ insert le a xs))
    go true h = (p, e)
    go false h = (e.0, h)

pub every-sort : {A : Type 0} (P : A → Type 0) (le : A → A → Bool) (xs : List A) → Every P xs → Every P (sort le xs)
every-sort P le [] e = tt
every-sort P le (a ∷ xs) e = every-insert P le a (sort le xs) e.0 (every-sort P le xs e.1)

pub every-distinct : (P : ℕ → Type 0) (xs : List ℕ) → Every P xs → Every P (distinct xs)
every-distinct P [] e = tt
every-distinct P (a ∷ []) e = e
every-distinct P (a ∷ b ∷ xs) e = go (eqb a b) (every-distinct P (b ∷ xs) e.1)
  where
    go : (t : Bool) → Every P (distinct (b ∷ xs)) → Every P (cond t (distinct (b ∷ xs)) (a ∷ distinct (b ∷ xs)))
    go true h = h
    go false h = (e.0, h)

-- A sorted list: of each two neighbours the first comes before the second, by an order in which of any two one comes before the other.
abbrev pub Chain : {A : Type 0} → (A → A → Bool) → List A → Type 0
Chain le [] = Unit {0}
Chain le (a ∷ []) = Unit {0}
Chain le (a ∷ b ∷ xs) = (le a b ≡ true) × Chain le (b ∷ xs)

module _ {A : Type 0} (le : A → A → Bool) (either : (a b : A) → le a b ≡ false → le b a ≡ true) where
  insert-chain : (a : A) (xs : List A) → Chain le xs → Chain le (insert le a xs)
  insert-chain a [] h = tt
  insert-chain a (b ∷ []) h = go (le a b) refl
    where
      go : (t : Bool) → le a b ≡ t → Chain le (cond t (a ∷ b ∷ []) (b ∷ a ∷ []))
      go true e = (e, tt)
      go false e = (either a b e, tt)
  insert-chain a (b ∷ c ∷ xs) h = go (le a b) refl (le a c) refl (insert-chain a (c ∷ xs) h.1)
    where
      go : (t : Bool) → le a b ≡ t → (u : Bool) → le a c ≡ u → Chain le (cond u (a ∷ c ∷ xs) (c ∷ insert le a xs))
          → Chain le (cond t (a ∷ b ∷ c ∷ xs) (b ∷ cond u (a ∷ c ∷ xs) (c ∷ insert le a xs)))
      go true e u f ih = (e, h)
      go false e true f ih = (either a b e, ih)
      go false e false f ih = (h.0, ih)

  pub sort-chain : (xs : List A) → Chain le (sort le xs)
  sort-chain [] = tt
  sort-chain (a ∷ xs) = insert-chain a (sort le xs) (sort-chain xs)

pub chain-at : {A : Type 0} (le : A → A → Bool) (d : A) (xs : List A) → Chain le xs → (i : ℕ) → suc i < length xs → le (get_or xs i d) (get_or xs (suc i) d) ≡ true
chain-at le d [] h i l = absurd (not-suc-le-zero l)
chain-at le d (a ∷ []) h i l = absurd (omega arith)
chain-at le d (a ∷ b ∷ xs) h zero l = h.0
chain-at le d (a ∷ b ∷ xs) h (suc i) l = chain-at le d (b ∷ xs) h.1 i (omega arith)
