-- Search: what is found stands there, in a list, in a list that rises, and in rows by their places. Assumes nothing.
use Prim.Native.Nat.{ℕ, zero, suc, ◌≤◌, ◌<◌}
use native.Mathlib.Nat.{not-suc-le-zero}
use native.Mathlib.Omega.{arith}
use native.Mathlib.Decide.{dec_lt}
use mathlib.Core.Path.{◌≡◌, refl, ap, ◌∙◌}
use mathlib.Core.Logic.{⊎_elim}
use mathlib.Core.Bool.{Bool, true, false, cond, false≢true, ◌||◌}
use mathlib.Core.List.{List, [], ◌∷◌, ◌++◌, map}
use mathlib.Core.Option.{Option, none, some}
use lib.Dec.{eqb, ltb}
use lib.ListN.{length}
use borrow.Author.Tests.{eqb-true, eqb-false, eq-eqb, ne_eqb, lt-ltb, le-ltb}
use Rattle.columns.specs.Lists.{◌!◌, places, find, next, found, lookup, all_of}
use Rattle.columns.specs.Ranks.{Rises, rank, bisect}
use Rattle.columns.proofs.Lists.{lt_or_ge, places-at}
use Rattle.columns.proofs.Tests.{or_true}
use Rattle.columns.proofs.Ranks.{bisect-rank, rank_below, rank_above}

pub find-get : (ks : List ℕ) (v i : ℕ) → find ks v ≡ some i → (i < length ks) × (ks ! i ≡ v)
find-get [] v i e = let z : ◌≡◌ {A = ℕ} 0 1 = cc in omega arith
find-get (k ∷ ks) v i e = go (eqb k v) refl (find ks v) refl e (find-get ks v)
  where
    go : (b : Bool) → eqb k v ≡ b → (f : Option ℕ) → find ks v ≡ f → cond b (some 0) (next f) ≡ some i
        → ((j : ℕ) → find ks v ≡ some j → (j < length ks) × (ks ! j ≡ v)) → (i < suc (length ks)) × ((k ∷ ks) ! i ≡ v)
    go true t f ef e ih = let z : ◌≡◌ {A = ℕ} 0 i = cc in rw (← z) (omega arith, eqb-true k v t)
    go false t none ef e ih = let z : ◌≡◌ {A = ℕ} 0 1 = cc in absurd (omega arith)
    go false t (some j) ef e ih = let z : suc j ≡ i = cc in rw (← z) (omega (arith, (ih j ef).0), (ih j ef).1)

pub find_none : (ks : List ℕ) (v : ℕ) → ((i : ℕ) → i < length ks → ks ! i ≡ v → ⊥) → find ks v ≡ none
find_none [] v h = refl
find_none (k ∷ ks) v h = rw (ne_eqb k v (h 0 (omega arith)), find_none ks v (λ i l. h (suc i) (omega arith)))

-- the first place where it stands is where it is found
pub find_first : (ks : List ℕ) (v i : ℕ) → i < length ks → ks ! i ≡ v → ((p : ℕ) → p < i → ks ! p ≡ v → ⊥) → find ks v ≡ some i
find_first [] v i l e h = absurd (not-suc-le-zero l)
find_first (k ∷ ks) v zero l e h = rw (eq-eqb k v e)
find_first (k ∷ ks) v (suc i) l e h = rw (ne_eqb k v (h 0 (omega arith)), find_first ks v i (omega arith) e (λ p g. h (suc p) (omega arith)))

-- What a search of rising numbers answers: the place of an equal one, or none where the neighbours leave no room for one.
pub find_at : (xs : List ℕ) (v i : ℕ) → Rises xs → i < length xs → xs ! i ≡ v → find xs v ≡ some i
find_at xs v i r h e = find_first xs v i h e (λ p l q. omega (arith, r p i l h))

pub find_gap : (xs : List ℕ) (v p : ℕ) → Rises xs → ((i : ℕ) → i < p → i < length xs → xs ! i < v) → ((i : ℕ) → p ≤ i → i < length xs → v < xs ! i)
    → find xs v ≡ none
find_gap xs v p r lo hi = find_none xs v (λ i l e. go i l e (dec_lt i p))
  where
    go : (i : ℕ) → i < length xs → xs ! i ≡ v → Dec (i < p) → ⊥
    go i l e (yes q) = omega (arith, lo i q l)
    go i l e (no q) = omega (arith, hi i (omega arith) l)

found-next : (f : Option ℕ) → found (next f) ≡ found f
found-next none = refl
found-next (some i) = refl

found-append : (xs ys : List ℕ) (v : ℕ) → found (find (xs ++ ys) v) ≡ found (find xs v) || found (find ys v)
found-append [] ys v = refl
found-append (a ∷ xs) ys v = go (eqb a v) (found-append xs ys v)
  where
    go : (b : Bool) → found (find (xs ++ ys) v) ≡ found (find xs v) || found (find ys v)
        → found (cond b (some 0) (next (find (xs ++ ys) v))) ≡ found (cond b (some 0) (next (find xs v))) || found (find ys v)
    go true e = refl
    go false e = rw (found-next (find (xs ++ ys) v), found-next (find xs v)) e

-- a place where the test holds is found among the places, and in rows by place reads what was put there
pub places-found : (t : ℕ → Bool) (n i : ℕ) → i < n → t i ≡ true → found (find (places t n) i) ≡ true
places-found t n i l e =
    let r = places-at t i n e l in
    rw (r.1, found-append (places t i) (i ∷ r.0) i, eq-eqb i i refl) (or_true (found (find (places t i) i)))

pub lookup-map : (f : ℕ → ℕ) (ks : List ℕ) (v : ℕ) → found (find ks v) ≡ true → lookup ks (map f ks) v ≡ f v
lookup-map f [] v e = absurd (false≢true e)
lookup-map f (k ∷ ks) v e = go (eqb k v) refl e (lookup-map f ks v)
  where
    go : (b : Bool) → eqb k v ≡ b → found (cond b (some 0) (next (find ks v))) ≡ true → (found (find ks v) ≡ true → lookup ks (map f ks) v ≡ f v)
        → cond b (f k) (lookup ks (map f ks) v) ≡ f v
    go true t e ih = ap f (eqb-true k v t)
    go false t e ih = ih (rw (found-next (find ks v)) at e)

-- In a list that rises a number that does not stand at its rank is missing: it is found at its rank or not at all.
pub rank-missing : (xs : List ℕ) (x : ℕ) → Rises xs → (rank xs x < length xs → xs ! rank xs x ≡ x → ⊥) → find xs x ≡ none
rank-missing xs x rise no-at = find_none xs x (λ i l e. ⊎_elim (λ g. omega (arith, rank_below xs x rise i g)) (λ g. from i l e g) (lt_or_ge i (rank xs x)))
  where
    from : (i : ℕ) → i < length xs → xs ! i ≡ x → rank xs x ≤ i → ⊥
    from i l e g =
        ⊎_elim
        (λ k. omega (arith, rise (rank xs x) i k l, rank_above xs x rise (rank xs x) (omega arith) (omega arith)))
        (λ k. let s : rank xs x ≡ i = omega arith in no-at (omega arith) (ap (λ (p : ℕ). xs ! p) s ∙ e))
        (lt_or_ge (rank xs x) i)

pub find-rank : (xs : List ℕ) (x : ℕ) → Rises xs → find xs x ≡ cond (all_of (ltb (rank xs x) (length xs) ∷ eqb (xs ! rank xs x) x ∷ [])) (some (rank xs x)) none
unfolding all_of
find-rank xs x rise =
    ⊎_elim
    (λ l. rw (lt-ltb (rank xs x) (length xs) l) (go l (eqb (xs ! rank xs x) x) refl))
    (λ l. rw (le-ltb (rank xs x) (length xs) l) (rank-missing xs x rise (λ k. absurd (omega arith))))
    (lt_or_ge (rank xs x) (length xs))
  where
    go : rank xs x < length xs → (b : Bool) → eqb (xs ! rank xs x) x ≡ b → find xs x ≡ cond (all_of (b ∷ [])) (some (rank xs x)) none
    go l true t = find_at xs x (rank xs x) rise l (eqb-true _ _ t)
    go l false t = rank-missing xs x rise (λ k. eqb-false _ _ t)

-- so bisection finds what the search of the whole list finds
pub find-bisect : (xs : List ℕ) (v : ℕ) → Rises xs
    → find xs v ≡ cond (all_of (ltb (bisect xs v) (length xs) ∷ eqb (xs ! bisect xs v) v ∷ [])) (some (bisect xs v)) none
find-bisect xs v rise = rw (bisect-rank xs v rise) (find-rank xs v rise)

-- the row that is found holds the value looked up
pub lookup-find : (ks vs : List ℕ) (v i : ℕ) → length ks ≡ length vs → find ks v ≡ some i → lookup ks vs v ≡ vs ! i
lookup-find [] vs v i l e = let z : ◌≡◌ {A = ℕ} 0 1 = cc in absurd (omega arith)
lookup-find (k ∷ ks) [] v i l e = absurd (omega arith)
lookup-find (k ∷ ks) (a ∷ vs) v i l e = go (eqb k v) (find ks v) refl e (λ j. lookup-find ks vs v j (omega arith))
  where
    go : (b : Bool) (u : Option ℕ) → find ks v ≡ u → cond b (some 0) (next u) ≡ some i → ((j : ℕ) → find ks v ≡ some j → lookup ks vs v ≡ vs ! j)
        → cond b a (lookup ks vs v) ≡ (a ∷ vs) ! i
    go true u f e ih = let z : ◌≡◌ {A = ℕ} 0 i = cc in rw (← z)
    go false none f e ih = let z : ◌≡◌ {A = ℕ} 0 1 = cc in absurd (omega arith)
    go false (some j) f e ih = let z : suc j ≡ i = cc in rw (← z) (ih j f)
