-- Tests: what follows where some of several hold, or none does. Assumes nothing.
use Prim.Native.Nat.{ℕ, zero, suc, ◌+◌, ◌<◌}
use native.Mathlib.Nat.{not-suc-le-zero}
use native.Mathlib.Numerals.{add-one}
use native.Mathlib.Omega.{arith}
use native.Mathlib.Decide.{dec_lt}
use mathlib.Core.Path.{◌≡◌, refl}
use mathlib.Core.Logic.{⊎_elim}
use mathlib.Core.Bool.{Bool, true, false, cond, ◌&&◌, ◌||◌}
use mathlib.Core.List.{List, [], ◌∷◌, ◌++◌, map}
use lib.ListN.{length, get_or}
use Rattle.columns.proofs.Lists.{lt_or_ge}
use Rattle.columns.specs.Lists.{collect, places, all_of, any_of, any}

pub or_true : (b : Bool) → b || true ≡ true
or_true true = refl
or_true false = refl

pub or_false : (a b : Bool) → a || b ≡ false → (a ≡ false) × (b ≡ false)
or_false true b e = let z : ◌≡◌ {A = ℕ} 0 1 = cc in absurd (omega arith)
or_false false b e = (refl, e)

-- of tests none of which holds, the i-th does not
pub none_of : (ts : List Bool) → any_of ts ≡ false → (i : ℕ) → get_or ts i false ≡ false
unfolding any_of
none_of [] e i = refl
none_of (t ∷ ts) e zero = (or_false t (any_of ts) e).0
none_of (t ∷ ts) e (suc i) = none_of ts (or_false t (any_of ts) e).1 i

-- of tests that all hold, the i-th does; of two that do not both, the second does not where the first does
pub each_of : (ts : List Bool) → all_of ts ≡ true → (i : ℕ) → get_or ts i true ≡ true
unfolding all_of
each_of [] e i = refl
each_of (true ∷ ts) e zero = refl
each_of (false ∷ ts) e zero = e
each_of (true ∷ ts) e (suc i) = each_of ts e i
each_of (false ∷ ts) e (suc i) = let z : ◌≡◌ {A = ℕ} 0 1 = cc in absurd (omega arith)

pub second_fails : (a b : Bool) → all_of (a ∷ b ∷ []) ≡ false → a ≡ true → b ≡ false
unfolding all_of
second_fails true true e t = e
second_fails true false e t = refl
second_fails false b e t = let z : ◌≡◌ {A = ℕ} 0 1 = cc in absurd (omega arith)

pub any_false : (p : ℕ → Bool) (n i : ℕ) → any p n ≡ false → i < n → p i ≡ false
unfolding any
any_false p zero i e h = absurd (not-suc-le-zero h)
any_false p (suc n) i e h = go (dec_lt i n) (or_false (any p n) (p n) e) (any_false p n i)
  where
    go : Dec (i < n) → (any p n ≡ false) × (p n ≡ false) → (any p n ≡ false → i < n → p i ≡ false) → p i ≡ false
    go (yes l) e ih = ih e.0 l
    go (no l) e ih = let q : i ≡ n = omega arith in rw q e.1

pub all_true : (ts : List Bool) → ((i : ℕ) → i < length ts → get_or ts i true ≡ true) → all_of ts ≡ true
unfolding all_of
all_true [] h = refl
all_true (t ∷ ts) h = rw (h 0 (omega arith)) (all_true ts (λ i l. h (suc i) (omega arith)))

pub none_any : (p : ℕ → Bool) (n : ℕ) → ((i : ℕ) → i < n → p i ≡ false) → any p n ≡ false
unfolding any
none_any p zero h = refl
none_any p (suc n) h = rw (none_any p n (λ i l. h i (omega arith)), h n (omega arith))

-- of two lists one after the other that are empty, each is
pub append-empty : {A : Type 0} (xs ys : List A) → xs ++ ys ≡ [] → (xs ≡ []) × (ys ≡ [])
append-empty [] ys e = (refl, e)
append-empty (a ∷ xs) ys e = let z : ◌≡◌ {A = ℕ} 0 1 = cc in absurd (omega arith)

-- where a test holds at no place, there are no places, and the other way round
pub no_places : (t : ℕ → Bool) (n : ℕ) → ((i : ℕ) → i < n → t i ≡ false) → places t n ≡ []
unfolding places
no_places t zero h = refl
no_places t (suc n) h = rw (no_places t n (λ i l. h i (omega arith)), h n (omega arith))

pub places_none : (t : ℕ → Bool) (n i : ℕ) → places t n ≡ [] → i < n → t i ≡ false
unfolding places
places_none t zero i e h = absurd (not-suc-le-zero h)
places_none t (suc n) i e h = go (dec_lt i n) (append-empty (places t n) (cond (t n) (n ∷ []) []) e) (places_none t n i)
  where
    last : (b : Bool) → cond b (n ∷ []) [] ≡ [] → b ≡ false
    last true e = let z : ◌≡◌ {A = ℕ} 0 1 = cc in absurd (omega arith)
    last false e = refl

    go : Dec (i < n) → (places t n ≡ []) × (cond (t n) (n ∷ []) [] ≡ []) → (places t n ≡ [] → i < n → t i ≡ false) → t i ≡ false
    go (yes l) e ih = ih e.0 l
    go (no l) e ih = let q : i ≡ n = omega arith in rw q (last (t n) e.1)

-- one place, where the test holds at that one only
pub one_place : (t : ℕ → Bool) (n c : ℕ) → c < n → t c ≡ true → ((i : ℕ) → i < n → (i ≡ c → ⊥) → t i ≡ false) → places t n ≡ c ∷ []
unfolding places
one_place t zero c l e h = absurd (not-suc-le-zero l)
one_place t (suc n) c l e h = go (dec_lt c n) (λ m. one_place t n c m e (λ i k d. h i (omega arith) d))
  where
    go : Dec (c < n) → (c < n → places t n ≡ c ∷ []) → places t (suc n) ≡ c ∷ []
    go (yes m) ih = rw (ih m, h n (omega arith) (λ d. omega arith))
    go (no m) ih =
        let q : n ≡ c = omega arith in
        let z : t n ≡ true = rw q e in
        rw (no_places t n (λ i k. h i (omega arith) (λ d. omega arith)), z, q)

-- tests that fail, put together
pub all_fails : (a b : Bool) → (a ≡ true → b ≡ false) → all_of (a ∷ b ∷ []) ≡ false
unfolding all_of
all_fails true b h = rw (h refl)
all_fails false b h = refl

-- lists that are empty
pub collect_none : {A : Type 0} (f : ℕ → List A) (n : ℕ) → ((i : ℕ) → i < n → f i ≡ []) → collect f n ≡ []
collect_none f zero h = refl
collect_none f (suc n) h = rw (collect_none f n (λ i l. h i (omega arith)), h n (omega arith))

pub collect-empty : {A : Type 0} (f : ℕ → List A) (n : ℕ) → collect f n ≡ [] → (i : ℕ) → i < n → f i ≡ []
collect-empty f zero e i l = absurd (omega arith)
collect-empty f (suc n) e i l = go (dec_lt i n) (append-empty (collect f n) (f n) e) (λ q. collect-empty f n q i)
  where
    go : Dec (i < n) → (collect f n ≡ []) × (f n ≡ []) → (collect f n ≡ [] → i < n → f i ≡ []) → f i ≡ []
    go (yes m) q ih = ih q.0 m
    go (no m) q ih = let z : i ≡ n = omega arith in rw z q.1

pub map-empty : {A B : Type 0} (f : A → B) (xs : List A) → map f xs ≡ [] → xs ≡ []
map-empty f [] e = refl
map-empty f (a ∷ xs) e = let z : ◌≡◌ {A = ℕ} 0 1 = cc in absurd (omega arith)

-- of tests one of which holds, some test does
pub some_any : (t : ℕ → Bool) (n i : ℕ) → i < n → t i ≡ true → any t n ≡ true
unfolding any
some_any t zero i l h = absurd (not-suc-le-zero l)
some_any t (suc n) i l h = ⊎_elim (λ g. rw (some_any t n i g h)) (λ g. let e : n ≡ i = omega arith in rw (e, h) (or_true (any t i))) (lt_or_ge i n)

-- a test beside one that never holds, or always does
pub or_none : (b : Bool) → b || false ≡ b
or_none true = refl
or_none false = refl

pub and_true : (b : Bool) → b && true ≡ b
and_true true = refl
and_true false = refl

-- one of several tests holds
pub some_of : (ts : List Bool) (i : ℕ) → get_or ts i false ≡ true → any_of ts ≡ true
unfolding any_of
some_of [] i e = e
some_of (t ∷ ts) zero e = rw e
some_of (t ∷ ts) (suc i) e = rw (some_of ts i e) (or_true t)

-- a walk that looks for any place at which a test holds
pub any_start : (t : ℕ → Bool) → any t 0 ≡ false
unfolding any
any_start t = refl

pub any_more : (t : ℕ → Bool) (n : ℕ) → any t n ≡ false → t n ≡ false → any t (n + 1) ≡ false
unfolding any
any_more t n a b = rw (add-one n, a) b
