-- The places of a test cut in two, the places of each value, sums by places, and lists made of lists beside the list that says from which one each
-- element comes.
-- Assumes nothing.
use Prim.Native.Nat.{ℕ, zero, suc, ◌+◌, ◌<◌}
use native.Mathlib.Nat.{add-zero, add-suc}
use native.Mathlib.Numerals.{add-one}
use native.Mathlib.Omega.{arith}
use mathlib.Core.Path.{◌≡◌, refl, sym, ap, ap₂, ◌∙◌}
use mathlib.Core.Bool.{Bool, true, false, cond, false≢true}
use mathlib.Core.List.{List, [], ◌∷◌, ◌++◌, map, map-map, append_assoc, append-nil}
use lib.Dec.{eqb}
use lib.ListN.{length, length-map, length-append}
use lib.Seq.{ext_get_or}
use borrow.Author.Tests.{eq-eqb, ne_eqb, eqb-true, eqb-false}
use Rattle.columns.specs.Lists.{◌!◌, collect, tab, places, total, sum, one, count}
use Rattle.columns.proofs.Lists.{map_at, tab-length, tab-at}
use Rattle.columns.proofs.Every.{Every, every_map, every-collect, every-at}
use Rattle.columns.proofs.Sums.{sum-collect, sum-map, sum_one, sum_none, sum-tab, total_ext, total-add, total_none, total_pick, total_mono}
use Rattle.columns.proofs.Sums.{map-append, map-collect, collect_ext}
use Rattle.columns.proofs.Counts.{places-length}

pub eqb_sym : (a b : ℕ) → eqb a b ≡ eqb b a
eqb_sym a b = go (eqb a b) refl
  where
    go : (x : Bool) → eqb a b ≡ x → x ≡ eqb b a
    go true e = sym (eq-eqb b a (sym (eqb-true a b e)))
    go false e = sym (ne_eqb b a (λ q. eqb-false a b e (sym q)))

pub map_ext : {A B : Type 0} (f g : A → B) → ((a : A) → f a ≡ g a) → (xs : List A) → map f xs ≡ map g xs
map_ext f g h [] = refl
map_ext f g h (a ∷ xs) = ap₂ ◌∷◌ (h a) (map_ext f g h xs)

-- what holds of every element, and so what follows from it
pub every_more : {A : Type 0} (P Q : A → Type 0) → ((a : A) → P a → Q a) → (xs : List A) → Every P xs → Every Q xs
every_more P Q h [] e = tt
every_more P Q h (a ∷ xs) e = (h a e.0, every_more P Q h xs e.1)

-- sums of sums, either way
pub total_swap : (f : ℕ → ℕ → ℕ) (m n : ℕ) → total (λ i. total (λ j. f i j) n) m ≡ total (λ j. total (λ i. f i j) m) n
total_swap f zero n = sym (total_none _ n (λ i l. refl))
total_swap f (suc m) n = ap (λ (z : ℕ). z + total (λ j. f m j) n) (total_swap f m n) ∙ sym (total-add (λ j. total (λ i. f i j) m) (λ j. f m j) n)

-- the places below a + d: those below a, then those from a on
pub places_split : (t : ℕ → Bool) (a d : ℕ) → places t (a + d) ≡ places t a ++ map (λ k. a + k) (places (λ k. t (a + k)) d)
unfolding places
places_split t a zero = rw (add-zero a) (sym (append-nil (places t a)))
places_split t a (suc d) =
    rw (add-suc a d)
    (ap (λ (xs : List ℕ). xs ++ cond (t (a + d)) ((a + d) ∷ []) []) (places_split t a d)
    ∙ append_assoc (places t a) (map (λ k. a + k) (places (λ k. t (a + k)) d)) _
    ∙ ap (λ (xs : List ℕ). places t a ++ xs) (ap (λ (xs : List ℕ). map (λ k. a + k) (places (λ k. t (a + k)) d) ++ xs) (last (t (a + d)))
    ∙ sym (map-append (λ k. a + k) (places (λ k. t (a + k)) d) (cond (t (a + d)) (d ∷ []) []))))
  where
    last : (b : Bool) → cond b ((a + d) ∷ []) [] ≡ map (λ k. a + k) (cond b (d ∷ []) [])
    last true = refl
    last false = refl

-- as many places as there are numbers, over all values below n
pub each_value : (f : ℕ → ℕ) (n m : ℕ) → ((k : ℕ) → k < m → f k < n) → total (λ t. length (places (λ k. eqb (f k) t) m)) n ≡ m
unfolding places
each_value f n zero h = total_none _ n (λ i l. refl)
each_value f n (suc m) h =
    total_ext _ _ n (λ t l. more t) ∙ total-add (λ t. length (places (λ k. eqb (f k) t) m)) (λ t. cond (eqb t (f m)) 1 0) n
    ∙ ap₂ ◌+◌ (each_value f n m (λ k l. h k (omega arith))) (total_pick (λ t. 1) (f m) n (h m (omega arith))) ∙ add-one m
  where
    more : (t : ℕ) → length (places (λ k. eqb (f k) t) m ++ cond (eqb (f m) t) (m ∷ []) []) ≡ length (places (λ k. eqb (f k) t) m) + cond (eqb t (f m)) 1 0
    more t = length-append (places (λ k. eqb (f k) t) m) (cond (eqb (f m) t) (m ∷ []) [])
        ∙ ap (λ (z : ℕ). length (places (λ k. eqb (f k) t) m) + z) (go (eqb (f m) t) (eqb t (f m)) (eqb_sym (f m) t))
      where
        go : (a b : Bool) → a ≡ b → length (cond a (m ∷ []) []) ≡ cond b 1 0
        go true true e = refl
        go true false e = absurd (false≢true (sym e))
        go false true e = absurd (false≢true e)
        go false false e = refl

-- how often a number stands in a list, both moved by a
pub count_shift : (a v : ℕ) (xs : List ℕ) → count (a + v) (map (λ k. a + k) xs) ≡ count v xs
count_shift a v [] = refl
count_shift a v (k ∷ xs) = ap₂ ◌+◌ (ap one (go (eqb k v) refl)) (count_shift a v xs)
  where
    go : (b : Bool) → eqb k v ≡ b → eqb (a + k) (a + v) ≡ eqb k v
    go true e = eq-eqb (a + k) (a + v) (ap (λ (z : ℕ). a + z) (eqb-true k v e)) ∙ sym e
    go false e = ne_eqb (a + k) (a + v) (λ q. eqb-false k v e (omega arith)) ∙ sym e

-- Lists one behind the other, and beside each element the number of the list that it comes from.
module _ (f : ℕ → List ℕ) where
  abbrev owned : ℕ → List (ℕ × ℕ)
  owned n = collect (λ o. map (λ e. (o, e)) (f o)) n

  owners_are : (n : ℕ) → map (λ (p : ℕ × ℕ). p.0) (owned n) ≡ collect (λ o. map (λ e. o) (f o)) n
  owners_are n = map-collect (λ (p : ℕ × ℕ). p.0) (λ o. map (λ e. (o, e)) (f o)) n ∙ collect_ext _ _ n (λ o l. map-map (λ (p : ℕ × ℕ). p.0) (λ e. (o, e)) (f o))

  owned_are : (n : ℕ) → map (λ (p : ℕ × ℕ). p.1) (owned n) ≡ collect f n
  owned_are n = map-collect (λ (p : ℕ × ℕ). p.1) (λ o. map (λ e. (o, e)) (f o)) n
      ∙ collect_ext _ _ n (λ o l. map-map (λ (p : ℕ × ℕ). p.1) (λ e. (o, e)) (f o) ∙ same (f o))
    where
      same : (xs : List ℕ) → map (λ (e : ℕ). e) xs ≡ xs
      same [] = refl
      same (a ∷ xs) = ap (λ (l : List ℕ). a ∷ l) (same xs)

  -- what holds of a list's number and each of its elements holds of both at one place
  pub owner_at : (P : ℕ → ℕ → Type 0) (n : ℕ) → ((o : ℕ) → o < n → Every (P o) (f o)) → (q : ℕ) → q < length (collect f n)
      → P (collect (λ o. map (λ e. o) (f o)) n ! q) (collect f n ! q)
  owner_at P n h q l =
      let size : length (collect f n) ≡ length (owned n) = ap length (sym (owned_are n)) ∙ length-map (owned n) (λ (p : ℕ × ℕ). p.1) in
      let b : q < length (owned n) = omega arith in
      rw (← owners_are n, ← owned_are n, map_at (λ (p : ℕ × ℕ). p.0) (0, 0) (owned n) q b, map_at (λ (p : ℕ × ℕ). p.1) (0, 0) (owned n) q b)
      (every-at (λ (p : ℕ × ℕ). P p.0 p.1) (0, 0) (owned n)
      (every-collect (λ (p : ℕ × ℕ). P p.0 p.1) _ n (λ o m. every_map (P o) (λ (p : ℕ × ℕ). P p.0 p.1) (λ e. (o, e)) (λ e g. g) (f o) (h o m))) q b)

  -- how often a list's number stands beside them: once for each of its elements
  pub owner_count : (n o : ℕ) → o < n → count o (collect (λ i. map (λ e. i) (f i)) n) ≡ length (f o)
  owner_count n o l =
      sum-collect (λ a. one (eqb a o)) (λ i. map (λ e. i) (f i)) n ∙ total_ext _ _ n (λ i m. sum-map (λ a. one (eqb a o)) (λ e. i) (f i) ∙ each (eqb i o) (f i))
      ∙ total_pick (λ i. length (f i)) o n l
    where
      each : (b : Bool) (xs : List ℕ) → sum (λ a. one b) xs ≡ cond b (length xs) 0
      each true xs = sum_one xs
      each false xs = sum_none xs

-- a list summed by its places, and how often a number stands there
pub sum_index : (f : ℕ → ℕ) (xs : List ℕ) → sum f xs ≡ total (λ k. f (xs ! k)) (length xs)
sum_index f xs = ap (sum f) same ∙ sum-tab f (λ k. xs ! k) (length xs)
  where
    size : length (tab (λ k. xs ! k) (length xs)) ≡ length xs
    size = tab-length (λ k. xs ! k) (length xs)

    same : xs ≡ tab (λ k. xs ! k) (length xs)
    same = ext_get_or 0 xs (tab (λ k. xs ! k) (length xs)) (sym size) (λ k l. sym (tab-at (λ k. xs ! k) 0 (length xs) k l))

pub count_index : (v : ℕ) (xs : List ℕ) → length (places (λ k. eqb (xs ! k) v) (length xs)) ≡ count v xs
count_index v xs = places-length (λ k. eqb (xs ! k) v) (length xs) ∙ sym (sum_index (λ a. one (eqb a v)) xs)

-- a sum that is 0 has no part above 0
pub total-zero : (f : ℕ → ℕ) (n : ℕ) → total f n ≡ 0 → (i : ℕ) → i < n → f i ≡ 0
total-zero f n e i l = omega (arith, total_mono f n i l)
