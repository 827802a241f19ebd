-- Sums, lengths and parts of collected lists and tables. Assumes nothing.
use Prim.Native.Nat.{ℕ, zero, suc, ◌+◌, ◌-◌, ◌≤◌, ◌<◌, zero-le, suc-le-suc}
use native.Mathlib.Nat.{add-zero, zero-add, add-suc, le_refl, not-suc-le-zero}
use native.Mathlib.Numerals.{add-one}
use native.Mathlib.Omega.{arith}
use native.Mathlib.Decide.{dec_lt}
use borrow.Author.Tests.{eq-eqb, ne_eqb}
use lib.Dec.{eqb}
use lib.Seq.{ext_get_or, get_or-take, get_or-drop, get_or-append-add}
use mathlib.Core.Path.{◌≡◌, refl, sym, ap, ap₂, ◌∙◌}
use mathlib.Core.Bool.{Bool, true, false, cond, ◌&&◌}
use mathlib.Core.List.{List, [], ◌∷◌, ◌++◌, map, append_assoc, append-nil}
use lib.ListN.{length, get_or, drop, length-append, length-take, length-drop, get_or-append}
use Rattle.columns.specs.Lists.{◌!◌, collect, tab, total, flat, sum, one, count, leading, insert, sort, part}

module _ {A : Type 0} (f : A → ℕ) where
  pub sum-append : (xs ys : List A) → sum f (xs ++ ys) ≡ sum f xs + sum f ys
  sum-append [] ys = sym (zero-add _)
  sum-append (a ∷ xs) ys = omega (arith, sum-append xs ys)

  pub sum-collect : (g : ℕ → List A) (n : ℕ) → sum f (collect g n) ≡ total (λ i. sum f (g i)) n
  sum-collect g zero = refl
  sum-collect g (suc n) = omega (arith, sum-append (collect g n) (g n), sum-collect g n)

  pub sum-insert : (le : A → A → Bool) (a : A) (xs : List A) → sum f (insert le a xs) ≡ f a + sum f xs
  sum-insert le a [] = refl
  sum-insert le a (b ∷ xs) = go (le a b) (sum-insert le a xs)
    where
      go : (t : Bool) → sum f (insert le a xs) ≡ f a + sum f xs → sum f (cond t (a ∷ b ∷ xs) (b ∷ insert le a xs)) ≡ f a + (f b + sum f xs)
      go true h = refl
      go false h = omega arith

  pub sum-sort : (le : A → A → Bool) (xs : List A) → sum f (sort le xs) ≡ sum f xs
  sum-sort le [] = refl
  sum-sort le (a ∷ xs) = sum-insert le a (sort le xs) ∙ ap (λ (n : ℕ). f a + n) (sum-sort le xs)

pub sum-flat : {A B : Type 0} (f : B → ℕ) (g : A → List B) (xs : List A) → sum f (flat g xs) ≡ sum (λ a. sum f (g a)) xs
sum-flat f g [] = refl
sum-flat f g (a ∷ xs) = omega (arith, sum-append f (g a) (flat g xs), sum-flat f g xs)

pub sum-map : {A B : Type 0} (f : B → ℕ) (g : A → B) (xs : List A) → sum f (map g xs) ≡ sum (λ a. f (g a)) xs
sum-map f g [] = refl
sum-map f g (a ∷ xs) = ap (λ (n : ℕ). f (g a) + n) (sum-map f g xs)

pub sum_ext : {A : Type 0} (f g : A → ℕ) → ((a : A) → f a ≡ g a) → (xs : List A) → sum f xs ≡ sum g xs
sum_ext f g h [] = refl
sum_ext f g h (a ∷ xs) = ap₂ ◌+◌ (h a) (sum_ext f g h xs)

pub sum-add : {A : Type 0} (f g : A → ℕ) (xs : List A) → sum (λ a. f a + g a) xs ≡ sum f xs + sum g xs
sum-add f g [] = refl
sum-add f g (a ∷ xs) = omega (arith, sum-add f g xs)

pub sum_one : {A : Type 0} (xs : List A) → sum (λ a. 1) xs ≡ length xs
sum_one [] = refl
sum_one (a ∷ xs) = omega (arith, sum_one xs)

pub sum_none : {A : Type 0} (xs : List A) → sum (λ a. 0) xs ≡ 0
sum_none [] = refl
sum_none (a ∷ xs) = omega (arith, sum_none xs)

pub total_ext : (f g : ℕ → ℕ) (n : ℕ) → ((i : ℕ) → i < n → f i ≡ g i) → total f n ≡ total g n
total_ext f g zero h = refl
total_ext f g (suc n) h = ap₂ ◌+◌ (total_ext f g n (λ i l. h i (omega arith))) (h n (omega arith))

pub total-add : (f g : ℕ → ℕ) (n : ℕ) → total (λ i. f i + g i) n ≡ total f n + total g n
total-add f g zero = refl
total-add f g (suc n) = omega (arith, total-add f g n)

pub total_none : (f : ℕ → ℕ) (n : ℕ) → ((i : ℕ) → i < n → f i ≡ 0) → total f n ≡ 0
total_none f zero h = refl
total_none f (suc n) h = omega (arith, total_none f n (λ i l. h i (omega arith)), h n (omega arith))

pub length-collect : {A : Type 0} (f : ℕ → List A) (n : ℕ) → length (collect f n) ≡ total (λ i. length (f i)) n
length-collect f zero = refl
length-collect f (suc n) = length-append (collect f n) (f n) ∙ ap (λ (k : ℕ). k + length (f n)) (length-collect f n)

pub length-flat : {A B : Type 0} (f : A → List B) (xs : List A) → length (flat f xs) ≡ sum (λ a. length (f a)) xs
length-flat f [] = refl
length-flat f (a ∷ xs) = length-append (f a) (flat f xs) ∙ ap (λ (k : ℕ). length (f a) + k) (length-flat f xs)

pub flat_append : {A B : Type 0} (f : A → List B) (xs ys : List A) → flat f (xs ++ ys) ≡ flat f xs ++ flat f ys
flat_append f [] ys = refl
flat_append f (a ∷ xs) ys = ap (λ (l : List _). f a ++ l) (flat_append f xs ys) ∙ sym (append_assoc (f a) (flat f xs) (flat f ys))

pub collect_ext : {A : Type 0} (f g : ℕ → List A) (n : ℕ) → ((i : ℕ) → i < n → f i ≡ g i) → collect f n ≡ collect g n
collect_ext f g zero h = refl
collect_ext f g (suc n) h = ap₂ ◌++◌ (collect_ext f g n (λ i l. h i (omega arith))) (h n (omega arith))

pub total-le : (f g : ℕ → ℕ) (n : ℕ) → ((i : ℕ) → i < n → f i ≤ g i) → total f n ≤ total g n
total-le f g zero h = omega arith
total-le f g (suc n) h = omega (arith, total-le f g n (λ i l. h i (omega arith)), h n (omega arith))

pub map-append : {A B : Type 0} (f : A → B) (xs ys : List A) → map f (xs ++ ys) ≡ map f xs ++ map f ys
map-append f [] ys = refl
map-append f (a ∷ xs) ys = ap (λ (l : List _). f a ∷ l) (map-append f xs ys)

pub map-collect : {A B : Type 0} (f : A → B) (g : ℕ → List A) (n : ℕ) → map f (collect g n) ≡ collect (λ i. map f (g i)) n
map-collect f g zero = refl
map-collect f g (suc n) = map-append f (collect g n) (g n) ∙ ap (λ (l : List _). l ++ map f (g n)) (map-collect f g n)

pub map-tab : {A B : Type 0} (f : A → B) (g : ℕ → A) (n : ℕ) → map f (tab g n) ≡ tab (λ i. f (g i)) n
unfolding tab
map-tab f g n = map-collect f (λ i. g i ∷ []) n

pub flat-tab : {A B : Type 0} (f : A → List B) (r : ℕ → A) (n : ℕ) → flat f (tab r n) ≡ collect (λ k. f (r k)) n
unfolding tab
flat-tab f r zero = refl
flat-tab f r (suc n) = flat_append f (tab r n) (r n ∷ []) ∙ ap₂ ◌++◌ (flat-tab f r n) (append-nil (f (r n)))

pub sum-tab : {A : Type 0} (f : A → ℕ) (g : ℕ → A) (n : ℕ) → sum f (tab g n) ≡ total (λ i. f (g i)) n
unfolding tab
sum-tab f g n = sum-collect f (λ i. g i ∷ []) n ∙ total_ext _ _ n (λ i l. add-zero (f (g i)))

pub tab_ext : {A : Type 0} (f g : ℕ → A) (n : ℕ) → ((i : ℕ) → i < n → f i ≡ g i) → tab f n ≡ tab g n
unfolding tab
tab_ext f g n h = collect_ext _ _ n (λ i l. ap (λ (a : _). a ∷ []) (h i l))

-- the sum up to a place is at most the sum past it
pub total_mono : (f : ℕ → ℕ) (n i : ℕ) → i < n → total f i + f i ≤ total f n
total_mono f zero i h = absurd (not-suc-le-zero h)
total_mono f (suc n) i h = go (dec_lt i n) (total_mono f n i)
  where
    go : Dec (i < n) → (i < n → total f i + f i ≤ total f n) → total f i + f i ≤ total f n + f n
    go (yes p) ih = omega (arith, ih p)
    go (no p) ih = let e : i ≡ n = omega arith in rw e (omega arith)

-- Element k of part o stands behind the lengths of the parts before it.
pub get_d_collect : {A : Type 0} (f : ℕ → List A) (d : A) (n o k : ℕ) → o < n → k < length (f o)
    → get_or (collect f n) (total (λ i. length (f i)) o + k) d ≡ get_or (f o) k d
get_d_collect f d zero o k h l = absurd (not-suc-le-zero h)
get_d_collect f d (suc n) o k h l = go (dec_lt o n) (λ p. get_d_collect f d n o k p l)
  where
    go : Dec (o < n) → (o < n → get_or (collect f n) (total (λ i. length (f i)) o + k) d ≡ get_or (f o) k d)
        → get_or (collect f n ++ f n) (total (λ i. length (f i)) o + k) d ≡ get_or (f o) k d
    go (yes p) ih = get_or-append (collect f n) (f n) d _ (omega (arith, total_mono (λ i. length (f i)) n o p, length-collect f n)) ∙ ih p
    go (no p) ih =
        let e : o ≡ n = omega arith in
        rw (e, ← length-collect f n, get_or-append-add (collect f n) (f n) k d)

-- of a sum with one term that counts, that term
pub total_pick : (f : ℕ → ℕ) (o n : ℕ) → o < n → total (λ i. cond (eqb i o) (f i) 0) n ≡ f o
total_pick f o zero h = absurd (not-suc-le-zero h)
total_pick f o (suc n) h = go (dec_lt o n) (total_pick f o n)
  where
    zeros : o ≡ n → (i : ℕ) → i < n → cond (eqb i o) (f i) 0 ≡ 0
    zeros e i l = rw (ne_eqb i o (λ q. omega arith))

    go : Dec (o < n) → (o < n → total (λ i. cond (eqb i o) (f i) 0) n ≡ f o) → total (λ i. cond (eqb i o) (f i) 0) n + cond (eqb n o) (f n) 0 ≡ f o
    go (yes p) ih = rw (ih p, ne_eqb n o (λ q. omega arith)) (add-zero _)
    go (no p) ih =
        let e : o ≡ n = omega arith in
        rw (total_none (λ i. cond (eqb i o) (f i) 0) n (zeros e), eq-eqb n o (sym e)) (zero-add _ ∙ ap f (sym e))

-- sums never fall
pub total-le-total : (f : ℕ → ℕ) (n k : ℕ) → total f n ≤ total f (n + k)
total-le-total f n zero = rw (add-zero n) (le_refl _)
total-le-total f n (suc k) = rw (add-suc n k) (omega (arith, total-le-total f n k))

-- a part, by its places
pub part_at : (xs : List ℕ) (a b k : ℕ) → k < b - a → part xs a b ! k ≡ xs ! (a + k)
part_at xs a b k l = get_or-take (b - a) (drop a xs) k 0 l ∙ get_or-drop a xs k 0

pub part_length_lem : {A : Type 0} (xs : List A) (a b : ℕ) → b ≤ length xs → length (part xs a b) ≡ b - a
part_length_lem xs a b h = simp (length-take, length-drop) (omega arith)

-- a collected list's parts are what was collected
pub part-collect : (f : ℕ → List ℕ) (n o : ℕ) → o < n → part (collect f n) (total (λ i. length (f i)) o) (total (λ i. length (f i)) (suc o)) ≡ f o
part-collect f n o h =
    let t : ℕ → ℕ = total (λ i. length (f i)) in
    let size : length (part (collect f n) (t o) (t o + length (f o))) ≡ length (f o)
    = simp (length-take, length-drop, length-collect) (omega (arith, total_mono (λ i. length (f i)) n o h)) in
    ext_get_or 0 (part (collect f n) (t o) (t o + length (f o))) (f o) size
    (λ k l. get_or-take (t o + length (f o) - t o) (drop (t o) (collect f n)) k 0 (omega arith) ∙ get_or-drop (t o) (collect f n) k 0
    ∙ get_d_collect f 0 n o k h (omega arith))

-- sorting keeps the length
pub length-sort : {A : Type 0} (le : A → A → Bool) (xs : List A) → length (sort le xs) ≡ length xs
length-sort le xs = sym (sum_one (sort le xs)) ∙ sum-sort (λ a. 1) le xs ∙ sum_one xs

-- what is collected, or summed, up to a place and behind it
pub collect_cut : {A : Type 0} (f : ℕ → List A) (m n : ℕ) → collect f (m + n) ≡ collect f m ++ collect (λ i. f (m + i)) n
collect_cut f m zero = rw (add-zero m) (sym (append-nil (collect f m)))
collect_cut {A} f m (suc n) =
    rw (add-suc m n) (ap (λ (l : List A). l ++ f (m + n)) (collect_cut f m n) ∙ append_assoc (collect f m) (collect (λ i. f (m + i)) n) (f (m + n)))

pub total_cut : (f : ℕ → ℕ) (m n : ℕ) → total f (m + n) ≡ total f m + total (λ i. f (m + i)) n
total_cut f m zero = rw (add-zero m) (sym (add-zero _))
total_cut f m (suc n) = rw (add-suc m n) (omega (arith, total_cut f m n))

-- a sum one number further, and at its end
pub total_more : (f : ℕ → ℕ) (n : ℕ) {s v : ℕ} → s ≡ total f n → v ≡ f n → s + v ≡ total f (n + 1)
total_more f n e d = rw (add-one n, e, d)

pub total-end : (f : ℕ → ℕ) {n i s : ℕ} → s ≡ total f i → i ≤ n → n ≤ i → s ≡ total f n
total-end f {n} {i} e l m = let q : i ≡ n = omega arith in rw (← q) e

pub one_few : (b : Bool) → one b ≤ 1
one_few true = omega arith
one_few false = omega arith

-- a number below all of a list does not stand in it
pub count_none : (v : ℕ) (xs : List ℕ) → ((j : ℕ) → j < length xs → v < xs ! j) → count v xs ≡ 0
count_none v [] h = refl
count_none v (a ∷ xs) h =
    let l : v < a = h 0 (suc-le-suc zero-le) in
    rw (ne_eqb a v (λ e. omega arith)) (omega (arith, count_none v xs (λ j k. h (suc j) (suc-le-suc k))))

-- how many places pass before one fails: no more than there are, all where all pass, and as many by an equal test
pub leading_within : (t : ℕ → Bool) (n : ℕ) → leading t n ≤ n
leading_within t zero = zero-le
leading_within t (suc n) = go (eqb (leading t n) n && t n) (leading_within t n)
  where
    go : (b : Bool) → leading t n ≤ n → cond b (suc n) (leading t n) ≤ suc n
    go true l = omega arith
    go false l = omega arith

pub leading_all : (t : ℕ → Bool) (n : ℕ) → ((k : ℕ) → t k ≡ true) → leading t n ≡ n
leading_all t zero h = refl
leading_all t (suc n) h = rw (leading_all t n h, h n, eq-eqb n n refl)

pub leading_ext : (t u : ℕ → Bool) (n : ℕ) → ((k : ℕ) → t k ≡ u k) → leading t n ≡ leading u n
leading_ext t u zero h = refl
leading_ext t u (suc n) h = rw (leading_ext t u n h, h n)
