-- Bisection: what a turn of the loop keeps, and that in a list that rises it ends at the rank. Assumes nothing.
use mathlib.Core.Path.{◌≡◌, refl, sym, ap, ◌∙◌}
use mathlib.Core.Logic.{◌⊎◌, inl, inr, ⊎_elim}
use mathlib.Core.List.{List, [], ◌∷◌}
use Prim.Native.Nat.{ℕ, zero, suc, ◌+◌, ◌-◌, ◌/◌, ◌≤◌, ◌<◌, zero-le}
use native.Mathlib.Nat.{add-zero, add-suc, not-suc-le-zero}
use native.Mathlib.Numerals.{add-one}
use native.Mathlib.Omega.{arith}
use borrow.Author.Tests.{lt-ltb, le-ltb}
use lib.ListN.{length}
use Rattle.columns.specs.Lists.{◌!◌}
use Rattle.columns.specs.Ranks.{Rises, Climbs, rank, Ranked, front, halve, behind, bisect}
use Rattle.columns.proofs.Lists.{lt_or_ge}

-- One halving: the front that is left, and how far it reaches.
module _ (xs : List ℕ) (x lo n : ℕ) where
  pub front_below : xs ! (lo + n / 2) < x → front xs x lo n ≡ lo + n / 2
  unfolding front
  front_below h = rw (lt-ltb _ _ h)

  pub front_above : x ≤ xs ! (lo + n / 2) → front xs x lo n ≡ lo
  unfolding front
  front_above h = rw (le-ltb _ _ h)

  front_reach : front xs x lo n ≤ lo + n / 2
  front_reach = ⊎_elim (λ h. omega (arith, front_below h)) (λ h. omega (arith, front_above h)) (lt_or_ge (xs ! (lo + n / 2)) x)

  -- the middle stands in the column, and so does all that is left
  pub middle_in : (0 < n) × (lo + n ≤ length xs) → lo + n / 2 < length xs
  middle_in h = omega (arith, h.0, h.1)

  pub front_in : (r : ℕ) → r ≡ front xs x lo n → (0 < n) × (lo + n ≤ length xs) → (0 < n - n / 2) × (r + (n - n / 2) ≤ length xs)
  front_in r e h = (omega (arith, h.0), omega (arith, e, h.1, front_reach))

  front-one : n ≤ 1 → front xs x lo n ≡ lo
  front-one o = ⊎_elim (λ h. omega (arith, front_below h)) (λ h. omega (arith, front_above h)) (lt_or_ge (xs ! (lo + n / 2)) x)

pub halve-one : (f : ℕ) (xs : List ℕ) (x lo n : ℕ) → n ≤ 1 → halve f xs x lo n ≡ lo
unfolding halve
halve-one zero xs x lo n h = refl
halve-one (suc f) xs x lo n h = rw (front-one xs x lo n h) (halve-one f xs x lo (n - n / 2) (omega arith))

-- what the halvings leave on the way that the middle one says, they leave of the whole
module _ (f : ℕ) (xs : List ℕ) (x lo n r : ℕ) where
  pub halve_below : xs ! (lo + n / 2) < x → r ≡ halve f xs x (lo + n / 2) (n - n / 2) → r ≡ halve (suc f) xs x lo n
  unfolding halve
  halve_below h e = rw (front_below xs x lo n h) e

  pub halve_above : x ≤ xs ! (lo + n / 2) → r ≡ halve f xs x lo (n - n / 2) → r ≡ halve (suc f) xs x lo n
  unfolding halve
  halve_above h e = rw (front_above xs x lo n h) e

-- among the n numbers from lo on the bisection that is left ends at r
pub record Bisecting (xs : List ℕ) (x lo n r : ℕ) : Type 0 where
  pub not_none : 0 < n
  pub within : lo + n ≤ length xs
  pub fuel : ℕ
  pub enough : n ≤ suc fuel
  pub ends : behind xs x (halve fuel xs x lo n) ≡ r

pub bisecting_start : (xs : List ℕ) (x : ℕ) → 0 < length xs → Bisecting xs x 0 (length xs) (bisect xs x)
unfolding bisect
bisecting_start xs x h =
    record { not_none = h; within = omega arith; fuel = length xs; enough = omega arith; ends = rw (lt-ltb 0 (length xs) h) }

pub bisect-empty : (xs : List ℕ) (x : ℕ) → length xs ≤ 0 → bisect xs x ≡ 0
unfolding bisect
bisect-empty xs x h = rw (le-ltb 0 (length xs) h)

module _ {xs : List ℕ} {x lo n r : ℕ} (b : Bisecting xs x lo n r) where
  pub bisecting_on : Bisecting xs x (front xs x lo n) (n - n / 2) r
  unfolding halve
  bisecting_on = go b.fuel b.enough b.ends
    where
      go : (f : ℕ) → n ≤ suc f → behind xs x (halve f xs x lo n) ≡ r → Bisecting xs x (front xs x lo n) (n - n / 2) r
      go zero e s =
          record { not_none = omega (arith, b.not_none); within = omega (arith, b.within, front_reach xs x lo n); fuel = 0; enough = omega arith; ends = rw (front-one xs x lo n e) s }
      go (suc f) e s =
          record { not_none = omega (arith, b.not_none); within = omega (arith, b.within, front_reach xs x lo n); fuel = f; enough = omega arith; ends = s }

  pub bisecting_end : n ≤ 1 → behind xs x lo ≡ r
  bisecting_end h = ap (behind xs x) (sym (halve-one b.fuel xs x lo n h)) ∙ b.ends

-- three halvings leave an eighth
pub bisecting_three : {xs : List ℕ} {x lo n r : ℕ} → Bisecting xs x lo n r → (p : ℕ) → p ≡ halve 3 xs x lo n → Bisecting xs x p ((n + 7) / 8) r
unfolding halve
bisecting_three {xs} {x} {lo} {n} {r} b p s =
    let half = n - n / 2 in
    let e : half - half / 2 - (half - half / 2) / 2 ≡ (n + 7) / 8 = omega arith in
    rw (s, ← e) (bisecting_on (bisecting_on (bisecting_on b)))

-- twelve halvings of at most 4,096 leave one number
pub bisecting_twelve : {xs : List ℕ} {x lo n r : ℕ} → Bisecting xs x lo n r → n ≤ 4096 → (a b c p : ℕ)
    → a ≡ halve 3 xs x lo n → b ≡ halve 3 xs x a ((n + 7) / 8) → c ≡ halve 3 xs x b (((n + 7) / 8 + 7) / 8)
    → p ≡ halve 3 xs x c ((((n + 7) / 8 + 7) / 8 + 7) / 8) → (p < length xs) × (behind xs x p ≡ r)
bisecting_twelve h most a b c p ea eb ec ep =
    let d = bisecting_three (bisecting_three (bisecting_three (bisecting_three h a ea) b eb) c ec) p ep in
    (omega (arith, d.not_none, d.within), bisecting_end d (omega arith))

halve_within : (f : ℕ) (xs : List ℕ) (x lo n : ℕ) → 0 < n → halve f xs x lo n < lo + n
unfolding halve
halve_within zero xs x lo n h = omega arith
halve_within (suc f) xs x lo n h = omega (arith, halve_within f xs x (front xs x lo n) (n - n / 2) (omega arith), front_reach xs x lo n)

-- the last look
module _ (xs : List ℕ) (x p : ℕ) where
  pub behind-below : xs ! p < x → behind xs x p ≡ p + 1
  unfolding behind
  behind-below h = rw (lt-ltb (xs ! p) x h)

  pub behind_above : x ≤ xs ! p → behind xs x p ≡ p
  unfolding behind
  behind_above h = rw (le-ltb (xs ! p) x h)

  behind_within : behind xs x p ≤ p + 1
  behind_within = ⊎_elim (λ h. omega (arith, behind-below h)) (λ h. omega (arith, behind_above h)) (lt_or_ge (xs ! p) x)

bisect_within : (xs : List ℕ) (x : ℕ) → bisect xs x ≤ length xs
unfolding bisect
bisect_within xs x =
    ⊎_elim
    (λ h. rw (lt-ltb 0 (length xs) h) (omega (arith, behind_within xs x (halve (length xs) xs x 0 (length xs)), halve_within (length xs) xs x 0 (length xs) h)))
    (λ h. rw (le-ltb 0 (length xs) h) zero-le)
    (lt_or_ge 0 (length xs))

-- where all before r is below x and the rest is not, it ends at r
module _ (xs : List ℕ) (x r : ℕ) (below : (p : ℕ) → p < r → xs ! p < x) (above : (p : ℕ) → r ≤ p → p < length xs → x ≤ xs ! p) where
  -- the number at m says on which side of r it is
  left : (m : ℕ) → m < length xs → xs ! m < x → m < r
  left m l h = ⊎_elim (λ g. g) (λ g. absurd (omega (arith, above m g l))) (lt_or_ge m r)

  right : (m : ℕ) → x ≤ xs ! m → r ≤ m
  right m h = ⊎_elim (λ g. absurd (omega (arith, below m g))) (λ g. g) (lt_or_ge m r)

  behind-ends : (lo : ℕ) → lo < length xs → lo ≤ r → r ≤ lo + 1 → behind xs x lo ≡ r
  behind-ends lo h a b =
      ⊎_elim
      (λ l. omega (arith, behind-below xs x lo l, left lo h l))
      (λ l. omega (arith, behind_above xs x lo l, right lo l))
      (lt_or_ge (xs ! lo) x)

  halve-ends : (f lo n : ℕ) → 0 < n → lo + n ≤ length xs → lo ≤ r → r ≤ lo + n → n ≤ suc f → behind xs x (halve f xs x lo n) ≡ r
  unfolding halve
  halve-ends zero lo n o c a b d = behind-ends lo (omega arith) a (omega arith)
  halve-ends (suc f) lo n o c a b d =
      ⊎_elim
      (λ l. halve-ends f (front xs x lo n) (n - n / 2) (omega arith) (omega (arith, front_below xs x lo n l)) (omega (arith, front_below xs x lo n l, left (lo + n / 2) (omega arith) l)) (omega (arith, front_below xs x lo n l)) (omega arith))
      (λ l. halve-ends f (front xs x lo n) (n - n / 2) (omega arith) (omega (arith, front_above xs x lo n l)) (omega (arith, front_above xs x lo n l)) (omega (arith, front_above xs x lo n l, right (lo + n / 2) l)) (omega arith))
      (lt_or_ge (xs ! (lo + n / 2)) x)

  pub bisect-ends : r ≤ length xs → bisect xs x ≡ r
  unfolding bisect
  bisect-ends h =
      ⊎_elim
      (λ l. rw (lt-ltb 0 (length xs) l) (halve-ends (length xs) 0 (length xs) l (omega arith) zero-le (omega arith) (omega arith)))
      (λ l. rw (le-ltb 0 (length xs) l) (omega arith))
      (lt_or_ge 0 (length xs))

-- The rank, one number more at the front at a time.
pub rank_within : (xs : List ℕ) (x : ℕ) → rank xs x ≤ length xs
unfolding rank
rank_within [] x = omega arith
rank_within (a ∷ xs) x = ⊎_elim (λ h. rw (lt-ltb a x h) (omega (arith, rank_within xs x))) (λ h. rw (le-ltb a x h) (omega (arith, rank_within xs x))) (lt_or_ge a x)

pub rank-zero : (xs : List ℕ) (x : ℕ) → ((i : ℕ) → i < length xs → x ≤ xs ! i) → rank xs x ≡ 0
unfolding rank
rank-zero [] x h = refl
rank-zero (a ∷ xs) x h = rw (le-ltb a x (h 0 (omega arith))) (omega (arith, rank-zero xs x (λ i l. h (suc i) (omega arith))))

pub rank_more : (a : ℕ) (xs : List ℕ) (x : ℕ) → a < x → rank (a ∷ xs) x ≡ suc (rank xs x)
unfolding rank
rank_more a xs x h = rw (lt-ltb a x h) (omega arith)

pub rank_same : (a : ℕ) (xs : List ℕ) (x : ℕ) → x ≤ a → rank (a ∷ xs) x ≡ rank xs x
unfolding rank
rank_same a xs x h = rw (le-ltb a x h) (omega arith)

-- In a list that never falls all before the rank is below x, and the rest is not; so bisection ends there.
pub head_least : (a : ℕ) (xs : List ℕ) → Climbs (a ∷ xs) → (i : ℕ) → i < length xs → a ≤ xs ! i
head_least a xs h zero l = h 0 (omega arith)
head_least a xs h (suc i) l = omega (arith, head_least a xs h i (omega arith), h (suc i) (omega arith))

climbs_below : (xs : List ℕ) (x : ℕ) → Climbs xs → (i : ℕ) → i < rank xs x → xs ! i < x
climbs_below [] x h i l = absurd (omega (arith, rank-zero [] x (λ j m. absurd (not-suc-le-zero m))))
climbs_below (a ∷ xs) x h i l = go (lt_or_ge a x) i l (climbs_below xs x (λ j m. h (suc j) (omega arith)))
  where
    go : (a < x) ⊎ (x ≤ a) → (i : ℕ) → i < rank (a ∷ xs) x → ((i : ℕ) → i < rank xs x → xs ! i < x) → (a ∷ xs) ! i < x
    go (inl m) zero l ih = m
    go (inl m) (suc i) l ih = ih i (omega (arith, rank_more a xs x m))
    go (inr m) i l ih = absurd (omega (arith, rank_same a xs x m, rank-zero xs x (λ j k. omega (arith, head_least a xs h j k))))

climbs_above : (xs : List ℕ) (x : ℕ) → Climbs xs → (i : ℕ) → rank xs x ≤ i → i < length xs → x ≤ xs ! i
climbs_above [] x h i m l = absurd (not-suc-le-zero l)
climbs_above (a ∷ xs) x h i m l = go (lt_or_ge a x) i m l (climbs_above xs x (λ j k. h (suc j) (omega arith)))
  where
    go : (a < x) ⊎ (x ≤ a) → (i : ℕ) → rank (a ∷ xs) x ≤ i → i < suc (length xs) → ((i : ℕ) → rank xs x ≤ i → i < length xs → x ≤ xs ! i) → x ≤ (a ∷ xs) ! i
    go (inl q) zero m l ih = absurd (omega (arith, rank_more a xs x q))
    go (inl q) (suc i) m l ih = ih i (omega (arith, rank_more a xs x q)) (omega arith)
    go (inr q) zero m l ih = q
    go (inr q) (suc i) m l ih = omega (arith, head_least a xs h i (omega arith))

pub bisect_climbs : (xs : List ℕ) (x : ℕ) → Climbs xs → bisect xs x ≡ rank xs x
bisect_climbs xs x h = bisect-ends xs x (rank xs x) (climbs_below xs x h) (climbs_above xs x h) (rank_within xs x)

-- Where no x stands at the rank of x, none stands behind it: the rank of the next number is the same.
pub climbs_next : (xs : List ℕ) (x : ℕ) → Climbs xs → (rank xs x < length xs → xs ! rank xs x ≡ x → ⊥) → rank xs (x + 1) ≡ rank xs x
climbs_next xs x h none =
    sym (bisect_climbs xs (x + 1) h)
    ∙ bisect-ends xs (x + 1) (rank xs x)
    (λ p l. omega (arith, climbs_below xs x h p l))
    (λ p g l. let e : p ≡ rank xs x + (p - rank xs x) = omega arith in rw e (above (p - rank xs x) (omega arith)))
    (rank_within xs x)
  where
    above : (k : ℕ) → rank xs x + k < length xs → x + 1 ≤ xs ! (rank xs x + k)
    above zero l =
        rw (add-zero (rank xs x))
        (⊎_elim
        (λ g. omega arith)
        (λ g. absurd (none (omega arith) (omega (arith, climbs_above xs x h (rank xs x) (omega arith) (omega arith)))))
        (lt_or_ge x (xs ! rank xs x)))
    above (suc k) l = rw (add-suc (rank xs x) k) (omega (arith, above k (omega arith), h (rank xs x + k) (omega arith)))

-- A list that rises never falls.
rises_climbs : (xs : List ℕ) → Rises xs → Climbs xs
rises_climbs xs rise i l = omega (arith, rise i (suc i) (omega arith) l)

module _ (xs : List ℕ) (x : ℕ) (rise : Rises xs) where
  pub rank_below : (p : ℕ) → p < rank xs x → xs ! p < x
  rank_below = climbs_below xs x (rises_climbs xs rise)

  pub rank_above : (p : ℕ) → rank xs x ≤ p → p < length xs → x ≤ xs ! p
  rank_above = climbs_above xs x (rises_climbs xs rise)

  -- In a list that rises, bisection ends at the rank.
  pub bisect-rank : bisect xs x ≡ rank xs x
  bisect-rank = bisect_climbs xs x (rises_climbs xs rise)

pub bisect-ranked : (xs : List ℕ) (x r : ℕ) → r ≡ bisect xs x → Ranked xs x r
bisect-ranked xs x r e = record { within = rw e (bisect_within xs x); ranked = λ rise. e ∙ bisect-rank xs x rise }

-- In a list that rises, bisection for a number that stands there ends where it stands.
pub bisect-found : (xs : List ℕ) (k : ℕ) → Rises xs → k < length xs → bisect xs (xs ! k) ≡ k
bisect-found xs k rise l =
    bisect-ends xs (xs ! k) k
    (λ p h. rise p k h l)
    (λ p h lp. ⊎_elim (λ g. omega (arith, rise k p g lp)) (λ g. let e : p ≡ k = omega arith in rw e (omega arith)) (lt_or_ge k p))
    (omega arith)

-- The rank is the one place that has the smaller numbers before it and the others from it on.
module _ (xs : List ℕ) (x : ℕ) (rise : Rises xs) where
  pub rank_is : (r : ℕ) → r ≤ length xs → ((p : ℕ) → p < r → xs ! p < x) → ((p : ℕ) → r ≤ p → p < length xs → x ≤ xs ! p) → r ≡ rank xs x
  rank_is r h below above =
      ⊎_elim
      (λ l. absurd (omega (arith, rank_below xs x rise r l, above r (omega arith) (omega (arith, rank_within xs x)))))
      (λ g. ⊎_elim
      (λ l. absurd (omega (arith, below (rank xs x) l, rank_above xs x rise (rank xs x) (omega arith) (omega arith))))
      (λ l. omega arith)
      (lt_or_ge (rank xs x) r))
      (lt_or_ge r (rank xs x))

module _ (xs : List ℕ) (x k : ℕ) (rise : Rises xs) (e : k ≡ rank xs x) where
  pub rank-next-hit : k < length xs → xs ! k ≡ x → k + 1 ≡ rank xs (x + 1)
  rank-next-hit l h =
      rank_is xs (x + 1) rise (k + 1) (omega arith)
      (λ p g. ⊎_elim (λ f. omega (arith, rise p k f l)) (λ f. let q : p ≡ k = omega arith in rw q (omega arith)) (lt_or_ge p k))
      (λ p g m. omega (arith, rise k p (omega arith) m))

  pub rank-next_miss : (k < length xs → xs ! k ≡ x → ⊥) → k ≡ rank xs (x + 1)
  rank-next_miss n =
      rank_is xs (x + 1) rise k (omega (arith, rank_within xs x))
      (λ p g. omega (arith, rank_below xs x rise p (omega arith)))
      (λ p g m. ⊎_elim
      (λ f. omega (arith, rise k p f m, rank_above xs x rise k (omega arith) (omega arith)))
      (λ f. let q : p ≡ k = omega arith in rw q (above (rank_above xs x rise k (omega arith) (omega arith)) (n (omega arith))))
      (lt_or_ge k p))
    where
      above : x ≤ xs ! k → (xs ! k ≡ x → ⊥) → x + 1 ≤ xs ! k
      above h n = ⊎_elim (λ l. omega arith) (λ l. absurd (n (omega arith))) (lt_or_ge x (xs ! k))

-- a column in which each number is below the next rises; past its end it reads 0
climb : (xs : List ℕ) → ((i : ℕ) → suc i < length xs → xs ! i < xs ! suc i) → (i k : ℕ) → i + suc k < length xs → xs ! i < xs ! (i + suc k)
climb xs up i zero l = rw (add-one i) (up i (omega arith))
climb xs up i (suc k) l = rw (add-suc i (suc k)) (omega (arith, climb xs up i k (omega arith), up (i + suc k) (omega arith)))

pub steps_rise : (xs : List ℕ) → ((i : ℕ) → suc i < length xs → xs ! i < xs ! suc i) → Rises xs
steps_rise xs up i j l m = let e : j ≡ i + suc (j - suc i) = omega arith in rw e (climb xs up i (j - suc i) (omega arith))

pub past_end : (xs : List ℕ) (i : ℕ) → length xs ≤ i → xs ! i ≡ 0
past_end [] i l = refl
past_end (x ∷ xs) zero l = absurd (omega arith)
past_end (x ∷ xs) (suc i) l = past_end xs i (omega arith)
