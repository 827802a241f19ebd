-- Laws of lists made from the front: of a table, and of the places where a test holds. Assumes nothing.
use mathlib.Core.Path.{◌≡◌, refl, sym, ap, ◌∙◌}
use mathlib.Core.Logic.{◌⊎◌, inl, inr, ⊎_elim}
use mathlib.Core.Bool.{Bool, true, false, cond}
use mathlib.Core.List.{List, [], ◌∷◌, ◌++◌, append_assoc, append-nil, map}
use Prim.Native.Nat.{ℕ, zero, suc, ◌+◌, ◌-◌, ◌≤◌, ◌<◌, zero-le, suc-le-suc}
use native.Mathlib.Nat.{add-zero, add-suc, not-suc-le-zero, le_of_suc-le-suc}
use native.Mathlib.Numerals.{add-one}
use native.Mathlib.Omega.{arith}
use lib.ListN.{length, get_or, length-append, get_or-append}
use lib.Seq.{append_snoc, get_or_at}
use Rattle.columns.specs.Lists.{◌!◌, tab, places, first_place}
use Rattle.columns.specs.Ranks.{Rises}

pub lt_or_ge : (a b : ℕ) → (a < b) ⊎ (b ≤ a)
lt_or_ge a zero = inr zero-le
lt_or_ge zero (suc b) = inl (suc-le-suc zero-le)
lt_or_ge (suc a) (suc b) = ⊎_elim (λ l. inl (suc-le-suc l)) (λ l. inr (suc-le-suc l)) (lt_or_ge a b)

pub eq_or_ne : (a b : ℕ) → (a ≡ b) ⊎ (a ≡ b → ⊥)
eq_or_ne zero zero = inl refl
eq_or_ne zero (suc b) = inr (λ e. omega arith)
eq_or_ne (suc a) zero = inr (λ e. omega arith)
eq_or_ne (suc a) (suc b) = ⊎_elim (λ e. inl (ap suc e)) (λ n. inr (λ e. n (omega arith))) (eq_or_ne a b)

pub map_at : {A : Type 0} (f : A → ℕ) (d : A) (l : List A) (k : ℕ) → k < length l → map f l ! k ≡ f (get_or l k d)
map_at f d [] k h = absurd (not-suc-le-zero h)
map_at f d (x ∷ l) zero h = refl
map_at f d (x ∷ l) (suc k) h = map_at f d l k (le_of_suc-le-suc h)

-- a table: one number more, its length, and what stands at i
module _ {A : Type 0} (g : ℕ → A) where
  pub tab_more : (i : ℕ) → tab g (i + 1) ≡ tab g i ++ (g i ∷ [])
  unfolding tab
  tab_more i = rw add-one

  pub tab-length : (n : ℕ) → length (tab g n) ≡ n
  unfolding tab
  tab-length zero = refl
  tab-length (suc n) = length-append (tab g n) (g n ∷ []) ∙ ap (λ (k : ℕ). k + 1) (tab-length n) ∙ add-one n

  pub tab-at : (d : A) (n i : ℕ) → i < n → get_or (tab g n) i d ≡ g i
  unfolding tab
  tab-at d zero i l = absurd (not-suc-le-zero l)
  tab-at d (suc n) i l =
      ⊎_elim
      (λ h. get_or-append (tab g n) (g n ∷ []) d i (omega (arith, tab-length n)) ∙ tab-at d n i h)
      (λ h. let e : i ≡ n = omega arith in rw e (get_or_at (tab g n) (g n) [] d n (tab-length n)))
      (lt_or_ge i n)

-- the places where a test holds
module _ (t : ℕ → Bool) where
  pub places-hit : (i : ℕ) → t i ≡ true → places t (i + 1) ≡ places t i ++ (i ∷ [])
  unfolding places
  places-hit i h = rw (add-one, h)

  pub places_miss : (i : ℕ) → t i ≡ false → places t (i + 1) ≡ places t i
  unfolding places
  places_miss i h = rw (add-one, h) (append-nil (places t i))

  -- by whether the test holds at n
  step : (P : List ℕ → Type 0) (n : ℕ) → P (places t n) → P (places t n ++ (n ∷ [])) → P (places t (suc n))
  unfolding places
  step P n miss hit = go (t n)
    where
      go : (b : Bool) → P (places t n ++ cond b (n ∷ []) [])
      go true = hit
      go false = rw (append-nil (places t n)) miss

  pub places-below : (n k : ℕ) → k < length (places t n) → places t n ! k < n
  unfolding places
  places-below zero k = λ l. absurd (not-suc-le-zero l)
  places-below (suc n) k = step (λ xs. k < length xs → xs ! k < suc n) n
      (λ l. omega (arith, places-below n k l))
      (λ l. ⊎_elim
      (λ h. rw (get_or-append (places t n) (n ∷ []) 0 k h) (omega (arith, places-below n k h)))
      (λ h.
      let e : length (places t n) ≡ k = omega (arith, length-append (places t n) (n ∷ [])) in
      rw (get_or_at (places t n) n [] 0 k e) (omega arith))
      (lt_or_ge k (length (places t n))))

  pub places_rise : (n : ℕ) → Rises (places t n)
  unfolding places
  places_rise zero = λ p q pq l. absurd (not-suc-le-zero l)
  places_rise (suc n) = step Rises n (places_rise n)
      (λ p q pq l. ⊎_elim
      (λ h.
      let h' : p < length (places t n) = omega arith in
      rw (get_or-append (places t n) (n ∷ []) 0 q h, get_or-append (places t n) (n ∷ []) 0 p h') (places_rise n p q pq h))
      (λ h.
      let e : length (places t n) ≡ q = omega (arith, length-append (places t n) (n ∷ [])) in
      let h' : p < length (places t n) = omega arith in
      rw (get_or_at (places t n) n [] 0 q e, get_or-append (places t n) (n ∷ []) 0 p h') (places-below n p h'))
      (lt_or_ge q (length (places t n))))

  split_add : (i m : ℕ) → (rest : List ℕ) × (places t (i + m) ≡ places t i ++ rest)
  split_add i zero = ([], rw (add-zero, append-nil))
  split_add i (suc m) =
      let r = split_add i m in
      rw add-suc
      (step (λ xs. (rest : List ℕ) × (xs ≡ places t i ++ rest)) (i + m) r
      (r.0 ++ ((i + m) ∷ []), ap (λ (xs : List ℕ). xs ++ ((i + m) ∷ [])) r.1 ∙ append_assoc (places t i) r.0 ((i + m) ∷ [])))

  -- where the test holds at i, the places are those before i, then i, then others
  pub places-at : (i n : ℕ) → t i ≡ true → i < n → (rest : List ℕ) × (places t n ≡ places t i ++ i ∷ rest)
  places-at i n h l =
      let r = split_add (i + 1) (n - (i + 1)) in
      let e : i + 1 + (n - (i + 1)) ≡ n = omega arith in
      (r.0, ap (places t) (sym e) ∙ r.1 ∙ ap (λ (xs : List ℕ). xs ++ r.0) (places-hit i h) ∙ append_snoc (places t i) i r.0)

  -- up to a place that leaves none over they are all; where some are left over, the place is not the last
  pub places_all : (i n : ℕ) → i ≤ n → length (places t n) ≤ length (places t i) → places t i ≡ places t n
  places_all i n h l =
      let r = split_add i (n - i) in
      let e : i + (n - i) ≡ n = omega arith in
      let whole : places t n ≡ places t i ++ r.0 = ap (places t) (sym e) ∙ r.1 in
      sym (whole ∙ ap (λ (xs : List ℕ). places t i ++ xs) (none_left r.0 (omega (arith, ap length whole, length-append (places t i) r.0))) ∙ append-nil (places t i))
    where
      none_left : (xs : List ℕ) → length xs ≤ 0 → xs ≡ []
      none_left [] z = refl
      none_left (x ∷ xs) z = absurd (not-suc-le-zero z)

  pub places-left : (i n : ℕ) → i ≤ n → length (places t i) < length (places t n) → i < n
  places-left i n h l = ⊎_elim (λ g. g) (λ g. let e : i ≡ n = omega arith in absurd (omega (arith, ap (λ (k : ℕ). length (places t k)) e))) (lt_or_ge i n)

  pub places_row : (i n : ℕ) → t i ≡ true → i < n → (length (places t i) < length (places t n)) × (places t n ! length (places t i) ≡ i)
  places_row i n h l =
      let r = places-at i n h l in
      (omega (arith, ap length r.1 ∙ length-append (places t i) (i ∷ r.0)), rw r.1 (get_or_at (places t i) i r.0 0 (length (places t i)) refl))

  -- the first of them
  pub first-hit : (i n : ℕ) → places t i ≡ [] → t i ≡ true → i < n → first_place t n ≡ i
  first-hit i n e h l = rw ((places-at i n h l).1, e)

  pub first_none : (n i : ℕ) → n ≤ first_place t n → i < n → t i ≡ false
  first_none n i h l = go (t i) refl
    where
      some : (xs : List ℕ) → 0 < length xs → ((k : ℕ) → k < length xs → xs ! k < n) → n ≤ get_or xs 0 n → ⊥
      some [] pos below ge = omega arith
      some (x ∷ xs) pos below ge = omega (arith, below 0 pos)

      go : (b : Bool) → t i ≡ b → b ≡ false
      go false e = refl
      go true e = absurd (some (places t n) (omega (arith, (places_row i n e l).0)) (places-below n) h)

  -- how many there are
  pub count-hit : {k : ℕ} (i : ℕ) → k ≡ length (places t i) → t i ≡ true → k + 1 ≡ length (places t (i + 1))
  count-hit i e h = rw (places-hit i h) (omega (arith, length-append (places t i) (i ∷ [])))

  pub count_miss : {k : ℕ} (i : ℕ) → k ≡ length (places t i) → t i ≡ false → k ≡ length (places t (i + 1))
  count_miss i e h = rw (places_miss i h) e
