-- Laws of a column: written from the front, zeros from a place on, and what an answer leaves. Assumes nothing.
use mathlib.Core.Path.{◌≡◌, refl, sym, ap, ◌∙◌}
use mathlib.Core.Bool.{Bool, true, false}
use mathlib.Core.List.{List, [], ◌∷◌, ◌++◌, append-nil}
use Prim.Native.Nat.{ℕ, zero, suc, ◌+◌, ◌-◌, ◌≤◌, ◌<◌}
use native.Mathlib.Nat.{sub-zero}
use native.Mathlib.Numerals.{add-one}
use native.Mathlib.Omega.{arith}
use lib.ListN.{length, set, take, drop, replicate, length-append, length-take, length-drop, length-set, length-replicate, drop_of_length-le}
use borrow.Rule.Slice.PartMut.{put_mid, post_of}
use Rattle.std.proofs.lemmas.List.{drop-drop}
use lib.Seq.{drop-cons, set_at, append_snoc, take_at}
use Rattle.columns.specs.Lists.{◌!◌, tab, places}
use Rattle.columns.specs.Columns.{zeros, over, cleared, padded, accepts, leaves, kept, Begins}
use Rattle.columns.proofs.Lists.{tab_more, places-hit, places_miss}

-- a column that is written from the front: d₀ with xs, of length k, over it
pub record Written (xs d₀ d : List ℕ) (k : ℕ) : Type 0 where
  pub holds : d ≡ over xs d₀
  pub used : length xs ≡ k
  pub same : length d ≡ length d₀

pub written_none : (d : List ℕ) → Written [] d d 0
unfolding over
written_none d = record { holds = refl; used = refl; same = refl }

over_push : (xs d : List ℕ) (i v : ℕ) → length xs ≡ i → i < length d → set (over xs d) i v ≡ over (xs ++ (v ∷ [])) d
unfolding over
over_push xs d i v e l =
    let h : length xs < length d = omega arith in
    let s : length (xs ++ (v ∷ [])) ≡ suc (length xs) = length-append xs (v ∷ []) ∙ add-one (length xs) in
    rw (drop-cons d (length xs) 0 h, set_at xs _ _ v i e, s, append_snoc)

-- one number more
pub written_push : {xs d₀ d : List ℕ} {k : ℕ} (v : ℕ) {ys : List ℕ} → Written xs d₀ d k → k < length d₀ → ys ≡ xs ++ (v ∷ []) → Written ys d₀ (set d k v) (k + 1)
written_push {xs} {d₀} {d} {k} v {ys} w l e = record {
  holds = ap (λ (z : List ℕ). set z k v) w.holds ∙ over_push xs d₀ k v w.used l ∙ ap (λ (z : List ℕ). over z d₀) (sym e);
  used = ap length e ∙ length-append xs (v ∷ []) ∙ ap (λ (n : ℕ). n + 1) w.used;
  same = length-set d k v ∙ w.same;
}

-- a column that a table is written to, and one that is written to at the places of a test
pub written_tab : (g : ℕ → ℕ) {d₀ d : List ℕ} (i v : ℕ) → Written (tab g i) d₀ d i → i < length d₀ → v ≡ g i → Written (tab g (i + 1)) d₀ (set d i v) (i + 1)
written_tab g i v w l e = written_push v w l (tab_more g i ∙ ap (λ (x : ℕ). tab g i ++ (x ∷ [])) (sym e))

pub written_end : (F : ℕ → List ℕ) {d₀ d : List ℕ} {i k : ℕ} (n : ℕ) → Written (F i) d₀ d k → i ≡ n → d ≡ over (F n) d₀
written_end F {d₀} n w e = w.holds ∙ ap (λ (x : ℕ). over (F x) d₀) e

module _ (t : ℕ → Bool) (f : List ℕ → List ℕ) {d₀ d : List ℕ} {k : ℕ} (i : ℕ) (w : Written (f (places t i)) d₀ d k) where
  pub written_hit : (v : ℕ) → t i ≡ true → k < length d₀ → f (places t i ++ (i ∷ [])) ≡ f (places t i) ++ (v ∷ []) → Written (f (places t (i + 1))) d₀ (set d k v) (k + 1)
  written_hit v h l e = written_push v w l (ap f (places-hit t i h) ∙ e)

  pub written_miss : t i ≡ false → Written (f (places t (i + 1))) d₀ d k
  written_miss h = rw (places_miss t i h) w

-- a column whose part from a place on was filled with v
pub filled_from : {A : Type 0} (from : ℕ) (d : List A) (v : A) {ys : List A} → ys ≡ replicate (length (take (length d - from) (drop from d))) v
    → put_mid from (length d - from) d ys ≡ take from d ++ replicate (length d - from) v
filled_from {A} from d v e =
    let n : length (take (length d - from) (drop from d)) ≡ length d - from = omega (arith, length-take (length d - from) (drop from d), length-drop from d) in
    let z : post_of from (length d - from) d ≡ [] = drop-drop (length d - from) from d ∙ drop_of_length-le d (omega arith) in
    rw (e, n, z, append-nil)

-- cleared whole, and behind what was written
pub cleared_all : (d : List ℕ) → cleared 0 d ≡ zeros (length d)
unfolding cleared
cleared_all d = rw sub-zero

drop-zeros : (n m : ℕ) → drop n (zeros m) ≡ zeros (m - n)
drop-zeros zero m = rw sub-zero
drop-zeros (suc n) zero = let e : 0 - suc n ≡ 0 = omega arith in rw e
drop-zeros (suc n) (suc m) = let e : suc m - suc n ≡ m - n = omega arith in rw e (drop-zeros n m)

pub cleared-over : (xs d : List ℕ) (k : ℕ) → length xs ≡ k → k ≤ length d → cleared k (over xs d) ≡ padded xs (length d)
unfolding cleared over padded
cleared-over xs d k e l =
    let rest : length (xs ++ drop (length xs) d) - k ≡ length d - k = omega (arith, length-append xs (drop (length xs) d), length-drop (length xs) d) in
    rw (rest, take_at xs (drop (length xs) d) k e, e, drop-zeros k (length d))

pub written_padded : (xs d₀ : List ℕ) {d e : List ℕ} (k : ℕ) → d ≡ over xs d₀ → e ≡ cleared k d → length xs ≡ k → k ≤ length d₀ → e ≡ padded xs (length d₀)
written_padded xs d₀ k w c n l = c ∙ ap (cleared k) w ∙ cleared-over xs d₀ k n l

-- What an answer leaves: zeros where it refuses; where it accepts, a list that is written, with zeros behind.
module _ (says xs : List ℕ) where
  pub leaves-zeros : {d : List ℕ} (m : ℕ) → accepts says ≡ false → d ≡ zeros m → d ≡ leaves says xs m
  unfolding leaves
  leaves-zeros m h e = rw h e

  pub leaves-padded : {d : List ℕ} (m : ℕ) → accepts says ≡ true → d ≡ padded xs m → d ≡ leaves says xs m
  unfolding leaves
  leaves-padded m h e = rw h e

  left : (c : List ℕ) (m : ℕ) → accepts says ≡ true → c ≡ leaves says xs m → c ≡ padded xs m
  unfolding leaves
  left c m y e = rw y at e

  -- the used part of what an acceptance left, and that it is there
  pub used_part : (c : List ℕ) (m n : ℕ) → accepts says ≡ true → c ≡ leaves says xs m → length xs ≡ n → take n c ≡ xs
  unfolding padded over
  used_part c m n y e len = ap (take n) (left c m y e) ∙ take_at xs (drop (length xs) (zeros m)) n len

  pub used_length : (c : List ℕ) (m : ℕ) → accepts says ≡ true → c ≡ leaves says xs m → length xs ≤ length c
  unfolding padded over
  used_length c m y e = omega (arith, ap length (left c m y e), length-append xs (drop (length xs) (zeros m)))

-- A column settled, from what it held where the answer accepts.
over-fits : (xs d : List ℕ) → length (over xs d) ≡ length d → length xs ≤ length d
unfolding over
over-fits xs d e = omega (arith, length-append xs (drop (length xs) d))

module _ (says xs d₀ : List ℕ) (i : ℕ) {d d' : List ℕ} (filled : accepts says ≡ true → d ≡ over xs d₀) (told : accepts says ≡ true → says ! i ≡ length xs)
    (same : length d ≡ length d₀) (e : d' ≡ cleared (kept i says) d)
  where
    column-kept : accepts says ≡ true → d' ≡ leaves says xs (length d₀)
    unfolding leaves kept
    column-kept ok =
        let is : d' ≡ cleared (says ! i) d = rw ok at e in
        rw ok (written_padded xs d₀ (says ! i) (filled ok) is (sym (told ok)) (rw (told ok) (over-fits xs d₀ (ap length (sym (filled ok)) ∙ same))))

    column_zeroed : accepts says ≡ false → d' ≡ leaves says xs (length d₀)
    unfolding leaves kept
    column_zeroed h =
        let is : d' ≡ cleared 0 d = rw h at e in
        rw h (is ∙ cleared_all d ∙ ap zeros same)

    pub settled-column : d' ≡ leaves says xs (length d₀)
    settled-column = go (accepts says) refl
      where
        go : (b : Bool) → accepts says ≡ b → d' ≡ leaves says xs (length d₀)
        go true h = column-kept h
        go false h = column_zeroed h

-- what was written over the front of a column stands there
pub over-front : (xs d : List ℕ) (n : ℕ) → length xs ≡ n → take n (over xs d) ≡ xs
unfolding over
over-front xs d n e = take_at xs (drop (length xs) d) n e

pub begins_over : (xs d : List ℕ) {e : List ℕ} → e ≡ over xs d → Begins xs e
begins_over xs d h = ap (take (length xs)) h ∙ over-front xs d (length xs) refl

-- a column that was cleared whole
pub zeroed : (d : List ℕ) {w : List ℕ} → w ≡ cleared 0 d → w ≡ zeros (length d)
zeroed d e = e ∙ cleared_all d

pub zeroed_length : (d : List ℕ) {w : List ℕ} → w ≡ cleared 0 d → length w ≡ length d
zeroed_length d e = ap length (zeroed d e) ∙ length-replicate (length d) 0

pub zeroed_own : (d : List ℕ) {w : List ℕ} → w ≡ cleared 0 d → w ≡ zeros (length w)
zeroed_own d e = zeroed d e ∙ ap zeros (sym (zeroed_length d e))

pub zero-at : (n i : ℕ) → zeros n ! i ≡ 0
zero-at zero i = refl
zero-at (suc n) zero = refl
zero-at (suc n) (suc i) = zero-at n i
