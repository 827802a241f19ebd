-- Passes over single columns: what each turn keeps, and where it ends. Assumes nothing.
use Prim.Native.Nat.{ℕ, zero, suc, pred, ◌+◌, ◌-◌, ◌≤◌, ◌<◌, min}
use native.Mathlib.Omega.{arith}
use native.Mathlib.Numerals.{add-one}
use mathlib.Core.Path.{◌≡◌, refl, sym, ap, ◌∙◌}
use mathlib.Core.Logic.{⊎_elim, ◌↔◌}
use mathlib.Core.Bool.{Bool, true, false, cond, not, ◌||◌}
use mathlib.Core.List.{List, []}
use lib.Dec.{leb, ltb}
use lib.ListN.{length}
use borrow.Author.Tests.{lt-ltb, le-ltb, le-leb, lt-leb, leb-false}
use Rattle.columns.specs.Lists.{◌!◌, any, all_of, part}
use Rattle.columns.proofs.Lists.{lt_or_ge}
use Rattle.columns.proofs.Sums.{part_at, part_length_lem}
use Rattle.columns.proofs.Tests.{any_false, none_any, some_any, any_more, and_true}
use Rattle.rules.specs.Types.{array_element_label, is_element}
use Rattle.rules.specs.Parts.{no_object}
use Rattle.rules.specs.Questions.{rises}
use Rattle.rules.specs.Verdict.{falls}
use Rattle.labels.specs.Reading.{coded_of}
use Rattle.incoming_read.specs.Unread.{is_plain, codes_plain}
use Rattle.incoming_read.specs.Steps.{objects_only, is_odd, plain_only, fields_only}

-- the numbers before i rise
pub record Rising (xs : List ℕ) (i : ℕ) : Type 0 where
  pub low : 1 ≤ i
  pub none : any (falls xs) i ≡ false

module _ (xs : List ℕ) where
  pub rising_start : Rising xs 1
  unfolding any all_of
  rising_start = record { low = omega arith; none = refl }

  module _ {i : ℕ} (r : Rising xs i) where
    before : pred i ≡ i - 1
    before = omega (arith, r.low)

    some : 0 < i
    some = omega (arith, r.low)

    pub rising_more : xs ! (i - 1) < xs ! i → Rising xs (i + 1)
    unfolding all_of
    rising_more l = record { low = omega arith; none = any_more (falls xs) i r.none (rw (lt-ltb 0 i some, before, lt-leb (xs ! i) (xs ! (i - 1)) l)) }

    pub rising_falls : i < length xs → xs ! i ≤ xs ! (i - 1) → false ≡ rises xs
    unfolding rises all_of
    rising_falls m l = ap not (sym (some_any (falls xs) (length xs) i m (rw (lt-ltb 0 i some, before, le-leb (xs ! i) (xs ! (i - 1)) l))))

    pub rising_end : length xs ≤ i → true ≡ rises xs
    unfolding rises
    rising_end m = ap not (sym (none_any (falls xs) (length xs) (λ j l. any_false (falls xs) i j r.none (omega arith))))

-- whether the test holds at a place before i
pub record Met (t : ℕ → Bool) (n : ℕ) (met : Bool) (i : ℕ) : Type 0 where
  pub within : i ≤ n
  pub so : met ≡ any t i

module _ (t : ℕ → Bool) (n : ℕ) where
  pub met_start : Met t n false 0
  unfolding any
  met_start = record { within = omega arith; so = refl }

  pub met_more : {met more : Bool} {i : ℕ} → Met t n met i → i < n → more ≡ met || t i → Met t n more (i + 1)
  unfolding any
  met_more {met} {more} {i} m l e = record { within = omega arith; so = e ∙ ap (λ (b : Bool). b || t i) m.so ∙ ap (any t) (sym (add-one i)) }

  pub met-end : {met : Bool} {i : ℕ} → Met t n met i → n ≤ i → met ≡ any t n
  met-end {met} {i} m l = let e : i ≡ n = omega (arith, m.within) in m.so ∙ ap (any t) e

-- a test of each place, which is made place by place
decided : (b : Bool) (t : ℕ → Bool) (n : ℕ) → (b ≡ true → (k : ℕ) → k < n → t k ≡ false) → (((k : ℕ) → k < n → t k ≡ false) → b ≡ true) → b ≡ not (any t n)
decided true t n f g = ap not (sym (none_any t n (f refl)))
decided false t n f g = go (any t n) refl
  where
    go : (a : Bool) → any t n ≡ a → false ≡ not a
    go true e = refl
    go false e = g (λ k l. any_false t n k e l)

-- the targets from one place up to another are objects
pub objects_each : {b : Bool} (objects : ℕ) (ts : List ℕ) (from to : ℕ) → to ≤ length ts
    → (b ≡ true ↔ ((k : ℕ) → k < length (part ts from to) → part ts from to ! k < objects)) → b ≡ objects_only objects ts from (to - from)
unfolding objects_only
objects_each {b} objects ts from to inside h =
    let long : length (part ts from to) ≡ to - from = part_length_lem ts from to inside in
    decided b (λ k. no_object objects ts (from + k)) (to - from)
    (λ e k l. lt-leb objects _ (rw part_at at (h.0 e k (omega arith))))
    (λ q. h.1 (λ k l. let m : k < to - from = omega arith in rw (part_at ts from to k m) (leb-false objects _ (q k m))))

-- no field has an element's label
pub fields_each : {b : Bool} (fields : List ℕ) → (b ≡ true ↔ ((k : ℕ) → k < length fields → fields ! k < array_element_label)) → b ≡ fields_only fields
unfolding fields_only
fields_each {b} fields h = decided b (λ i. is_element (fields ! i)) (length fields) (λ e k l. lt-leb _ _ (h.0 e k l)) (λ q. h.1 (λ k l. leb-false _ _ (q k l)))

-- the codes of a list are plain
module _ (limit : ℕ) (codes : List ℕ) where
  abbrev pub odd : ℕ → Bool
  odd k = is_odd limit (codes ! k)

  pub plain_end : {met answer : Bool} {i : ℕ} → Met odd (length codes) met i → length codes ≤ i → answer ≡ not met → answer ≡ plain_only limit codes
  unfolding plain_only
  plain_end m l e = e ∙ ap not (met-end odd (length codes) m l)

-- tests that agree hold at the same places
any_ext : (t u : ℕ → Bool) (n : ℕ) → ((k : ℕ) → k < n → t k ≡ u k) → any t n ≡ any u n
unfolding any
any_ext t u zero h = refl
any_ext t u (suc n) h = rw (any_ext t u n (λ k l. h k (omega arith)), h n (omega arith))

turned : (a b : ℕ) → leb b a ≡ not (ltb a b)
turned a b = ⊎_elim (λ l. rw (lt-ltb a b l, lt-leb b a l)) (λ l. rw (le-ltb a b l, le-leb b a l)) (lt_or_ge a b)

odd-plain : (fields c : ℕ) → is_odd (min fields 32767) c ≡ not (is_plain fields c)
unfolding is_odd is_plain
odd-plain fields c = go (leb 32768 c)
  where
    go : (b : Bool) → cond b (leb 65535 c) (leb (min fields 32767) c) ≡ not (cond b (ltb c 65535) (ltb c (min fields 32767)))
    go true = turned c 65535
    go false = turned c (min fields 32767)

-- the codes of a part, and the fields: all that the quick test asks for
module _ (codes fields : List ℕ) (start end : ℕ) (inside : end ≤ length codes) where
  part-plain : plain_only (min (length fields) 32767) (part codes start end) ≡ not (any (λ k. not (is_plain (length fields) (codes ! (start + k)))) (end - start))
  unfolding plain_only
  part-plain = rw (part_length_lem codes start end inside) (ap not (any_ext _ _ (end - start) (λ k l. rw (part_at codes start end k l) (odd-plain (length fields) (codes ! (start + k))))))

  module _ {limit : ℕ} (low : limit ≡ min (length fields) 32767) where
    whole : plain_only limit (part codes start end) ≡ not (any (λ k. not (is_plain (length fields) (codes ! (start + k)))) (end - start))
    whole = ap (λ (l : ℕ). plain_only l (part codes start end)) low ∙ part-plain

    pub plain-fields : {named : Bool} → plain_only limit (part codes start end) ≡ true → named ≡ fields_only fields → named ≡ codes_plain (coded_of codes fields [] []) start end
    unfolding codes_plain fields_only all_of
    plain-fields h e = e ∙ sym (rw (sym whole ∙ h) (and_true (fields_only fields)))

    pub plain_none : plain_only limit (part codes start end) ≡ false → false ≡ codes_plain (coded_of codes fields [] []) start end
    unfolding codes_plain all_of
    plain_none h = sym (rw (sym whole ∙ h))
