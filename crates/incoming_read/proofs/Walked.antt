-- Where the escapes rise and are one table, a walk gets past so many labels exactly where each of them reads by document 01. Assumes nothing.
use Prim.Native.Nat.{ℕ, zero, suc, ◌+◌, ◌-◌, ◌≤◌, ◌<◌}
use native.Mathlib.Nat.{add-zero, add-suc}
use native.Mathlib.Omega.{arith}
use mathlib.Core.Path.{◌≡◌, refl, ap, ◌∙◌}
use mathlib.Core.Bool.{Bool, true, false, cond, not, beq, ◌||◌}
use mathlib.Core.List.{List, [], ◌∷◌}
use mathlib.Core.Option.{none, some}
use lib.Dec.{eqb, leb, ltb}
use lib.ListN.{length}
use borrow.Author.Tests.{lt-ltb, ltb-true, not-false}
use Rattle.columns.specs.Lists.{◌!◌, any, find, found, lookup, all_of}
use Rattle.columns.specs.Ranks.{Rises, bisect}
use Rattle.columns.proofs.Search.{find-bisect, lookup-find}
use Rattle.columns.proofs.Tests.{any_false, each_of}
use Rattle.rules.specs.Types.{array_element_label, is_element}
use Rattle.rules.specs.Labels.{Coded, after, is_escaped, expected_at}
use Rattle.rules.specs.Questions.{label_reads}
use Rattle.labels.specs.Reading.{row_back, element_back, field_back, code_back, step_back, next_of, onward, next_back}
use Rattle.labels.proofs.Back.{next-back}
use Rattle.labels.proofs.Walk.{next_more}
use Rattle.incoming_read.specs.Steps.{something, walks_past}

something-one : (t : Bool) (a : ℕ) → something (cond t (a ∷ []) []) ≡ t
something-one true a = refl
something-one false a = refl

something_none : (xs : List ℕ) → something xs ≡ false → xs ≡ []
something_none [] e = refl
something_none (a ∷ xs) e = let z : ◌≡◌ {A = ℕ} 0 1 = cc in absurd (omega arith)

something-next : (n : ℕ) (xs : List ℕ) → something (next_of n xs) ≡ something xs
something-next n [] = refl
something-next n (a ∷ xs) = refl

twice : (b : Bool) → b ≡ not (not b)
twice true = refl
twice false = refl

fewer : (a b l f : Bool) → all_of (a ∷ b ∷ []) ≡ false → all_of (a ∷ b ∷ l ∷ f ∷ []) ≡ false
unfolding all_of
fewer true true l f e = let z : ◌≡◌ {A = ℕ} 0 1 = cc in absurd (omega arith)
fewer true false l f e = refl
fewer false b l f e = refl

-- a walk of the edges from e on, by their places: it goes on behind a label that is read, stops at one that is not, and gets to the end
module _ (d : Coded) (e : ℕ) where
  stays : (i m : ℕ) → next_back d e i ≡ [] → next_back d e (i + m) ≡ []
  unfolding next_back
  stays i zero w = rw (add-zero i) w
  stays i (suc m) w = rw (add-suc i m, stays i m w)

  module _ {p next : ℕ} (low : e ≤ p) (w : next_back d e (p - e) ≡ next ∷ []) where
    at : e + (p - e) ≡ p
    at = omega arith

    pub walk_more : {label : ℕ} → code_back d.fields d.escape_at d.escape_label p next (d.codes ! p) ≡ label ∷ [] → next_back d e (p + 1 - e) ≡ after next label ∷ []
    walk_more {label} s = let more : p + 1 - e ≡ p - e + 1 = omega arith in rw more (next_more d e (p - e) next label w (rw at s))

    pub walk_stops : {to : ℕ} → p < to → code_back d.fields d.escape_at d.escape_label p next (d.codes ! p) ≡ [] → false ≡ walks_past d e (to - e)
    unfolding walks_past next_back
    walk_stops {to} l s =
        let stop : next_back d e (suc (p - e)) ≡ [] = rw (w, at, s) in
        let z : suc (p - e) + (to - e - suc (p - e)) ≡ to - e = omega arith in
        rw (← z, stays (suc (p - e)) (to - e - suc (p - e)) stop)

    pub walk_ends : {to : ℕ} → p ≡ to → true ≡ walks_past d e (to - e)
    unfolding walks_past
    walk_ends q = rw (← q, w)

module _ (d : Coded) (rise : Rises d.escape_at) (same : length d.escape_at ≡ length d.escape_label) where
  abbrev keys : List ℕ
  keys = d.escape_at

  abbrev values : List ℕ
  values = d.escape_label

  -- the row where bisection ends is the edge's exactly where the search of all rows finds one
  row_there : (p c j : ℕ) → find keys p ≡ some j → ltb j (length keys) ≡ true → eqb (keys ! j) p ≡ true
      → all_of (ltb j (length keys) ∷ eqb (keys ! j) p ∷ ltb j (length values) ∷ beq (is_element (values ! j)) (leb 32768 c) ∷ [])
      ≡ all_of (found (find keys p) ∷ beq (is_element (lookup keys values p)) (leb 32768 c) ∷ [])
  unfolding all_of
  row_there p c j is a b =
      let long : j < length values = omega (arith, ltb-true j (length keys) a) in
      rw (a, b, lt-ltb j (length values) long, is, lookup-find keys values p j same is)

  row_away : (p c j : ℕ) → find keys p ≡ none → all_of (ltb j (length keys) ∷ eqb (keys ! j) p ∷ []) ≡ false
      → all_of (ltb j (length keys) ∷ eqb (keys ! j) p ∷ ltb j (length values) ∷ beq (is_element (values ! j)) (leb 32768 c) ∷ [])
      ≡ all_of (found (find keys p) ∷ beq (is_element (lookup keys values p)) (leb 32768 c) ∷ [])
  unfolding all_of
  row_away p c j is a = rw is (fewer (ltb j (length keys)) (eqb (keys ! j) p) (ltb j (length values)) (beq (is_element (values ! j)) (leb 32768 c)) a)

  row_reads : (p c : ℕ) → something (row_back keys values p c (bisect keys p)) ≡ all_of (found (find keys p) ∷ beq (is_element (lookup keys values p)) (leb 32768 c) ∷ [])
  unfolding row_back
  row_reads p c = something-one _ _ ∙ go (all_of there) refl (find-bisect keys p rise)
    where
      j : ℕ
      j = bisect keys p

      there : List Bool
      there = ltb j (length keys) ∷ eqb (keys ! j) p ∷ []

      go : (b : Bool) → all_of there ≡ b → find keys p ≡ cond (all_of there) (some j) none
          → all_of (ltb j (length keys) ∷ eqb (keys ! j) p ∷ ltb j (length values) ∷ beq (is_element (values ! j)) (leb 32768 c) ∷ [])
          ≡ all_of (found (find keys p) ∷ beq (is_element (lookup keys values p)) (leb 32768 c) ∷ [])
      go true h is = row_there p c j (is ∙ ap (λ (b : Bool). cond b (some j) none) h) (each_of there h 0) (each_of there h 1)
      go false h is = row_away p c j (is ∙ ap (λ (b : Bool). cond b (some j) none) h) h

  -- one label is read exactly where it reads, by the index that is expected there
  step_reads : (e k : ℕ) → something (step_back d e k (expected_at d e k)) ≡ label_reads d e k
  unfolding label_reads code_back field_back
  step_reads e k = go (is_escaped c) (leb 32768 c)
    where
      c : ℕ
      c = d.codes ! (e + k)

      n : ℕ
      n = expected_at d e k

      go : (a b : Bool) → something (cond a (row_back keys values (e + k) c (bisect keys (e + k))) (cond b (element_back (n + (c - 32768))) (field_back d.fields c)))
          ≡ cond a (all_of (found (find keys (e + k)) ∷ beq (is_element (lookup keys values (e + k))) (leb 32768 c) ∷ []))
          (cond b (ltb (n + (c - 32768)) array_element_label) (all_of (ltb c (length d.fields) ∷ not (is_element (d.fields ! c)) ∷ [])))
      go true b = row_reads (e + k) c
      go false true = something-one _ _
      go false false = something-one _ _

  pub walks_past_lem : (e n : ℕ) → walks_past d e n ≡ not (any (λ k. not (label_reads d e k)) n)
  unfolding walks_past next_back any
  walks_past_lem e zero = refl
  walks_past_lem e (suc n) = go (any bad n) refl (walks_past_lem e n)
    where
      bad : ℕ → Bool
      bad k = not (label_reads d e k)

      go : (b : Bool) → any bad n ≡ b → something (next_back d e n) ≡ not b → something (onward (λ m. next_of m (step_back d e n m)) (next_back d e n)) ≡ not (b || not (label_reads d e n))
      go true q ih = rw (something_none (next_back d e n) ih)
      go false q ih =
          rw (next-back d rise same e n (λ j l. not-false _ (any_false bad n j q l)))
          (something-next (expected_at d e n) (step_back d e n (expected_at d e n)) ∙ step_reads e n ∙ twice (label_reads d e n))
