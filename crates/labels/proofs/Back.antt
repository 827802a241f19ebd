-- Reading gives document 01's labels, coarse and exact, wherever the edges met read back. Assumes nothing.
use Prim.Native.Nat.{ℕ, zero, suc, ◌+◌, ◌-◌, ◌%◌, ◌≤◌, ◌<◌}
use native.Mathlib.Omega.{arith}
use mathlib.Core.Path.{◌≡◌, refl, sym, ap, ◌∙◌}
use mathlib.Core.Bool.{Bool, true, false, cond, not, beq, false≢true}
use mathlib.Core.List.{List, [], ◌∷◌}
use mathlib.Core.Option.{Option, none, some}
use lib.Dec.{eqb, leb, ltb}
use lib.ListN.{length}
use borrow.Author.Tests.{leb-false, eq-eqb, lt-ltb}
use Rattle.columns.specs.Lists.{◌!◌, find, found, lookup, all_of}
use Rattle.columns.specs.Ranks.{Rises, bisect}
use Rattle.columns.proofs.Ranks.{bisect-found}
use Rattle.columns.proofs.Search.{find-get, lookup-find}
use Rattle.columns.proofs.Tests.{each_of}
use Rattle.rules.specs.Types.{array_element_label, is_element}
use Rattle.rules.specs.Labels.{Coded, is_escaped, read_label, expected_at, exact_label, coarse_label}
use Rattle.rules.specs.Questions.{label_reads}
use Rattle.labels.specs.Reading.{row_back, element_back, field_back, code_back, step_back, next_back, coarse_back, walk_back, exact_back}

module _ (d : Coded) (rise : Rises d.escape_at) (same : length d.escape_at ≡ length d.escape_label) where
  abbrev keys : List ℕ
  keys = d.escape_at

  abbrev values : List ℕ
  values = d.escape_label

  row_back_lem : (e c : ℕ) → found (find keys e) ≡ true → beq (is_element (lookup keys values e)) (leb 32768 c) ≡ true → row_back keys values e c (bisect keys e) ≡ lookup keys values e ∷ []
  unfolding row_back all_of
  row_back_lem e c f fits = go (find keys e) refl f
    where
      go : (o : Option ℕ) → find keys e ≡ o → found o ≡ true → row_back keys values e c (bisect keys e) ≡ lookup keys values e ∷ []
      go none q h = absurd (false≢true h)
      go (some j) q h =
          let at = find-get keys e j q in
          let value : lookup keys values e ≡ values ! j = lookup-find keys values e j same q in
          let place : bisect keys e ≡ j = ap (bisect keys) (sym at.1) ∙ bisect-found keys j rise at.0 in
          let kind : beq (is_element (values ! j)) (leb 32768 c) ≡ true = rw value at fits in
          let long : j < length values = omega (arith, at.0) in
          rw (place, lt-ltb j (length keys) at.0, eq-eqb (keys ! j) e at.1, lt-ltb j (length values) long, kind, value)

  -- one label, where it reads
  pub step_back_lem : (e k : ℕ) → label_reads d e k ≡ true → step_back d e k (expected_at d e k) ≡ read_label d (e + k) (expected_at d e k) (d.codes ! (e + k)) ∷ []
  unfolding label_reads code_back field_back read_label
  step_back_lem e k h = go (is_escaped c) (leb 32768 c) refl h
    where
      c : ℕ
      c = d.codes ! (e + k)

      n : ℕ
      n = expected_at d e k

      row : Bool
      row = all_of (found (find keys (e + k)) ∷ beq (is_element (lookup keys values (e + k))) (leb 32768 c) ∷ [])

      go : (a b : Bool) → leb 32768 c ≡ b → cond a row (cond b (ltb (n + (c - 32768)) array_element_label) (all_of (ltb c (length d.fields) ∷ not (is_element (d.fields ! c)) ∷ []))) ≡ true
          → cond a (row_back keys values (e + k) c (bisect keys (e + k))) (cond b (element_back (n + (c - 32768))) (field_back d.fields c))
          ≡ cond a (lookup keys values (e + k)) (cond b (array_element_label + (n + (c - 32768))) (d.fields ! c)) ∷ []
      go true b q h = row_back_lem (e + k) c (each_of _ h 0) (each_of _ h 1)
      go false true q h = rw h
      go false false q h = rw h

  -- what is expected, where the edges before it read
  pub next-back : (e k : ℕ) → ((j : ℕ) → j < k → label_reads d e j ≡ true) → next_back d e k ≡ expected_at d e k ∷ []
  unfolding next_back expected_at
  next-back e zero h = refl
  next-back e (suc k) h = rw (next-back e k (λ j l. h j (omega arith)), step_back_lem e k (h k (omega arith)))

  -- a label, where it and the edges before it read
  pub walk_back_lem : (e k : ℕ) → ((j : ℕ) → j ≤ k → label_reads d e j ≡ true) → walk_back d e k ≡ exact_label d e k ∷ []
  unfolding walk_back exact_label
  walk_back_lem e k h = rw (next-back e k (λ j l. h j (omega arith))) (step_back_lem e k (h k (omega arith)))

  -- "The exact label": an element's by the edges before it, a field's by its own code
  field_step : (e k n m : ℕ) → leb 32768 (d.codes ! (e + k)) ≡ false → step_back d e k n ≡ step_back d e k m
  unfolding code_back
  field_step e k n m f = rw f

  pub exact_back_lem : (e k : ℕ) → ((j : ℕ) → j ≤ k → label_reads d e j ≡ true) → exact_back d e k ≡ exact_label d e k ∷ []
  unfolding exact_back exact_label
  exact_back_lem e k h = go (leb 32768 (d.codes ! (e + k))) refl
    where
      go : (b : Bool) → leb 32768 (d.codes ! (e + k)) ≡ b → exact_back d e k ≡ exact_label d e k ∷ []
      go true q = rw q (walk_back_lem e k h)
      go false q = rw q (field_step e k 0 (expected_at d e k) q ∙ step_back_lem e k (h k (omega arith)))

  -- "`coarse` gives every element the label `ARRAY_ELEMENT`."
  pub coarse-back : (e k : ℕ) → label_reads d e k ≡ true → coarse_back d (e + k) ≡ coarse_label d e k ∷ []
  unfolding coarse_back coarse_label read_label
  coarse-back e k h = go (leb 32768 c) refl
    where
      c : ℕ
      c = d.codes ! (e + k)

      read : step_back d e k (expected_at d e k) ≡ read_label d (e + k) (expected_at d e k) c ∷ []
      read = step_back_lem e k h

      go : (b : Bool) → leb 32768 c ≡ b → coarse_back d (e + k) ≡ coarse_label d e k ∷ []
      go true q = rw q
      go false q =
          let small : c % 32768 ≡ c = omega (arith, leb-false 32768 c q) in
          let escaped : is_escaped c ≡ eqb c 32767 = ap (λ (r : ℕ). eqb r 32767) small in
          let field : read_label d (e + k) (expected_at d e k) c ≡ cond (eqb c 32767) (lookup keys values (e + k)) (d.fields ! c) = rw (escaped, q) in
          rw q (field_step e k 0 (expected_at d e k) q ∙ read ∙ ap (λ (l : ℕ). l ∷ []) field)
