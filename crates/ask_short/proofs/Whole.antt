-- An answer by the short columns that is no refusal is the whole question's, on any columns. Assumes nothing.
use Prim.Native.Nat.{ℕ, zero, suc, ◌+◌, ◌-◌}
use native.Mathlib.Omega.{arith}
use mathlib.Core.Path.{◌≡◌, refl, sym, ap, ◌∙◌}
use mathlib.Core.Bool.{Bool, true, false, cond, false≢true}
use mathlib.Core.List.{List, [], ◌∷◌}
use lib.Dec.{eqb, ltb, leb}
use lib.ListN.{length}
use borrow.Author.Tests.{eqb-true}
use Rattle.columns.specs.Lists.{◌!◌, all_of, first_place}
use Rattle.columns.specs.Columns.{accepts}
use Rattle.columns.specs.Ranks.{bisect}
use Rattle.columns.proofs.Tests.{each_of}
use Rattle.store.specs.Blocked.{Blocked, long_back, short_back, read_back}
use Rattle.rules.specs.Types.{array_element_label}
use Rattle.rules.specs.Labels.{Coded, is_escaped}
use Rattle.rules.specs.Questions.{Columns}
use Rattle.labels.specs.Reading.{row_back, element_back, field_back, code_back, step_back, next_of, onward, next_back, coarse_back, walk_back, exact_back}
use Rattle.ask_span.specs.Reading.{ended, span_of}
use Rattle.ask_span.specs.Graph.{span_in}
use Rattle.ask_label.specs.Labelled.{goes_to, or_columns, LabelTo}
use Rattle.ask_label.proofs.Labels.{label_forward}
use Rattle.ask_short.specs.Lean.{plain_back, shortly, plain_coded, leanly, label_found}
use Rattle.ask_short.proofs.Plain.{no_long_lem, no_row, any-edge}

pub offset-whole : (b : Blocked) (i : ℕ) → accepts (read_back (shortly b) i) ≡ true → read_back (shortly b) i ≡ read_back b i
unfolding read_back accepts
offset-whole b i h = go (ltb i (length b.short)) (eqb (b.short ! i) 65535) h
  where
    far : List ℕ
    far = long_back b.long_at b.long_value i (bisect b.long_at i)

    near : List ℕ
    near = short_back b.bases (b.short ! i) i

    none : List ℕ
    none = long_back [] [] i (bisect [] i)

    go : (t u : Bool) → eqb (cond t (cond u none near) (11 ∷ i ∷ []) ! 0) 0 ≡ true → cond t (cond u none near) (11 ∷ i ∷ []) ≡ cond t (cond u far near) (11 ∷ i ∷ [])
    go true true q = let z : eqb (none ! 0) 0 ≡ false = ap (λ (s : List ℕ). eqb (s ! 0) 0) (no_long_lem i (bisect [] i)) in absurd (false≢true (sym z ∙ q))
    go true false q = refl
    go false u q = refl

-- an answer that is no refusal, and one that is
pub no_columns : (o : ℕ) → accepts (12 ∷ o ∷ []) ≡ false
unfolding accepts
no_columns o = refl

pub accepted_12 : (s : List ℕ) → accepts s ≡ true → eqb (s ! 0) 12 ≡ false
unfolding accepts
accepted_12 s h = ap (λ (n : ℕ). eqb n 12) (eqb-true (s ! 0) 0 h)

-- Where a span is accepted, both its offsets are.
ended_reads : (first next : List ℕ) (codes targets o : ℕ) → accepts (ended first next codes targets o) ≡ true → (accepts first ≡ true) × (accepts next ≡ true)
unfolding ended
ended_reads first next codes targets o h = go (all_of tests) refl h
  where
    tests : List Bool
    tests = accepts first ∷ accepts next ∷ leb (first ! 1) (next ! 1) ∷ leb (next ! 1) codes ∷ leb (next ! 1) targets ∷ []

    go : (t : Bool) → all_of tests ≡ t → accepts (cond t (0 ∷ first ! 1 ∷ next ! 1 ∷ []) (12 ∷ o ∷ [])) ≡ true → (accepts first ≡ true) × (accepts next ≡ true)
    go true e q = (each_of tests e 0, each_of tests e 1)
    go false e q = absurd (false≢true (sym (no_columns o) ∙ q))

pub span-whole : (b : Blocked) (codes targets o : ℕ) → accepts (span_of (shortly b) codes targets o) ≡ true → span_of (shortly b) codes targets o ≡ span_of b codes targets o
unfolding span_of
span-whole b codes targets o h = go (ltb o (length b.short - 1)) h
  where
    first : List ℕ
    first = read_back (shortly b) o

    next : List ℕ
    next = read_back (shortly b) (o + 1)

    go : (t : Bool) → accepts (cond t (ended first next codes targets o) (11 ∷ o ∷ [])) ≡ true
        → cond t (ended first next codes targets o) (11 ∷ o ∷ []) ≡ cond t (ended (read_back b o) (read_back b (o + 1)) codes targets o) (11 ∷ o ∷ [])
    go true q =
        let p = ended_reads first next codes targets o q in
        ap (λ (s : List ℕ). ended s next codes targets o) (offset-whole b o p.0) ∙ ap (λ (s : List ℕ). ended (read_back b o) s codes targets o) (offset-whole b (o + 1) p.1)
    go false q = refl

-- without the escapes, what is read is the label
nothing_read : {x : ℕ} {xs ls : List ℕ} → ls ≡ [] → ls ≡ x ∷ xs → ⊥
nothing_read {x} {xs} {ls} e q = let z : 0 ≡ suc (length xs) = ap length (sym e ∙ q) in absurd (omega arith)

module _ (d : Coded) (e : ℕ) where
  code-whole : (g n c : ℕ) {x : ℕ} {xs : List ℕ} → code_back d.fields [] [] g n c ≡ x ∷ xs → code_back d.fields [] [] g n c ≡ code_back d.fields d.escape_at d.escape_label g n c
  unfolding code_back
  code-whole g n c {x} {xs} q = go (is_escaped c) q
    where
      rest : List ℕ
      rest = cond (leb 32768 c) (element_back (n + (c - 32768))) (field_back d.fields c)

      go : (t : Bool) → cond t (row_back [] [] g c (bisect [] g)) rest ≡ x ∷ xs → cond t (row_back [] [] g c (bisect [] g)) rest ≡ cond t (row_back d.escape_at d.escape_label g c (bisect d.escape_at g)) rest
      go true q = absurd (nothing_read (no_row g c (bisect [] g)) q)
      go false q = refl

  -- so a code's label is the edge's, whichever edge has the code
  pub edge-whole : (g n c : ℕ) {x : ℕ} {xs : List ℕ} → plain_back d.fields n c ≡ x ∷ xs → code_back d.fields d.escape_at d.escape_label g n c ≡ x ∷ xs
  edge-whole g n c {x} {xs} q = let z : code_back d.fields [] [] g n c ≡ x ∷ xs = sym (any-edge d.fields g n c) ∙ q in sym (code-whole g n c z) ∙ z

  pub coarse-whole : (k : ℕ) {x : ℕ} {xs : List ℕ} → coarse_back (plain_coded d) k ≡ x ∷ xs → coarse_back (plain_coded d) k ≡ coarse_back d k
  unfolding coarse_back
  coarse-whole k {x} {xs} q = go (leb 32768 (d.codes ! k)) q
    where
      go : (t : Bool) → cond t (array_element_label ∷ []) (code_back d.fields [] [] k 0 (d.codes ! k)) ≡ x ∷ xs
          → cond t (array_element_label ∷ []) (code_back d.fields [] [] k 0 (d.codes ! k)) ≡ cond t (array_element_label ∷ []) (code_back d.fields d.escape_at d.escape_label k 0 (d.codes ! k))
      go true q = refl
      go false q = code-whole k 0 (d.codes ! k) q

  next_step : (n : ℕ) (ls ms : List ℕ) {x : ℕ} {xs : List ℕ} → ((y : ℕ) (ys : List ℕ) → ls ≡ y ∷ ys → ls ≡ ms) → next_of n ls ≡ x ∷ xs → next_of n ls ≡ next_of n ms
  next_step n [] ms h q = absurd (nothing_read refl q)
  next_step n (l ∷ ls) ms h q = ap (next_of n) (h _ _ refl)

  next-whole : (k : ℕ) {x : ℕ} {xs : List ℕ} → next_back (plain_coded d) e k ≡ x ∷ xs → next_back (plain_coded d) e k ≡ next_back d e k
  unfolding next_back
  next-whole zero q = refl
  next-whole (suc k) {x} {xs} q = go (next_back (plain_coded d) e k) (next_back d e k) (λ y ys. next-whole k) q
    where
      go : (ns ms : List ℕ) → ((y : ℕ) (ys : List ℕ) → ns ≡ y ∷ ys → ns ≡ ms) → onward (λ n. next_of n (step_back (plain_coded d) e k n)) ns ≡ x ∷ xs
          → onward (λ n. next_of n (step_back (plain_coded d) e k n)) ns ≡ onward (λ n. next_of n (step_back d e k n)) ms
      go [] ms h q = absurd (nothing_read refl q)
      go (n ∷ ns) ms h q = next_step n (step_back (plain_coded d) e k n) (step_back d e k n) (λ y ys. code-whole (e + k) n (d.codes ! (e + k))) q ∙ ap (onward (λ n. next_of n (step_back d e k n))) (h _ _ refl)

  pub walk_whole : (k : ℕ) {x : ℕ} {xs : List ℕ} → walk_back (plain_coded d) e k ≡ x ∷ xs → walk_back (plain_coded d) e k ≡ walk_back d e k
  unfolding walk_back
  walk_whole k {x} {xs} q = go (next_back (plain_coded d) e k) (next_back d e k) (λ y ys. next-whole k) q
    where
      go : (ns ms : List ℕ) → ((y : ℕ) (ys : List ℕ) → ns ≡ y ∷ ys → ns ≡ ms) → onward (step_back (plain_coded d) e k) ns ≡ x ∷ xs → onward (step_back (plain_coded d) e k) ns ≡ onward (step_back d e k) ms
      go [] ms h q = absurd (nothing_read refl q)
      go (n ∷ ns) ms h q = code-whole (e + k) n (d.codes ! (e + k)) q ∙ ap (onward (step_back d e k)) (h _ _ refl)

  pub exact_whole : (k : ℕ) {x : ℕ} {xs : List ℕ} → exact_back (plain_coded d) e k ≡ x ∷ xs → exact_back (plain_coded d) e k ≡ exact_back d e k
  unfolding exact_back
  exact_whole k {x} {xs} q = go (leb 32768 (d.codes ! (e + k))) q
    where
      go : (t : Bool) → cond t (walk_back (plain_coded d) e k) (step_back (plain_coded d) e k 0) ≡ x ∷ xs → cond t (walk_back (plain_coded d) e k) (step_back (plain_coded d) e k 0) ≡ cond t (walk_back d e k) (step_back d e k 0)
      go true q = walk_whole k q
      go false q = code-whole (e + k) 0 (d.codes ! (e + k)) q

-- an answer that comes by a span: where it is accepted, so is the span
pub by_span : (s x : List ℕ) → accepts (cond (accepts s) x s) ≡ true → accepts s ≡ true
by_span s x h = go (accepts s) refl h
  where
    go : (t : Bool) → accepts s ≡ t → accepts (cond t x s) ≡ true → t ≡ true
    go true e q = refl
    go false e q = absurd (false≢true (sym e ∙ q))

is_read : (o : ℕ) (ls ms : List ℕ) → ((y : ℕ) (ys : List ℕ) → ls ≡ y ∷ ys → ls ≡ ms) → accepts (or_columns o ls) ≡ true → or_columns o ls ≡ or_columns o ms
is_read o [] ms h q = absurd (false≢true (sym (no_columns o) ∙ q))
is_read o (l ∷ ls) ms h q = ap (or_columns o) (h _ _ refl)

module _ (c : Columns) (o t : ℕ) where
  abbrev s : List ℕ
  s = span_in (leanly c) o

  abbrev n : ℕ
  n = s ! 2 - s ! 1

  abbrev k : ℕ
  k = first_place (goes_to c.targets (s ! 1) t) n

  pub label-whole : accepts (label_found (leanly c) o t) ≡ true → label_found (leanly c) o t ≡ label_found c o t
  unfolding label_found
  label-whole h =
      let a = by_span s (cond (ltb k n) (or_columns o (exact_back (plain_coded c.labels) (s ! 1) k)) (0 ∷ [])) h in
      go (accepts s) a (ltb k n) h ∙ ap from (span-whole c.offsets (length c.labels.codes) (length c.targets) o a)
    where
      from : List ℕ → List ℕ
      from s = cond (accepts s) (cond (ltb (first_place (goes_to c.targets (s ! 1) t) (s ! 2 - s ! 1)) (s ! 2 - s ! 1)) (or_columns o (exact_back c.labels (s ! 1) (first_place (goes_to c.targets (s ! 1) t) (s ! 2 - s ! 1)))) (0 ∷ [])) s

      go : (b : Bool) → b ≡ true → (u : Bool) → accepts (cond b (cond u (or_columns o (exact_back (plain_coded c.labels) (s ! 1) k)) (0 ∷ [])) s) ≡ true
          → cond b (cond u (or_columns o (exact_back (plain_coded c.labels) (s ! 1) k)) (0 ∷ [])) s ≡ cond b (cond u (or_columns o (exact_back c.labels (s ! 1) k)) (0 ∷ [])) s
      go true e true q = is_read o (exact_back (plain_coded c.labels) (s ! 1) k) (exact_back c.labels (s ! 1) k) (λ y ys. exact_whole c.labels (s ! 1) k) q
      go true e false q = refl
      go false e u q = absurd (false≢true e)

  -- So it is the answer of `ask_label::label_of`, whichever way that call reads a late label.
  found_forward : {says : List ℕ} → LabelTo c o t says → eqb (label_found c o t ! 0) 12 ≡ false → says ≡ label_found c o t
  unfolding label_found
  found_forward w f = label_forward c o t w f

  pub label_called : {says : List ℕ} → LabelTo c o t says → accepts (label_found (leanly c) o t) ≡ true → label_found (leanly c) o t ≡ says
  label_called w h =
      let same : label_found (leanly c) o t ≡ label_found c o t = label-whole h in
      same ∙ sym (found_forward w (accepted_12 (label_found c o t) (ap accepts (sym same) ∙ h)))
