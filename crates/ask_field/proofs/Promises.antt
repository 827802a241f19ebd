-- `field` and `referent` keep the promise on any columns. Assumes nothing.
use Prim.Native.Nat.{ℕ, suc, ◌+◌, ◌-◌, ◌%◌, ◌≤◌, ◌<◌}
use native.Mathlib.Nat.{add-zero}
use native.Mathlib.Omega.{arith}
use mathlib.Core.Path.{◌≡◌, refl, sym, ap, ◌∙◌}
use mathlib.Core.Logic.{◌⊎◌, inl, inr}
use mathlib.Core.Bool.{Bool, true, false, cond, not, false≢true, beq}
use mathlib.Core.List.{List, [], ◌∷◌}
use mathlib.Core.Option.{Option, none, some}
use lib.Dec.{eqb, ltb, leb}
use lib.ListN.{length, take}
use Rattle.std.specs.Prelude.{None, Some, Ok, Err}
use borrow.Author.Tests.{lt-ltb, le-ltb, ltb-true, leb-true, leb-false, eq-eqb, ne_eqb, eqb-true, eqb-false, not-true}
use Rattle.columns.specs.Lists.{◌!◌, first_place, all_of, find, found, lookup, part}
use Rattle.columns.specs.Columns.{accepts}
use Rattle.columns.specs.Ranks.{rank}
use Rattle.columns.proofs.Lists.{lt_or_ge}
use Rattle.columns.proofs.Parts.{first_ext}
use Rattle.columns.proofs.Ranks.{rank_within}
use Rattle.columns.proofs.Sums.{part_at, part_length_lem}
use Rattle.columns.proofs.Tests.{each_of}
use Rattle.rules.specs.Types.{array_element_label, is_element}
use Rattle.rules.specs.Edges.{Edge}
use Rattle.rules.specs.Labels.{Coded, is_escaped, exact_label, coarse_label}
use Rattle.rules.specs.Questions.{Columns, coarse, first_edge, targets_of, smallest, or_smallest, label_reads, reads_back, weak_reads, weak_read, weak_in, objects_in, offset_at, edges_in, edge_at, edges_read, field, referent, Promised}
use Rattle.rules.specs.Questions.{field_in, referent_in}
use Rattle.rules.proofs.Codes.{coarse-code}
use Rattle.rules.proofs.Weak.{weak-part, first-smallest}
use Rattle.labels.specs.Reading.{coarse_back}
use Rattle.labels.proofs.Back.{coarse-back}
use Rattle.ask_span.specs.Reading.{weak_rows_of}
use Rattle.ask_span.specs.Graph.{span_in}
use Rattle.ask_field.specs.Sought.{Sought, first_sought, element_at, stops, if_read, decoded, sought_in, sought_target, field_found, first_weak, or_weak, referent_found}
use Rattle.ask_span.proofs.Spans.{asked_reads, span-read, span_none, span-columns, weak_ordered, weak_climbs, weak_paired, weak-read, weak-columns}
use Rattle.ask_span.proofs.FirstEdge.{first_edge_lem}
use Rattle.ask_span.proofs.Escapes.{escapes_rising, escapes_paired, edge_reads}
use Rattle.ask_field.proofs.Placed.{placed_none, placed_ext}
use Rattle.ask_field.proofs.Fields.{sought_element, sought_other, sought_field}

beq_false : (b : Bool) → beq b false ≡ true → b ≡ false
beq_false true e = absurd (false≢true e)
beq_false false e = refl

-- the coarse label of an element's code, and of a field's
element-label : (d : Coded) (e k : ℕ) → leb 32768 (d.codes ! (e + k)) ≡ true → coarse_label d e k ≡ array_element_label
unfolding coarse_label
element-label d e k t = rw t

field-label : (d : Coded) (e k : ℕ) → label_reads d e k ≡ true → leb 32768 (d.codes ! (e + k)) ≡ false → coarse_label d e k < array_element_label
unfolding label_reads coarse_label
field-label d e k h f = rw f (leb-false array_element_label _ (go (is_escaped c) refl (rw f at h)))
  where
    c : ℕ
    c = d.codes ! (e + k)

    row : ℕ
    row = lookup d.escape_at d.escape_label (e + k)

    go : (z : Bool) → is_escaped c ≡ z
        → cond z (all_of (found (find d.escape_at (e + k)) ∷ beq (is_element row) false ∷ [])) (all_of (ltb c (length d.fields) ∷ not (is_element (d.fields ! c)) ∷ [])) ≡ true
        → is_element (cond (eqb c 32767) row (d.fields ! c)) ≡ false
    go true z h =
        let small : c < 32768 = leb-false 32768 c f in
        let last : c % 32768 ≡ 32767 = eqb-true (c % 32768) 32767 z in
        rw (eq-eqb c 32767 (omega arith)) (beq_false (is_element row) (each_of _ h 1))
    go false z h =
        let other : c % 32768 ≡ 32767 → ⊥ = eqb-false (c % 32768) 32767 z in
        rw (ne_eqb c 32767 (λ q. other (omega arith))) (not-true (is_element (d.fields ! c)) (each_of _ h 1))

module _ (c : Columns) (o l : ℕ) (h : reads_back c o ≡ true) where
  abbrev d : Coded
  d = c.labels

  abbrev e : ℕ
  e = offset_at c o

  abbrev n : ℕ
  n = edges_in c o

  abbrev matches : ℕ → Bool
  matches k = eqb (coarse_label d e k) l

  coarse_most : (k : ℕ) → k < n → coarse_label d e k ≤ array_element_label
  coarse_most k m = go (leb 32768 (d.codes ! (e + k))) refl
    where
      go : (b : Bool) → leb 32768 (d.codes ! (e + k)) ≡ b → coarse_label d e k ≤ array_element_label
      go true t = omega (arith, element-label d e k t)
      go false t = omega (arith, field-label d e k (edge_reads c o h k m) t)

  match_element : l ≡ array_element_label → (k : ℕ) → k < n → element_at d e k ≡ matches k
  match_element q k m = go (leb 32768 (d.codes ! (e + k))) refl
    where
      go : (b : Bool) → leb 32768 (d.codes ! (e + k)) ≡ b → b ≡ matches k
      go true t = sym (eq-eqb (coarse_label d e k) l (element-label d e k t ∙ sym q))
      go false t = sym (ne_eqb (coarse_label d e k) l (λ z. omega (arith, field-label d e k (edge_reads c o h k m) t)))

  back : (k : ℕ) → k < n → coarse_back d (e + k) ≡ coarse_label d e k ∷ []
  back k m = coarse-back d (escapes_rising c o h) (escapes_paired c o h) e k (edge_reads c o h k m)

  match_decoded : decoded d e n l ≡ Ok (first_sought matches n)
  unfolding decoded first_sought
  match_decoded = ap walked (first_ext (stops d e l) matches n (λ k m. rw (back k m))) ∙ go (ltb j n) refl
    where
      j : ℕ
      j = first_place matches n

      walked : ℕ → Sought
      walked i = cond (ltb i n) (if_read (coarse_back d (e + i)) i) (Ok None)

      go : (b : Bool) → ltb j n ≡ b → cond b (if_read (coarse_back d (e + j)) j) (Ok None) ≡ Ok (cond b (Some j) None)
      go true t = ap (λ (ls : List ℕ). if_read ls j) (back j (ltb-true j n t))
      go false t = refl

  -- what is sought is the first edge whose coarse label is the one asked
  sought_read : sought_in d e n l ≡ Ok (first_sought matches n)
  sought_read = go (eqb l array_element_label) refl (is_element l) refl
    where
      go : (a : Bool) → eqb l array_element_label ≡ a → (b : Bool) → is_element l ≡ b → sought_in d e n l ≡ Ok (first_sought matches n)
      go true p b q =
          let is : l ≡ array_element_label = eqb-true l array_element_label p in
          sym (sought_element d e n l is) ∙ ap Ok (placed_ext (element_at d e) matches n (match_element is))
      go false p true q =
          let not_it : l ≡ array_element_label → ⊥ = eqb-false l array_element_label p in
          let high : array_element_label ≤ l = leb-true array_element_label l q in
          sym (sought_other d e n l not_it high) ∙ ap Ok (placed_none matches n (λ k m. ne_eqb (coarse_label d e k) l (λ w. not_it (omega (arith, coarse_most k m)))))
      go false p false q = sym (sought_field d e n l (leb-false array_element_label l q)) ∙ match_decoded

  -- the rules' answer on the edges that are read
  target-read : sought_target c.targets e o (Ok (first_sought matches n)) ≡ 0 ∷ field_in (edges_read c o) l
  unfolding first_sought field_in edges_read
  target-read =
      rw (first_edge_lem (λ (x : Edge). eqb (coarse x.label) l) (edge_at c o) n, ← first_ext matches (λ k. eqb (coarse (exact_label d e k)) l) n (λ k m. ap (λ (z : ℕ). eqb z l) (coarse-code d e k (edge_reads c o h k m))))
      (go (ltb j n))
    where
      j : ℕ
      j = first_place matches n

      go : (b : Bool) → sought_target c.targets e o (Ok (cond b (Some j) None)) ≡ 0 ∷ targets_of (cond b (some (edge_at c o j)) none)
      go true = refl
      go false = refl

-- the first row of those from a up to b
first_of : (xs : List ℕ) → cond (ltb 0 (length xs)) (xs ! 0 ∷ []) [] ≡ take 1 xs
first_of [] = refl
first_of (x ∷ xs) = rw (lt-ltb 0 (suc (length xs)) (omega arith))

first-row : (to : List ℕ) (a b : ℕ) → b ≤ length to → cond (ltb a b) (0 ∷ to ! a ∷ []) (0 ∷ []) ≡ 0 ∷ take 1 (part to a b)
first-row to a b h = go (lt_or_ge a b) ∙ ap (λ (ts : List ℕ). 0 ∷ ts) (ap (λ (n : ℕ). cond (ltb 0 n) (part to a b ! 0 ∷ []) []) (sym (part_length_lem to a b h)) ∙ first_of (part to a b))
  where
    go : (a < b) ⊎ (b ≤ a) → cond (ltb a b) (0 ∷ to ! a ∷ []) (0 ∷ []) ≡ 0 ∷ cond (ltb 0 (b - a)) (part to a b ! 0 ∷ []) []
    go (inl m) = rw (lt-ltb a b m, lt-ltb 0 (b - a) (omega arith), part_at to a b 0 (omega arith), add-zero a)
    go (inr m) = rw (le-ltb a b m, le-ltb 0 (b - a) (omega arith))

first-columns : (o : ℕ) (says to : List ℕ) → (eqb (says ! 0) 12 ≡ true → says ≡ 12 ∷ o ∷ []) → eqb (first_weak says to ! 0) 12 ≡ true → first_weak says to ≡ 12 ∷ o ∷ []
unfolding first_weak
first-columns o says to h = go (accepts says) (ltb (says ! 1) (says ! 2))
  where
    go : (b u : Bool) → eqb (cond b (cond u (0 ∷ to ! (says ! 1) ∷ []) (0 ∷ [])) says ! 0) 12 ≡ true → cond b (cond u (0 ∷ to ! (says ! 1) ∷ []) (0 ∷ [])) says ≡ 12 ∷ o ∷ []
    go true true q = absurd (false≢true q)
    go true false q = absurd (false≢true q)
    go false u q = h q

module _ (c : Columns) (o l : ℕ) where
  field-columns : eqb (field_found c o l ! 0) 12 ≡ true → field_found c o l ≡ 12 ∷ o ∷ []
  unfolding field_found
  field-columns = go (accepts says) (sought_in c.labels (says ! 1) (says ! 2 - says ! 1) l)
    where
      says : List ℕ
      says = span_in c o

      go : (b : Bool) (s : Sought) → eqb (cond b (sought_target c.targets (says ! 1) o s) says ! 0) 12 ≡ true → cond b (sought_target c.targets (says ! 1) o s) says ≡ 12 ∷ o ∷ []
      go true (Ok (Some k)) q = absurd (false≢true q)
      go true (Ok None) q = absurd (false≢true q)
      go true (Err u) q = refl
      go false s q = span-columns c o q

  field_none : objects_in c ≤ o → field_found c o l ≡ 11 ∷ o ∷ []
  unfolding field_found accepts
  field_none m = rw (span_none c o m)

  field-read : o < objects_in c → reads_back c o ≡ true → field_found c o l ≡ 0 ∷ field_in (edges_read c o) l
  unfolding field_found accepts
  field-read m h = rw (span-read c o m h) (ap (sought_target c.targets (offset_at c o) o) (sought_read c o l h) ∙ target-read c o l h)

  -- `field` keeps the promise, on any columns.
  pub field_promised : Promised o (field_found c o l) (field c o l)
  unfolding field
  field_promised = record { answered = asked_reads c o (reads_back c o) _ _ field-read field_none; columns = field-columns }

  -- `referent`: the field, or else the first weak target, which is the smallest.
  field_or : (es : Option Edge) (ws vs : List ℕ) → ws ≡ 0 ∷ smallest vs → or_weak (0 ∷ targets_of es) ws ≡ 0 ∷ or_smallest (targets_of es) vs
  unfolding accepts all_of
  field_or none ws vs q = q
  field_or (some x) ws vs q = refl

  weakly-read : o < objects_in c → weak_reads c ≡ true → first_weak (weak_rows_of (length c.offsets.short) c.weak_from c.weak_to o) c.weak_to ≡ 0 ∷ smallest (weak_read c o)
  unfolding first_weak accepts weak_read
  weakly-read m w =
      rw (weak-read c o m w) (first-row c.weak_to (rank c.weak_from o) (rank c.weak_from (suc o)) inside ∙ ap (λ (ts : List ℕ). 0 ∷ ts) (sym sorted))
    where
      inside : rank c.weak_from (suc o) ≤ length c.weak_to
      inside = omega (arith, rank_within c.weak_from (suc o), weak_paired c o w)

      own : part c.weak_to (rank c.weak_from o) (rank c.weak_from (suc o)) ≡ weak_in c.weak_from c.weak_to o
      own = weak-part c.weak_from c.weak_to o (sym (weak_paired c o w)) (weak_climbs c o w)

      sorted : smallest (part c.weak_to (rank c.weak_from o) (rank c.weak_from (suc o))) ≡ take 1 (part c.weak_to (rank c.weak_from o) (rank c.weak_from (suc o)))
      sorted = rw own (first-smallest c.weak_from c.weak_to o (weak_ordered c o w))

  referent-read : o < objects_in c → all_of (reads_back c o ∷ weak_reads c ∷ []) ≡ true → referent_found c o l ≡ 0 ∷ referent_in (edges_read c o) (weak_read c o) l
  unfolding referent_found field_in
  referent-read m h =
      ap (λ (f : List ℕ). or_weak f (first_weak (weak_rows_of (length c.offsets.short) c.weak_from c.weak_to o) c.weak_to)) (field-read m (each_of _ h 0))
      ∙ field_or (first_edge (λ (x : Edge). eqb (coarse x.label) l) (edges_read c o)) _ (weak_read c o) (weakly-read m (each_of _ h 1))

  referent_none : objects_in c ≤ o → referent_found c o l ≡ 11 ∷ o ∷ []
  unfolding referent_found accepts all_of
  referent_none m = rw (field_none m)

  referent-columns : eqb (referent_found c o l ! 0) 12 ≡ true → referent_found c o l ≡ 12 ∷ o ∷ []
  unfolding referent_found
  referent-columns = go (all_of (accepts f ∷ eqb (length f) 1 ∷ []))
    where
      f : List ℕ
      f = field_found c o l

      says : List ℕ
      says = weak_rows_of (length c.offsets.short) c.weak_from c.weak_to o

      go : (b : Bool) → eqb (cond b (first_weak says c.weak_to) f ! 0) 12 ≡ true → cond b (first_weak says c.weak_to) f ≡ 12 ∷ o ∷ []
      go true = first-columns o says c.weak_to (weak-columns c o)
      go false = field-columns

  -- `referent` keeps the promise, on any columns.
  pub referent_promised : Promised o (referent_found c o l) (referent c o l)
  unfolding referent
  referent_promised = record { answered = asked_reads c o (all_of (reads_back c o ∷ weak_reads c ∷ [])) _ _ referent-read referent_none; columns = referent-columns }
