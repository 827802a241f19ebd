-- Over the coded columns of a graph that meets PARTS every object reads back, and each question is the same question on the plain columns.
-- Assumes nothing.
use Prim.Native.Nat.{ℕ, zero, suc, ◌+◌, ◌-◌, ◌^◌, ◌≤◌, ◌<◌, min}
use native.Mathlib.Omega.{arith}
use mathlib.Core.Path.{◌≡◌, refl, sym, ap, ap₂, ◌∙◌}
use mathlib.Core.Bool.{Bool, true, false, cond, not, false≢true}
use mathlib.Core.List.{List, [], ◌∷◌, map}
use lib.Dec.{ltb}
use lib.ListN.{length, length-map}
use lib.Seq.{ext_get_or}
use borrow.Author.Tests.{eq-eqb, le-leb, lt-leb, ltb-true}
use Rattle.columns.specs.Lists.{◌!◌, all_of, tab, part}
use Rattle.columns.specs.Columns.{accepts, leaves}
use Rattle.columns.specs.Ranks.{Rises, rank}
use Rattle.columns.proofs.Lists.{tab-length, tab-at, places_rise}
use Rattle.columns.proofs.Sums.{tab_ext, map-tab, part_at, part_length_lem}
use Rattle.columns.proofs.Tests.{each_of, none_any, all_fails}
use Rattle.store.specs.Blocked.{blocked, read_back, is_long, first_low, above_at}
use Rattle.store.proofs.Verdict.{climbs_high}
use Rattle.store.proofs.Theorems.{reads_back_lem}
use Rattle.rules.specs.Input.{Schema}
use Rattle.rules.specs.Edges.{Parts, Edge}
use Rattle.rules.specs.Labels.{coded, codes_for, is_escaped, exact_label}
use Rattle.rules.specs.Needs.{objects_of, fields_for, label_columns}
use Rattle.rules.specs.Verdict.{falls}
use Rattle.rules.specs.Parts.{degree, no_object, pair_at, unsorted}
use Rattle.rules.specs.Questions.{Columns, columns_of, objects_in, offset_at, edges_in, edge_at, edges_read, edges_at, rises, label_reads, reads_back}
use Rattle.rules.specs.Questions.{weak_reads, weak_read, weak_in, plainly, asked, label_at, exact_in, coarse_in, label_in, field_in, referent_in, span}
use Rattle.rules.specs.Questions.{edge_count, exact_of, coarse_of, label_of, field, weak_referents, referent, into_says, edges_into, plain_edges, object_edges}
use Rattle.rules.proofs.Meets.{Meets}
use Rattle.rules.proofs.Weak.{weak-part, pair_climbs}
use Rattle.rules.proofs.Codes.{offset_within, edge_in, codes-count, read-labels, label-good, fields_few}

-- a list that rises, as a test
rises-test : (xs : List ℕ) → Rises xs → rises xs ≡ true
unfolding rises
rises-test xs h = ap not (none_any (falls xs) (length xs) each)
  where
    each : (i : ℕ) → i < length xs → falls xs i ≡ false
    each zero l = all_fails _ _ (λ t. absurd (false≢true t))
    each (suc i) l = all_fails _ _ (λ t. lt-leb _ _ (h i (suc i) (omega arith) l))

-- an answer of an object that reads where it exists
answered : (c : Columns) (m o : ℕ) (reads : Bool) (a b : List ℕ) → objects_in c ≡ m → (o < m → reads ≡ true) → (o < m → a ≡ b)
    → asked c o reads a ≡ plainly m o b
unfolding asked
answered c m o reads a b e h g = rw e (go (ltb o m) refl)
  where
    go : (t : Bool) → ltb o m ≡ t → cond t (cond reads a (12 ∷ o ∷ [])) (11 ∷ o ∷ []) ≡ cond t b (11 ∷ o ∷ [])
    go true t = rw (h (ltb-true o m t)) (g (ltb-true o m t))
    go false t = refl

-- An answer that accepts is of an object that exists, and what it leaves asks for the edges only then.
pub plain_exists : (m o : ℕ) (a : List ℕ) → accepts (plainly m o a) ≡ true → o < m
unfolding accepts
plain_exists m o a = go (ltb o m) refl
  where
    go : (t : Bool) → ltb o m ≡ t → accepts (cond t a (11 ∷ o ∷ [])) ≡ true → o < m
    go true t h = ltb-true o m t
    go false t h = absurd (false≢true h)

pub edges-same : (says : List ℕ) (es es' : List Edge) (a b : ℕ) → (accepts says ≡ true → es ≡ es') → edges_into says es a b ≡ edges_into says es' a b
unfolding edges_into leaves
edges-same says es es' a b h = go (accepts says) refl
  where
    go : (t : Bool) → accepts says ≡ t → edges_into says es a b ≡ edges_into says es' a b
    go true t = ap (λ (es : List Edge). edges_into says es a b) (h t)
    go false t = rw t

-- "Its targets are a part of the target column": the targets of the edges read, wherever the part ends within the column.
pub targets-part : (c : Columns) (o : ℕ) → offset_at c (suc o) ≤ length c.targets
    → map (λ (e : Edge). e.target) (edges_read c o) ≡ part c.targets (offset_at c o) (offset_at c (suc o))
unfolding edges_read
targets-part c o h =
    let at : ℕ → ℕ = λ k. c.targets ! (offset_at c o + k) in
    let size : length (part c.targets (offset_at c o) (offset_at c (suc o))) ≡ edges_in c o = part_length_lem c.targets (offset_at c o) (offset_at c (suc o)) h in
    map-tab (λ (e : Edge). e.target) (edge_at c o) (edges_in c o)
    ∙ ext_get_or 0 (tab at (edges_in c o)) (part c.targets (offset_at c o) (offset_at c (suc o))) (tab-length at (edges_in c o) ∙ sym size)
    (λ k l. tab-at at 0 (edges_in c o) k (omega (arith, tab-length at (edges_in c o)))
    ∙ sym (part_at c.targets (offset_at c o) (offset_at c (suc o)) k (omega (arith, tab-length at (edges_in c o)))))

-- the label of one edge as it is read
pub label-read : (c : Columns) (o k : ℕ) (f : ℕ → ℕ)
    → label_at f (edges_read c o) k ≡ cond (ltb k (edges_in c o)) (0 ∷ f (exact_label c.labels (offset_at c o) k) ∷ []) (11 ∷ k ∷ [])
unfolding label_at edges_read
label-read c o k f = rw (tab-length (edge_at c o) (edges_in c o), map-tab (λ (e : Edge). e.label) (edge_at c o) (edges_in c o)) (go (ltb k (edges_in c o)) refl)
  where
    go : (b : Bool) → ltb k (edges_in c o) ≡ b
        → cond b (0 ∷ f (tab (λ k. exact_label c.labels (offset_at c o) k) (edges_in c o) ! k) ∷ []) (11 ∷ k ∷ [])
        ≡ cond b (0 ∷ f (exact_label c.labels (offset_at c o) k) ∷ []) (11 ∷ k ∷ [])
    go true e = rw (tab-at (λ k. exact_label c.labels (offset_at c o) k) 0 (edges_in c o) k (ltb-true _ _ e))
    go false e = refl

module _ (s : Schema) (p : Parts) (law : Meets s.names p) (few : length p.labels < 2 ^ 64) where
  abbrev c : Columns
  c = columns_of s p

  abbrev m : ℕ
  m = objects_of p

  pub objects-same : objects_in c ≡ m
  unfolding columns_of blocked
  objects-same = ap (λ (n : ℕ). n - 1) (tab-length (λ i. min (above_at p.offsets i) 65535) (length p.offsets))

  -- "Offset i is its block's base plus a short number": each offset reads back.
  pub offset-back : (i : ℕ) → i ≤ m → read_back c.offsets i ≡ 0 ∷ p.offsets ! i ∷ []
  unfolding columns_of
  offset-back i h = reads_back_lem p.offsets i (omega (arith, law.some)) (omega (arith, offset_within s.names p law i h)) high
    where
      high : length p.offsets ≤ first_low p.offsets
      high = rw (climbs_high p.offsets (λ i l. law.rises i (omega arith))) (omega arith)

  offset_is : (i : ℕ) → i ≤ m → offset_at c i ≡ p.offsets ! i
  offset_is i h = ap (λ (a : List ℕ). a ! 1) (offset-back i h)

  edges_is : (o : ℕ) → o < m → edges_in c o ≡ degree p.offsets o
  edges_is o h = ap₂ ◌-◌ (offset_is (suc o) h) (offset_is o (omega arith))

  abbrev fs : List ℕ
  fs = fields_for s p

  -- The labels read back exactly.
  pub label-back : (o k : ℕ) → o < m → k < degree p.offsets o → exact_label c.labels (p.offsets ! o) k ≡ p.labels ! (p.offsets ! o + k)
  unfolding columns_of label_columns
  label-back o k h l = read-labels s.names p law fs (fields_few s p) o k h l

  -- The edges that are read are the edges.
  pub edges-back : (o : ℕ) → o < m → edges_read c o ≡ edges_at p o
  unfolding edges_read edges_at columns_of
  edges-back o h = rw (edges_is o h) (tab_ext _ _ (degree p.offsets o) each)
    where
      each : (k : ℕ) → k < degree p.offsets o
          → edge_at c o k ≡ record { target = p.targets ! (p.offsets ! o + k); label = p.labels ! (p.offsets ! o + k) }
      each k l = rw (offset_is o (omega arith), label-back o k h l)

  -- Every object reads back, so 12 is never given.
  module _ (o : ℕ) (h : o < m) where
    target_in : (k : ℕ) → k < degree p.offsets o → no_object m c.targets (p.offsets ! o + k) ≡ false
    unfolding columns_of
    target_in k l = lt-leb _ _ (law.targets (p.offsets ! o + k) (omega (arith, edge_in s.names p law o k h l, law.counted)))

    label_reads_lem : (k : ℕ) → k < degree p.offsets o → label_reads c.labels (p.offsets ! o) k ≡ true
    unfolding columns_of label_columns
    label_reads_lem k l =
        label-good s.names p law fs (fields_few s p) o k h l (ltb-true _ _ (each_of _ (law.named o k h l) 1))

    long_rises : rises c.offsets.long_at ≡ true
    unfolding columns_of blocked
    long_rises = rises-test _ (places_rise (is_long p.offsets) (length p.offsets))

    long_even : length c.offsets.long_at ≡ length c.offsets.long_value
    unfolding columns_of blocked
    long_even = sym (length-map c.offsets.long_at (λ i. p.offsets ! i))

    escapes_rise : rises c.labels.escape_at ≡ true
    unfolding columns_of label_columns coded
    escapes_rise = rises-test _ (places_rise (λ e. is_escaped (codes_for fs p.offsets p.labels m ! e)) (length (codes_for fs p.offsets p.labels m)))

    escapes_even : length c.labels.escape_at ≡ length c.labels.escape_label
    unfolding columns_of label_columns coded
    escapes_even = sym (length-map c.labels.escape_at (λ e. p.labels ! e))

    codes-end : p.offsets ! suc o ≤ length c.labels.codes
    unfolding columns_of label_columns coded
    codes-end = omega (arith, codes-count s.names p law fs (fields_few s p), offset_within s.names p law (suc o) h)

    targets-end : p.offsets ! suc o ≤ length c.targets
    unfolding columns_of
    targets-end = omega (arith, law.counted, offset_within s.names p law (suc o) h)

    pub reads : reads_back c o ≡ true
    unfolding reads_back all_of accepts
    reads =
        rw (
          offset-back o (omega arith),
          offset-back (suc o) h,
          objects-same,
          long_rises,
          eq-eqb _ _ long_even,
          escapes_rise,
          eq-eqb _ _ escapes_even,
          le-leb (p.offsets ! o) (p.offsets ! suc o) (law.rises o h),
          le-leb (p.offsets ! suc o) (length c.labels.codes) codes-end,
          le-leb (p.offsets ! suc o) (length c.targets) targets-end,
          none_any (λ k. no_object m c.targets (p.offsets ! o + k)) (degree p.offsets o) target_in,
          none_any (λ k. not (label_reads c.labels (p.offsets ! o) k)) (degree p.offsets o) (λ k l. ap not (label_reads_lem k l)),
        )

  -- the weak pairs are sorted
  sorted_each : (i : ℕ) → i < length p.weak_from → unsorted p.weak_from p.weak_to i ≡ false
  sorted_each zero l = all_fails _ _ (λ t. absurd (false≢true t))
  sorted_each (suc i) l = all_fails _ _ (λ t. ap not (law.weak_sorted i l))

  module _ (even : length p.weak_from ≡ length p.weak_to) where
    pub weak_reads_lem : weak_reads c ≡ true
    unfolding weak_reads columns_of all_of
    weak_reads_lem = rw (eq-eqb _ _ even, none_any (unsorted p.weak_from p.weak_to) (length p.weak_from) sorted_each)

    -- The rows that are answered hold the targets of o's weak pairs.
    pub weak-back : (o : ℕ) → weak_read c o ≡ weak_in p.weak_from p.weak_to o
    unfolding weak_read columns_of
    weak-back o =
        weak-part p.weak_from p.weak_to o (sym even)
        (λ i l. pair_climbs (pair_at p.weak_from p.weak_to i) (pair_at p.weak_from p.weak_to (suc i)) (law.weak_sorted i l))

  -- Each question is the same question on the plain columns; none answers 12.
  module _ (o : ℕ) where
    asks : (a b : List ℕ) → (o < m → a ≡ b) → asked c o (reads_back c o) a ≡ plainly m o b
    asks a b e = answered c m o (reads_back c o) a b objects-same (reads o) e

    pub span-plain : span c o ≡ plainly m o (0 ∷ p.offsets ! o ∷ p.offsets ! suc o ∷ [])
    unfolding span
    span-plain = asks _ _ (λ h. rw (offset_is o (omega arith), offset_is (suc o) h))

    pub count-plain : edge_count c o ≡ plainly m o (0 ∷ length (edges_at p o) ∷ [])
    unfolding edge_count
    count-plain = asks _ _ (λ h. rw (edges-back o h))

    pub exact_plain : (k : ℕ) → exact_of c o k ≡ plainly m o (exact_in (edges_at p o) k)
    unfolding exact_of
    exact_plain k = asks _ _ (λ h. rw (edges-back o h))

    pub coarse-plain : (k : ℕ) → coarse_of c o k ≡ plainly m o (coarse_in (edges_at p o) k)
    unfolding coarse_of
    coarse-plain k = asks _ _ (λ h. rw (edges-back o h))

    pub label-plain : (t : ℕ) → label_of c o t ≡ plainly m o (0 ∷ label_in (edges_at p o) t)
    unfolding label_of
    label-plain t = asks _ _ (λ h. rw (edges-back o h))

    pub field_plain : (l : ℕ) → field c o l ≡ plainly m o (0 ∷ field_in (edges_at p o) l)
    unfolding field
    field_plain l = asks _ _ (λ h. rw (edges-back o h))

    pub edges_laid : (a b : ℕ) → object_edges c o a b ≡ plain_edges m o (edges_at p o) a b
    unfolding object_edges plain_edges
    edges_laid a b =
        ap (λ (says : List ℕ). edges_into says (edges_read c o) a b) (asks _ _ (λ h. ap (λ (es : List Edge). into_says es a b) (edges-back o h)))
        ∙ edges-same (plainly m o (into_says (edges_at p o) a b)) (edges_read c o) (edges_at p o) a b (λ t. edges-back o (plain_exists m o _ t))

    module _ (even : length p.weak_from ≡ length p.weak_to) where
      pub weak-plain : weak_referents c o ≡ plainly m o (0 ∷ rank p.weak_from o ∷ rank p.weak_from (suc o) ∷ [])
      unfolding weak_referents columns_of
      weak-plain = answered c m o (weak_reads c) _ _ objects-same (λ h. weak_reads_lem even) (λ h. refl)

      pub referent-plain : (l : ℕ) → referent c o l ≡ plainly m o (0 ∷ referent_in (edges_at p o) (weak_in p.weak_from p.weak_to o) l)
      unfolding referent all_of
      referent-plain l = answered c m o _ _ _ objects-same (λ h. rw (reads o h, weak_reads_lem even)) (λ h. rw (edges-back o h, weak-back even o))
