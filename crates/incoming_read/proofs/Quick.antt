-- The quick tests leave no doubt: where they all hold, every object can be read. Assumes nothing.
use Prim.Native.Nat.{ℕ, zero, suc, ◌+◌, ◌-◌, ◌*◌, ◌%◌, ◌≤◌, ◌<◌, min}
use native.Mathlib.Omega.{arith}
use mathlib.Core.Path.{◌≡◌, refl, ap, ◌∙◌}
use mathlib.Core.Logic.{◌⊎◌, inl, inr, ⊎_elim}
use mathlib.Core.Bool.{Bool, true, false, cond, not}
use mathlib.Core.List.{[], ◌∷◌}
use lib.Dec.{leb, ltb}
use lib.ListN.{length}
use borrow.Author.Tests.{lt-ltb, ltb-true, le-leb, lt-leb, leb-true, ne_eqb, not-true, not-false}
use Rattle.columns.specs.Lists.{◌!◌, any, all_of}
use Rattle.columns.proofs.Tests.{each_of, any_false, none_any}
use Rattle.rules.specs.Types.{array_element_label, is_element}
use Rattle.rules.specs.Labels.{Coded, after, is_escaped, read_label, expected_at}
use Rattle.rules.specs.Questions.{Columns, objects_in, offset_at, edges_in, label_reads}
use Rattle.rules.specs.Incoming.{can_read}
use Rattle.labels.specs.Reading.{coded_of}
use Rattle.incoming_read.specs.Unread.{span_reads, is_narrow, is_plain, codes_plain}
use Rattle.incoming_read.specs.Steps.{objects_only, walks_past}
use Rattle.incoming_read.proofs.Readable.{span_meets, risen, can_read_lem, walks, all_three}

-- A plain code is an element's gap, or a field's place; neither is escaped.
module _ (fields c : ℕ) (h : is_plain fields c ≡ true) where
  plain-kind : ((32768 ≤ c) × (c < 65535)) ⊎ ((c < fields) × (c < 32767))
  unfolding is_plain
  plain-kind = go (leb 32768 c) refl h
    where
      go : (b : Bool) → leb 32768 c ≡ b → cond b (ltb c 65535) (ltb c (min fields 32767)) ≡ true → ((32768 ≤ c) × (c < 65535)) ⊎ ((c < fields) × (c < 32767))
      go true q e = inl (leb-true 32768 c q, ltb-true c 65535 e)
      go false q e = let m = ltb-true c (min fields 32767) e in inr (omega arith, omega arith)

  plain-whole : is_escaped c ≡ false
  plain-whole = ⊎_elim (λ l. ne_eqb (c % 32768) 32767 (λ e. omega (arith, l.0, l.1))) (λ l. ne_eqb (c % 32768) 32767 (λ e. omega (arith, l.1))) plain-kind

-- Of n edges with plain codes, and fields that are fields, each label reads as long as there are no more than 65,536.
module _ (d : Coded) (e n : ℕ) (plain : (k : ℕ) → k < n → is_plain (length d.fields) (d.codes ! (e + k)) ≡ true)
    (named : (i : ℕ) → i < length d.fields → is_element (d.fields ! i) ≡ false) where
  next_few : (m c p : ℕ) → is_plain (length d.fields) c ≡ true → after m (read_label d p m c) ≤ m + 32767
  unfolding read_label
  next_few m c p h = rw (plain-whole (length d.fields) c h) (⊎_elim gap field (plain-kind (length d.fields) c h))
    where
      gap : (32768 ≤ c) × (c < 65535) → after m (cond (leb 32768 c) (array_element_label + (m + (c - 32768))) (d.fields ! c)) ≤ m + 32767
      gap l = rw (le-leb 32768 c l.0, le-leb array_element_label (array_element_label + (m + (c - 32768))) (omega arith)) (omega (arith, l.0, l.1))

      field : (c < length d.fields) × (c < 32767) → after m (cond (leb 32768 c) (array_element_label + (m + (c - 32768))) (d.fields ! c)) ≤ m + 32767
      field l = rw (lt-leb 32768 c (omega (arith, l.1)), named c l.0) (omega arith)

  -- "65,536 edges with gaps of at most 32,766": the index that is expected
  expected_few : (k : ℕ) → k ≤ n → expected_at d e k ≤ k * 32767
  unfolding expected_at
  expected_few zero l = omega arith
  expected_few (suc k) l = omega (arith, expected_few k (omega arith), next_few (expected_at d e k) (d.codes ! (e + k)) (e + k) (plain k (omega arith)))

  plain_reads : n ≤ 65536 → (k : ℕ) → k < n → label_reads d e k ≡ true
  unfolding label_reads all_of
  plain_reads few k l = rw (plain-whole (length d.fields) c (plain k l)) (⊎_elim gap field (plain-kind (length d.fields) c (plain k l)))
    where
      c : ℕ
      c = d.codes ! (e + k)

      m : ℕ
      m = expected_at d e k

      reads : Bool
      reads = cond (leb 32768 c) (ltb (m + (c - 32768)) array_element_label) (all_of (ltb c (length d.fields) ∷ not (is_element (d.fields ! c)) ∷ []))

      gap : (32768 ≤ c) × (c < 65535) → reads ≡ true
      gap q = rw (le-leb 32768 c q.0) (lt-ltb (m + (c - 32768)) array_element_label (omega (arith, q.0, q.1, expected_few k (omega arith))))

      field : (c < length d.fields) × (c < 32767) → reads ≡ true
      field q = rw (lt-leb 32768 c (omega (arith, q.1)), lt-ltb c (length d.fields) q.0, named c q.0)

-- What the quick test of the codes says of the code at each place and of each field; the escapes play no part in it.
module _ (d : Coded) (from to : ℕ) where
  pub plain_alone : codes_plain d from to ≡ codes_plain (coded_of d.codes d.fields [] []) from to
  unfolding codes_plain
  plain_alone = refl

  module _ (h : codes_plain d from to ≡ true) where
    plain_code : (p : ℕ) → from ≤ p → p < to → is_plain (length d.fields) (d.codes ! p) ≡ true
    unfolding codes_plain
    plain_code p a b =
        let at : from + (p - from) ≡ p = omega arith in
        let is : is_plain (length d.fields) (d.codes ! (from + (p - from))) ≡ true
        = not-false _ (any_false (λ k. not (is_plain (length d.fields) (d.codes ! (from + k)))) (to - from) (p - from) (not-true _ (each_of _ h 0)) (omega arith)) in
        rw at at is

    plain-field : (i : ℕ) → i < length d.fields → is_element (d.fields ! i) ≡ false
    unfolding codes_plain
    plain-field i l = any_false (λ i. is_element (d.fields ! i)) (length d.fields) i (not-true _ (each_of _ h 1)) l

-- the spans of objects that all read climb
module _ (c : Columns) (spans : not (any (λ o. not (span_reads c.offsets (length c.labels.codes) (length c.targets) o)) (objects_in c)) ≡ true) where
  abbrev codes : ℕ
  codes = length c.labels.codes

  abbrev targets : ℕ
  targets = length c.targets

  pub each-span : (o : ℕ) → o < objects_in c → span_reads c.offsets codes targets o ≡ true
  each-span o l = not-false _ (any_false (λ o. not (span_reads c.offsets codes targets o)) (objects_in c) o (not-true _ spans) l)

  pub span_climbs : (o : ℕ) → o < objects_in c → offset_at c o ≤ offset_at c (suc o)
  span_climbs o l = (span_meets c.offsets codes targets o l (each-span o l)).ordered

  pub above_first : (o : ℕ) → o ≤ objects_in c → offset_at c 0 ≤ offset_at c o
  above_first zero l = omega arith
  above_first (suc o) l = omega (arith, above_first o (omega arith), span_climbs o (omega arith))

  below_last : (k o : ℕ) → o + k ≡ objects_in c → offset_at c o ≤ offset_at c (objects_in c)
  below_last zero o e = let z : o ≡ objects_in c = omega arith in rw z (omega arith)
  below_last (suc k) o e = omega (arith, below_last k (suc o) (omega arith), span_climbs o (omega arith))

  pub within_last : (o : ℕ) → o ≤ objects_in c → offset_at c o ≤ offset_at c (objects_in c)
  within_last o l = below_last (objects_in c - o) o (omega arith)

  -- where the last span ends, if there is an object
  pub record Ends : Type 0 where
    pub ordered : offset_at c 0 ≤ offset_at c (objects_in c)
    pub coded : offset_at c (objects_in c) ≤ codes
    pub targeted : offset_at c (objects_in c) ≤ targets
    pub limited : offset_at c (objects_in c) ≤ 268435456
    pub few : objects_in c ≤ 67108864

  pub spans_end : 0 < objects_in c → Ends
  spans_end l =
      let o = objects_in c - 1 in
      let z : suc o ≡ objects_in c = omega arith in
      let m = span_meets c.offsets codes targets o (omega arith) (each-span o (omega arith)) in
      record { ordered = above_first (objects_in c) (omega arith); coded = rw z at m.coded; targeted = rw z at m.targeted; limited = rw z at m.limited; few = omega (arith, m.few) }

  module _ (rise : risen c ≡ true)
      (narrow : not (any (λ o. not (is_narrow c.offsets o)) (objects_in c)) ≡ true)
      (plain : codes_plain c.labels (offset_at c 0) (offset_at c (objects_in c)) ≡ true)
      (objects : (e : ℕ) → offset_at c 0 ≤ e → e < offset_at c (objects_in c) → c.targets ! e < objects_in c)
      (o : ℕ) (l : o < objects_in c) where
    -- edge k of the object is one of all
    inside : (k : ℕ) → k < edges_in c o → (offset_at c 0 ≤ offset_at c o + k) × (offset_at c o + k < offset_at c (objects_in c))
    inside k m = (omega (arith, above_first o (omega arith)), omega (arith, within_last (suc o) (omega arith)))

    few : edges_in c o ≤ 65536
    unfolding is_narrow
    few = leb-true _ _ (not-false _ (any_false (λ o. not (is_narrow c.offsets o)) (objects_in c) o (not-true _ narrow) l))

    targets-read : objects_only (objects_in c) c.targets (offset_at c o) (edges_in c o) ≡ true
    unfolding objects_only
    targets-read =
        ap not (none_any _ (edges_in c o) (λ k m. let i = inside k m in lt-leb (objects_in c) _ (objects (offset_at c o + k) i.0 i.1)))

    labels-read : (k : ℕ) → k < edges_in c o → label_reads c.labels (offset_at c o) k ≡ true
    labels-read =
        plain_reads c.labels (offset_at c o) (edges_in c o)
        (λ k m. let i = inside k m in plain_code c.labels (offset_at c 0) (offset_at c (objects_in c)) plain (offset_at c o + k) i.0 i.1)
        (plain-field c.labels (offset_at c 0) (offset_at c (objects_in c)) plain) few

    walk_reads : walks_past c.labels (offset_at c o) (edges_in c o) ≡ true
    walk_reads = walks c o rise l ∙ ap not (none_any _ (edges_in c o) (λ k m. ap not (labels-read k m)))

    pub quick_can : can_read c o ≡ true
    quick_can = can_read_lem c o rise l ∙ all_three (each-span o l) targets-read walk_reads

pub quick_reads : (c : Columns) → risen c ≡ true
    → not (any (λ o. not (span_reads c.offsets (length c.labels.codes) (length c.targets) o)) (objects_in c)) ≡ true
    → not (any (λ o. not (is_narrow c.offsets o)) (objects_in c)) ≡ true
    → codes_plain c.labels (offset_at c 0) (offset_at c (objects_in c)) ≡ true
    → ((e : ℕ) → offset_at c 0 ≤ e → e < offset_at c (objects_in c) → c.targets ! e < objects_in c)
    → (o : ℕ) → o < objects_in c → can_read c o ≡ true
quick_reads c rise spans narrow plain objects o l = quick_can c spans rise narrow plain objects o l
