-- Two-byte labels read back exactly, for any columns that meet PARTS, fields listed or ranked. Assumes nothing.
use Prim.Native.Nat.{ℕ, zero, suc, ◌+◌, ◌-◌, ◌%◌, ◌≤◌, ◌<◌, min}
use native.Mathlib.Omega.{arith}
use native.Mathlib.Decide.{dec_lt}
use mathlib.Core.Path.{◌≡◌, refl, sym, ap, ◌∙◌}
use mathlib.Core.Bool.{Bool, true, false, cond, not, false≢true, beq, ◌&&◌}
use mathlib.Core.List.{List, [], ◌∷◌}
use mathlib.Core.Option.{Option, none, some}
use mathlib.Core.Logic.{◌⊎◌, inl, inr}
use lib.Dec.{eqb, leb, ltb}
use lib.ListN.{length, take, length-take}
use borrow.Author.Tests.{leb-true, leb-false, eqb-false, eqb-true, eq-eqb, ne_eqb, le-leb, lt-leb, lt-ltb}
use Rattle.columns.specs.Lists.{◌!◌, total, lookup, find, found, or_else, all_of}
use Rattle.columns.proofs.Lists.{tab-at, tab-length}
use Rattle.columns.proofs.Sums.{length-collect, get_d_collect, part_at, part_length_lem}
use Rattle.columns.proofs.Tests.{each_of}
use Rattle.columns.proofs.Search.{find-get, places-found, lookup-map}
use Rattle.rules.specs.Types.{array_element_label, is_element}
use Rattle.rules.specs.Input.{Schema}
use Rattle.rules.specs.Edges.{Parts}
use Rattle.rules.specs.Labels.{Coded, after, expected, label_code, codes_of, field_code, is_escaped, codes_for, coded, read_label, expected_at, exact_label}
use Rattle.rules.specs.Labels.{coarse_label, fields_of, listed, ranked, named, own}
use Rattle.rules.specs.Needs.{objects_of, fields_for}
use Rattle.rules.specs.Parts.{degree}
use Rattle.rules.specs.Questions.{coarse, label_reads}
use Rattle.rules.proofs.Meets.{Meets}

not_false : (b : Bool) → not b ≡ true → b ≡ false
not_false true e = sym e
not_false false e = refl

few : (b : Bool) (k : ℕ) (xs ys : List ℕ) → (b ≡ true → length xs ≤ k) → length (cond b xs (take k ys)) ≤ k
few true k xs ys h = h refl
few false k xs ys h = rw (length-take k ys) (omega arith)

-- "The first 32,767 get codes": no more than so many fields have one, listed or ranked.
pub fields_few : (s : Schema) (p : Parts) → length (fields_for s p) ≤ 32767
unfolding fields_for fields_of
fields_few s p = few (leb (length (listed s.names (named s))) 32767) 32767 (listed s.names (named s)) (ranked s.names p.labels) (leb-true _ _)

-- A code that is not escaped reads back: an element's by its gap, a field's by its place among the fields.
abbrev back_of : ℕ → ℕ → ℕ → ℕ
back_of n z c = cond (leb 32768 c) (array_element_label + (n + (c - 32768))) z

element-back : (n l z : ℕ) → array_element_label ≤ l → n ≤ l - array_element_label → is_escaped (32768 + min (l - array_element_label - n) 32767) ≡ false
    → back_of n z (32768 + min (l - array_element_label - n) 32767) ≡ l
element-back n l z h low f = go (dec_lt (l - array_element_label - n) 32767)
  where
    go : Dec (l - array_element_label - n < 32767) → back_of n z (32768 + min (l - array_element_label - n) 32767) ≡ l
    go (yes g) = rw (le-leb 32768 (32768 + min (l - array_element_label - n) 32767) (omega arith)) (omega arith)
    go (no g) = absurd (eqb-false ((32768 + min (l - array_element_label - n) 32767) % 32768) 32767 f (omega arith))

module _ (fields : List ℕ) (few : length fields ≤ 32767) where
  field_back_lem : (l z : ℕ) → is_escaped (field_code fields l) ≡ false → cond (leb 32768 (field_code fields l)) z (fields ! field_code fields l) ≡ l
  unfolding field_code
  field_back_lem l z f = go (find fields l) refl f
    where
      go : (o : Option ℕ) → find fields l ≡ o → is_escaped (or_else 32767 o) ≡ false → cond (leb 32768 (or_else 32767 o)) z (fields ! or_else 32767 o) ≡ l
      go none e f = absurd (false≢true (sym f))
      go (some i) e f = rw (lt-leb 32768 i (omega (arith, (find-get fields l i e).0))) (find-get fields l i e).1

-- A field's code is its place among the fields, below 32,767; a label outside them has code 32,767.
pub field-code : (fields : List ℕ) (l : ℕ) → (field_code fields l ≡ 32767) ⊎ ((field_code fields l < length fields) × (fields ! field_code fields l ≡ l))
unfolding field_code
field-code fields l = go (find fields l) refl
  where
    go : (u : Option ℕ) → find fields l ≡ u → (or_else 32767 u ≡ 32767) ⊎ ((or_else 32767 u < length fields) × (fields ! or_else 32767 u ≡ l))
    go none e = inl refl
    go (some i) e = inr (find-get fields l i e)

coarse-of : (c row field n : ℕ) (there index known : Bool)
    → cond (is_escaped c) (all_of (there ∷ beq (is_element row) (leb 32768 c) ∷ [])) (cond (leb 32768 c) index (all_of (known ∷ not (is_element field) ∷ [])))
    ≡ true
    → cond (leb 32768 c) array_element_label (cond (eqb c 32767) row field)
    ≡ coarse (cond (is_escaped c) row (cond (leb 32768 c) (array_element_label + (n + (c - 32768))) field))
coarse-of c row field n there index known h = go (is_escaped c) refl (leb 32768 c) refl h
  where
    sort-of : (a b : Bool) → beq a b ≡ true → a ≡ b
    sort-of true true e = refl
    sort-of true false e = absurd (false≢true e)
    sort-of false true e = absurd (false≢true e)
    sort-of false false e = refl

    go : (z : Bool) → is_escaped c ≡ z → (b : Bool) → leb 32768 c ≡ b
        → cond z (all_of (there ∷ beq (is_element row) b ∷ [])) (cond b index (all_of (known ∷ not (is_element field) ∷ []))) ≡ true
        → cond b array_element_label (cond (eqb c 32767) row field) ≡ coarse (cond z row (cond b (array_element_label + (n + (c - 32768))) field))
    go true z true t h = rw (sort-of (is_element row) true (each_of _ h 1))
    go true z false t h =
        let small : c < 32768 = leb-false 32768 c t in
        let last : c % 32768 ≡ 32767 = eqb-true _ 32767 z in
        rw (eq-eqb c 32767 (omega arith), sort-of (is_element row) false (each_of _ h 1))
    go false z true t h = rw (le-leb array_element_label (array_element_label + (n + (c - 32768))) (omega arith))
    go false z false t h =
        let other : c % 32768 ≡ 32767 → ⊥ = eqb-false _ 32767 z in
        rw (ne_eqb c 32767 (λ q. other (omega arith)), not_false (is_element field) (each_of _ h 1))

-- Coarse labels need no gaps added up: of an edge that reads back, the code alone says what the exact label comes to.
pub coarse-code : (d : Coded) (e k : ℕ) → label_reads d e k ≡ true → coarse_label d e k ≡ coarse (exact_label d e k)
unfolding label_reads coarse_label exact_label read_label
coarse-code d e k h =
    coarse-of (d.codes ! (e + k)) (lookup d.escape_at d.escape_label (e + k)) (d.fields ! (d.codes ! (e + k))) (expected_at d e k) _ _ _ h

module _ (names : ℕ) (p : Parts) (law : Meets names p) where
  abbrev m : ℕ
  m = objects_of p

  off_le : (n o : ℕ) → o + n ≤ m → p.offsets ! o ≤ p.offsets ! (o + n)
  off_le zero o e = let z : o + 0 ≡ o = omega arith in rw z (omega arith)
  off_le (suc n) o e = let z : o + suc n ≡ suc o + n = omega arith in rw z (omega (arith, off_le n (suc o) (omega arith), law.rises o (omega arith)))

  pub offset_mono : (a b : ℕ) → a ≤ b → b ≤ m → p.offsets ! a ≤ p.offsets ! b
  offset_mono a b h l = let z : b ≡ a + (b - a) = omega arith in rw z (off_le (b - a) a (omega arith))

  pub offset_within : (o : ℕ) → o ≤ m → p.offsets ! o ≤ length p.labels
  offset_within o h = omega (arith, offset_mono o m h (omega arith), law.ends)

  pub own-length : (o : ℕ) → o < m → length (own p.offsets p.labels o) ≡ degree p.offsets o
  own-length o h = part_length_lem p.labels (p.offsets ! o) (p.offsets ! suc o) (offset_within (suc o) h)

  pub own_at : (o k : ℕ) → k < degree p.offsets o → own p.offsets p.labels o ! k ≡ p.labels ! (p.offsets ! o + k)
  own_at o k h = part_at p.labels (p.offsets ! o) (p.offsets ! suc o) k h

  pub edge_in : (o k : ℕ) → o < m → k < degree p.offsets o → p.offsets ! o + k < length p.labels
  edge_in o k h l = omega (arith, offset_within (suc o) h)

  module _ (fields : List ℕ) (few : length fields ≤ 32767) where
    abbrev offsets : List ℕ
    offsets = p.offsets

    abbrev labels : List ℕ
    labels = p.labels

    abbrev ours : ℕ → List ℕ
    ours o = own offsets labels o

    codes-length : (ls : List ℕ) → length (codes_of fields ls) ≡ length ls
    unfolding codes_of
    codes-length ls = tab-length (λ k. label_code fields (expected ls k) (ls ! k)) (length ls)

    offset_is : (o : ℕ) → o ≤ m → total (λ i. length (codes_of fields (ours i))) o ≡ offsets ! o
    offset_is zero h = sym law.starts
    offset_is (suc o) h = omega (arith, offset_is o (omega arith), codes-length (ours o), own-length o h, law.rises o h)

    abbrev cs : List ℕ
    cs = codes_for fields offsets labels m

    code-of : (ls : List ℕ) (k : ℕ) → k < length ls → codes_of fields ls ! k ≡ label_code fields (expected ls k) (ls ! k)
    unfolding codes_of
    code-of ls k l = tab-at (λ k. label_code fields (expected ls k) (ls ! k)) 0 (length ls) k l

    -- the code at an edge, and how many codes there are
    pub code_at : (o k : ℕ) → o < m → k < degree offsets o → cs ! (offsets ! o + k) ≡ label_code fields (expected (ours o) k) (ours o ! k)
    unfolding codes_for
    code_at o k h l =
        ap (λ (e : ℕ). cs ! (e + k)) (sym (offset_is o (omega arith)))
        ∙ get_d_collect (λ i. codes_of fields (ours i)) 0 m o k h (omega (arith, codes-length (ours o), own-length o h))
        ∙ code-of (ours o) k (omega (arith, own-length o h))

    pub codes-count : length cs ≡ length labels
    unfolding codes_for
    codes-count = length-collect (λ i. codes_of fields (ours i)) m ∙ offset_is m (omega arith) ∙ law.ends

    abbrev d : Coded
    d = coded fields offsets labels m

    -- an escaped edge has its row, which holds its label
    pub row-found : (e : ℕ) → e < length labels → is_escaped (cs ! e) ≡ true → found (find d.escape_at e) ≡ true
    unfolding coded
    row-found e h t = places-found (λ e. is_escaped (cs ! e)) (length cs) e (omega (arith, codes-count)) t

    row_at : (e : ℕ) → e < length labels → is_escaped (cs ! e) ≡ true → lookup d.escape_at d.escape_label e ≡ labels ! e
    unfolding coded
    row_at e h t = lookup-map (λ e. labels ! e) d.escape_at e (row-found e h t)

    -- One label is read back: n is the first index that an element may have there.
    read_one : (e n l : ℕ) → e < length labels → labels ! e ≡ l → cs ! e ≡ label_code fields n l → (is_element l ≡ true → n ≤ l - array_element_label)
        → read_label d e n (cs ! e) ≡ l
    unfolding read_label coded
    read_one e n l h el ec low = go (is_escaped (cs ! e)) refl
      where
        plain : (b : Bool) → is_element l ≡ b → is_escaped (label_code fields n l) ≡ false
            → cond (leb 32768 (label_code fields n l)) (array_element_label + (n + (label_code fields n l - 32768))) (d.fields ! label_code fields n l) ≡ l
        plain true t f = rw t (element-back n l (d.fields ! (32768 + min (l - array_element_label - n) 32767)) (leb-true _ _ t) (low t) (rw t at f))
        plain false t f = rw t (field_back_lem fields few l _ (rw t at f))

        go : (b : Bool) → is_escaped (cs ! e) ≡ b
            → cond (is_escaped (cs ! e)) (lookup d.escape_at d.escape_label e)
            (cond (leb 32768 (cs ! e)) (array_element_label + (n + (cs ! e - 32768))) (d.fields ! (cs ! e))) ≡ l
        go true t = rw t (row_at e h t ∙ el)
        go false t = rw (t, ec) (plain (is_element l) refl (rw ec at t))

    read_at : (o k : ℕ) → o < m → k < degree offsets o → read_label d (offsets ! o + k) (expected (ours o) k) (cs ! (offsets ! o + k)) ≡ ours o ! k
    read_at o k h l =
        read_one (offsets ! o + k) (expected (ours o) k) (ours o ! k) (edge_in o k h l) (sym (own_at o k l)) (code_at o k h l)
        (law.elements o k h l)

    pub expected-at : (o k : ℕ) → o < m → k ≤ degree offsets o → expected_at d (offsets ! o) k ≡ expected (ours o) k
    unfolding expected_at coded
    expected-at o zero h l = refl
    expected-at o (suc k) h l = rw (expected-at o k h (omega arith)) (ap (after (expected (ours o) k)) (read_at o k h l))

    pub read-labels : (o k : ℕ) → o < m → k < degree offsets o → exact_label d (offsets ! o) k ≡ labels ! (offsets ! o + k)
    unfolding exact_label coded
    read-labels o k h l = rw (expected-at o k h (omega arith)) (read_at o k h l ∙ own_at o k l)

    -- One label reads back in the sense of document 01: it has its row, or is a field, or an index of 31 bits.
    module _ (o k : ℕ) (h : o < m) (l : k < degree offsets o) where
      abbrev e : ℕ
      e = offsets ! o + k

      abbrev v : ℕ
      v = ours o ! k

      abbrev w : ℕ
      w = expected (ours o) k

      -- what is asked of a code that is no escape
      abbrev good : ℕ → Bool
      good c = cond (leb 32768 c) (ltb (expected_at d (offsets ! o) k + (c - 32768)) array_element_label)
          (all_of (ltb c (length d.fields) ∷ not (is_element (d.fields ! c)) ∷ []))

      element-good : is_element v ≡ true → v < 4294967296 → good (32768 + min (v - array_element_label - w) 32767) ≡ true
      element-good t small =
          rw (expected-at o k h (omega arith), le-leb 32768 (32768 + min (v - array_element_label - w) 32767) (omega arith))
          (lt-ltb (w + (32768 + min (v - array_element_label - w) 32767 - 32768)) array_element_label (omega (arith, law.elements o k h l t, leb-true array_element_label v t)))

      field-good : is_element v ≡ false → is_escaped (field_code fields v) ≡ false → good (field_code fields v) ≡ true
      unfolding field_code coded all_of
      field-good t z = go (find fields v) refl z
        where
          go : (u : Option ℕ) → find fields v ≡ u → is_escaped (or_else 32767 u) ≡ false → good (or_else 32767 u) ≡ true
          go none q z = absurd (false≢true (sym z))
          go (some i) q z = let r = find-get fields v i q in rw (lt-leb 32768 i (omega (arith, r.0)), lt-ltb i (length fields) r.0, r.1, t)

      field_below : leb 32768 (field_code fields v) ≡ false
      unfolding field_code
      field_below = go (find fields v) refl
        where
          go : (u : Option ℕ) → find fields v ≡ u → leb 32768 (or_else 32767 u) ≡ false
          go none q = refl
          go (some i) q = lt-leb 32768 i (omega (arith, (find-get fields v i q).0))

      abbrev row : Bool
      row = all_of (found (find d.escape_at e) ∷ beq (is_element (lookup d.escape_at d.escape_label e)) (leb 32768 (cs ! e)) ∷ [])

      row-good : (b : Bool) → is_element v ≡ b → leb 32768 (cs ! e) ≡ b → is_escaped (cs ! e) ≡ true → row ≡ true
      unfolding all_of
      row-good b t u z = rw (row-found e (edge_in o k h l) z, row_at e (edge_in o k h l) z, ← own_at o k l, t, u) (same b)
        where
          same : (b : Bool) → beq b b && true ≡ true
          same true = refl
          same false = refl

      pub label-good : v < 4294967296 → label_reads d (offsets ! o) k ≡ true
      unfolding label_reads coded
      label-good small = go (is_element v) refl (is_escaped (cs ! e)) refl
        where
          code : cs ! e ≡ label_code fields w v
          code = code_at o k h l

          go : (b : Bool) → is_element v ≡ b → (z : Bool) → is_escaped (cs ! e) ≡ z → cond (is_escaped (cs ! e)) row (good (cs ! e)) ≡ true
          go true t true z =
              let c : cs ! e ≡ 32768 + min (v - array_element_label - w) 32767 = code ∙ rw t in
              rw z (row-good true t (le-leb 32768 (cs ! e) (omega arith)) z)
          go true t false z =
              let c : cs ! e ≡ 32768 + min (v - array_element_label - w) 32767 = code ∙ rw t in
              rw (z, c) (element-good t small)
          go false t true z =
              let c : cs ! e ≡ field_code fields v = code ∙ rw t in
              rw z (row-good false t (rw c field_below) z)
          go false t false z =
              let c : cs ! e ≡ field_code fields v = code ∙ rw t in
              rw (z, c) (field-good t (rw c at z))
