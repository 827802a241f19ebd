-- From the stages to the whole: what an acceptance says of the stages before it, the answers in the order of the buffers, and every column as it is left.
-- Assumes nothing.
use Prim.Native.Nat.{ℕ, ◌+◌, ◌-◌, ◌≤◌}
use native.Mathlib.Nat.{sub_self}
use native.Mathlib.Omega.{arith}
use mathlib.Core.Path.{◌≡◌, refl, sym, ap, ◌∙◌}
use mathlib.Core.Bool.{Bool, true, false, cond}
use mathlib.Core.List.{List, [], ◌∷◌, ◌++◌, append-nil}
use lib.Dec.{ltb}
use lib.ListN.{length, set, take, drop, length-take, length-map, take-append-drop}
use lib.Seq.{take-length}
use Rattle.columns.specs.Lists.{◌!◌, any_of}
use Rattle.columns.specs.Columns.{zeros, accepts, over, cleared, padded, leaves, Begins}
use Rattle.columns.proofs.Written.{cleared_all, cleared-over, leaves-zeros, leaves-padded, begins_over}
use Rattle.columns.proofs.Answers.{past}
use Rattle.columns.proofs.Tests.{none_of}
use borrow.Author.Tests.{ltb-false}
use Rattle.store.specs.Blocked.{Filled, blocked, blocks_of, long_rows}
use Rattle.rules.specs.Types.{loader_label}
use Rattle.rules.specs.Tables.{coding_left}
use Rattle.rules.specs.Input.{Schema, class_count}
use Rattle.rules.specs.Edges.{Parts}
use Rattle.rules.specs.Labels.{named, fields_of, code_table, codes_for, coded}
use Rattle.rules.specs.Needs.{Lent, fields_for, label_columns, need_long, need_fields, need_escapes, short_later, short_of_parts}
use Rattle.rules.specs.Verdict.{first_of, at, counts, plain_counts}
use Rattle.rules.specs.Built.{CodedLeft, coded_left}
use Rattle.rules.proofs.Acceptance.{refuse_at}
use Rattle.labels.specs.Coding.{LaidOut, TableOf, LabelsLaid, escapes_in}
use Rattle.labels.specs.Fields.{Naming, named_by}
use Rattle.labels.proofs.Table.{table-length}
use Rattle.labels.proofs.Coded.{all_length, all_coded, escapes_coded}
use Rattle.labels.proofs.Listed.{named_by_lem, fields-named}
use Rattle.code_stages.specs.Stages.{hand_on, label_room, space_short, Where, Ready, NamesReady, fields_by, escapes_of}
use Rattle.code_stages.specs.Stages.{offsets_says, OffsetsCoded, fields_says, space_says, FieldsWritten, codes_says, codes_all, CodesCoded}
use Rattle.code_stages.specs.Settling.{used_to, CodingSettled}
use Rattle.code_columns.specs.Finished.{PartsCoding, Hands, Finished}
use Rattle.code_stages.proofs.Laws.{short_none, on_true, on_false, on_accepts, refused_never, label_refuses}

-- the columns as they are left, in the order of the arguments
abbrev coded_of : List ℕ → List ℕ → List ℕ → List ℕ → List ℕ → List ℕ → List ℕ → List ℕ → List ℕ → List ℕ → List ℕ → CodedLeft
coded_of = coding_left (λ (l : List ℕ). l)

-- What each stage needs, of what the checks have found.
pub ready_names : {g : Naming} {classes names : ℕ} {offsets labels : List ℕ} → Ready g classes names offsets labels → NamesReady g classes names
ready_names r = record { ranges = r.ranges; few_names = r.few_names }

-- An answer that accepts: the one before did, and the buffers of this stage have room.
pub offsets-before : {before offsets : List ℕ} {nb ns na nv : ℕ} {says b s a v : List ℕ} → OffsetsCoded before offsets nb ns na nv says b s a v
    → accepts says ≡ true → accepts before ≡ true
unfolding offsets_says
offsets-before {before} o y = (on_accepts before _ (ap accepts (sym o.answer) ∙ y)).0

pub fields-before : (before : List ℕ) (need names nf nt : ℕ) {says : List ℕ} → says ≡ fields_says before need names nf nt → accepts says ≡ true
    → (accepts before ≡ true) × (need ≤ nf) × (names + 2 ≤ nt)
unfolding fields_says
fields-before before need names nf nt e y =
    let w = on_accepts before _ (ap accepts (sym e) ∙ y) in
    let t = (past (any_of (ltb nf need ∷ ltb nt (names + 2) ∷ [])) 8 _ _ w.1).0 in
    (w.0, (room t).0, (room t).1)
  where
    room : any_of (ltb nf need ∷ ltb nt (names + 2) ∷ []) ≡ false → (need ≤ nf) × (names + 2 ≤ nt)
    room t = (ltb-false nf need (none_of _ t 0), ltb-false nt (names + 2) (none_of _ t 1))

pub space_before : (before : List ℕ) (escapes edges names na nl nc nu nk : ℕ) {says : List ℕ} → says ≡ space_says before escapes edges names na nl nc nu nk
    → accepts says ≡ true → (accepts before ≡ true) × (names + 2 ≤ nu) × (names + 2 ≤ nk)
unfolding space_says
space_before before escapes edges names na nl nc nu nk e y =
    let w = on_accepts before _ (ap accepts (sym e) ∙ y) in
    let t = room (any_of (space_short names nu nk)) refl w.1 in
    (w.0, (short_none (names + 2) nu nk t).0, (short_none (names + 2) nu nk t).1)
  where
    room : (b : Bool) → any_of (space_short names nu nk) ≡ b → accepts (cond b (label_room escapes edges na nl nc (9 ∷ 9 ∷ [])) before) ≡ true
        → any_of (space_short names nu nk) ≡ false
    room true q h = refused_never _ (label_refuses escapes edges na nl nc 9) h
    room false q h = q

pub codes-before : {before : List ℕ} {names : ℕ} {table offsets labels c₀ a₀ l₀ says c a l : List ℕ} → CodesCoded before names table offsets labels c₀ a₀ l₀ says c a l
    → accepts says ≡ true → accepts before ≡ true
unfolding codes_says
codes-before {before} o y = (on_accepts before _ (ap accepts (sym o.answer) ∙ y)).0

-- The answers one after the other, and in the order of the buffers.
chain-says : (t4 t5 t6 t7 t8 t9 : Bool) (e w r d long fields escapes : ℕ) →
    let b : List ℕ = 0 ∷ e ∷ w ∷ r ∷ 0 ∷ 0 ∷ 0 ∷ d ∷ [] in
    let s1 = hand_on b (cond t4 (9 ∷ 4 ∷ []) (cond t5 (9 ∷ 5 ∷ []) (set b 4 long))) in
    let s2 = hand_on s1 (cond t6 (9 ∷ 6 ∷ []) (set s1 5 fields)) in
    let s3 = hand_on s2 (cond t9 (cond t7 (9 ∷ 7 ∷ []) (cond t8 (9 ∷ 8 ∷ []) (9 ∷ 9 ∷ []))) s2) in
    hand_on s3 (cond t7 (9 ∷ 7 ∷ []) (cond t8 (9 ∷ 8 ∷ []) (set s3 6 escapes)))
    ≡ cond t4 (9 ∷ 4 ∷ []) (cond t5 (9 ∷ 5 ∷ []) (cond t6 (9 ∷ 6 ∷ []) (cond t7 (9 ∷ 7 ∷ []) (cond t8 (9 ∷ 8 ∷ []) (cond t9 (9 ∷ 9 ∷ [])
    (0 ∷ e ∷ w ∷ r ∷ long ∷ fields ∷ escapes ∷ d ∷ []))))))
unfolding hand_on accepts
chain-says true t5 t6 t7 t8 t9 e w r d long fields escapes = refl
chain-says false true t6 t7 t8 t9 e w r d long fields escapes = refl
chain-says false false true t7 t8 t9 e w r d long fields escapes = refl
chain-says false false false true t8 true e w r d long fields escapes = refl
chain-says false false false true t8 false e w r d long fields escapes = refl
chain-says false false false false true true e w r d long fields escapes = refl
chain-says false false false false true false e w r d long fields escapes = refl
chain-says false false false false false true e w r d long fields escapes = refl
chain-says false false false false false false e w r d long fields escapes = refl

chain_room : (t4 t5 t6 t7 t8 t9 : Bool) (done : List ℕ)
    → first_of (at 9 (cond t4 (4 ∷ []) [] ++ (cond t5 (5 ∷ []) [] ++ cond t6 (6 ∷ []) [] ++ cond t7 (7 ∷ []) [] ++ cond t8 (8 ∷ []) [] ++ cond t9 (9 ∷ []) []))) done
    ≡ cond t4 (9 ∷ 4 ∷ []) (cond t5 (9 ∷ 5 ∷ []) (cond t6 (9 ∷ 6 ∷ []) (cond t7 (9 ∷ 7 ∷ []) (cond t8 (9 ∷ 8 ∷ []) (cond t9 (9 ∷ 9 ∷ []) done)))))
unfolding at
chain_room true t5 t6 t7 t8 t9 done = refl
chain_room false true t6 t7 t8 t9 done = refl
chain_room false false true t7 t8 t9 done = refl
chain_room false false false true t8 t9 done = refl
chain_room false false false false true t9 done = refl
chain_room false false false false false true done = refl
chain_room false false false false false false done = refl

-- A column that was right already, and one that begins with its list: cleared behind it, or whole.
cleared_none : (d : List ℕ) → cleared (length d) d ≡ d
unfolding cleared
cleared_none d = rw (take-length d, sub_self (length d), append-nil d)

begun-over : (xs d : List ℕ) → Begins xs d → d ≡ over xs d
unfolding over
begun-over xs d b = sym (take-append-drop (length xs) d) ∙ ap (λ (z : List ℕ). z ++ drop (length xs) d) b

module _ (says xs d₁ : List ℕ) {d : List ℕ} (m : ℕ) (len : length d₁ ≡ m) where
  -- cleared from n on where the answer accepts, which leaves a padded column
  left-column : (n : ℕ) → d ≡ cleared (used_to says n) d₁ → (accepts says ≡ true → cleared n d₁ ≡ padded xs m) → d ≡ leaves says xs m
  left-column n e f = go (accepts says) refl
    where
      go : (b : Bool) → accepts says ≡ b → d ≡ leaves says xs m
      go true y = leaves-padded says xs m y (e ∙ ap (λ (t : Bool). cleared (cond t n 0) d₁) y ∙ f y)
      go false r = leaves-zeros says xs m r (e ∙ ap (λ (t : Bool). cleared (cond t n 0) d₁) r ∙ cleared_all d₁ ∙ ap (λ (k : ℕ). zeros k) len)

  pub whole-column : d ≡ cleared (used_to says (length d₁)) d₁ → (accepts says ≡ true → d₁ ≡ padded xs m) → d ≡ leaves says xs m
  whole-column e f = left-column (length d₁) e (λ y. cleared_none d₁ ∙ f y)

  pub begun-column : (n : ℕ) → d ≡ cleared (used_to says n) d₁ → (accepts says ≡ true → (length xs ≡ n) × Begins xs d₁) → d ≡ leaves says xs m
  begun-column n e f =
      left-column n e
      (λ y. ap (cleared n) (begun-over xs d₁ (f y).1) ∙ cleared-over xs d₁ n (f y).0 (omega (arith, (f y).0, ap length (f y).1, length-take (length xs) d₁))
      ∙ ap (padded xs) len)

-- columns that are equal one by one
together : {b b' s s' a a' v v' f f' t t' i i' j j' c c' u u' k k' : List ℕ} → b ≡ b' → s ≡ s' → a ≡ a' → v ≡ v' → f ≡ f' → t ≡ t' → i ≡ i' → j ≡ j'
    → c ≡ c' → u ≡ u' → k ≡ k' → coded_of b s a v f t i j c u k ≡ coded_of b' s' a' v' f' t' i' j' c' u' k'
together e1 e2 e3 e4 e5 e6 e7 e8 e9 e10 e11 = cc

-- The answers of the stages, from the one before them.
abbrev fielded : Schema → Parts → Lent → List ℕ → List ℕ
fielded s p l b = fields_says b (length (fields_for s p)) s.names l.fields l.table

abbrev spaced : Schema → Parts → Lent → List ℕ → List ℕ
spaced s p l b =
    space_says b (escapes_of (fields_for s p) p.offsets p.labels) (length p.labels) s.names l.escape_at l.escape_label l.codes l.counting
    l.ranking

abbrev chain : Schema → Parts → Lent → List ℕ → List ℕ
chain s p l b =
    codes_says (spaced s p l (fielded s p l (offsets_says b p.offsets l.bases l.short l.long_at l.long_value)))
    (escapes_of (fields_for s p) p.offsets p.labels) (length p.labels) l.escape_at l.escape_label l.codes

-- a refusal is handed on to the end; else the buffers decide in their order
chain-handed : (s : Schema) (p : Parts) (l : Lent) (b : List ℕ) → accepts b ≡ false → chain s p l b ≡ b
unfolding offsets_says fields_says space_says codes_says
chain-handed s p l b n = rw (on_false b _ n, on_false b _ n, on_false b _ n, on_false b _ n)

chain-plain : (s : Schema) (p : Parts) (l : Lent) → chain s p l (plain_counts p) ≡ first_of (at 9 (short_of_parts s p l)) (counts s p)
unfolding offsets_says fields_says space_says codes_says short_of_parts short_later counts need_long need_fields need_escapes label_columns escapes_of
chain-plain s p l =
    let t4 = any_of (ltb l.bases (blocks_of (length p.offsets)) ∷ ltb l.short (length p.offsets) ∷ []) in
    let t5 = any_of (ltb l.long_at (long_rows p.offsets) ∷ ltb l.long_value (long_rows p.offsets) ∷ []) in
    let t6 = any_of (ltb l.fields (length (fields_for s p)) ∷ ltb l.table (s.names + 2) ∷ []) in
    let n = escapes_of (fields_for s p) p.offsets p.labels in
    let t7 = any_of (ltb l.escape_at n ∷ ltb l.escape_label n ∷ []) in
    let t8 = any_of (ltb l.codes (length p.labels) ∷ []) in
    let t9 = any_of (space_short s.names l.counting l.ranking) in
    chain-says t4 t5 t6 t7 t8 t9 (length p.targets) (length p.weak_from) (length p.roots) p.dangling (long_rows p.offsets) (length (fields_for s p)) n
    ∙ sym (chain_room t4 t5 t6 t7 t8 t9 (counts s p))

chain_ordered : (s : Schema) (p : Parts) (l : Lent) (b : List ℕ) → Where b (b ≡ plain_counts p)
    → chain s p l b ≡ hand_on b (first_of (at 9 (short_of_parts s p l)) (counts s p))
chain_ordered s p l b told = go (accepts b) refl
  where
    go : (t : Bool) → accepts b ≡ t → chain s p l b ≡ hand_on b (first_of (at 9 (short_of_parts s p l)) (counts s p))
    go true y = ap (chain s p l) (told y) ∙ chain-plain s p l ∙ sym (on_true b _ y)
    go false n = chain-handed s p l b n ∙ sym (on_false b _ n)

-- The whole, over the schema and the plain columns.
module _ (s : Schema) (p : Parts) (l : Lent) (before : List ℕ) (told : Where before (before ≡ plain_counts p)) (few : Where before (s.names ≤ loader_label))
    (laid : Where before (LaidOut p.offsets (length p.labels)))
    {s1 b1 h1 a1 v1 : List ℕ} (o : OffsetsCoded before p.offsets l.bases l.short l.long_at l.long_value s1 b1 h1 a1 v1)
    {s2 : List ℕ} (f : s2 ≡ fields_says s1 (length (fields_for s p)) s.names l.fields l.table)
    {s3 : List ℕ} (q : s3 ≡ space_says s2 (escapes_of (fields_for s p) p.offsets p.labels) (length p.labels) s.names l.escape_at l.escape_label l.codes l.counting l.ranking)
    {f1 t1 : List ℕ} (w : Where s3 (FieldsWritten s.names (fields_for s p) f1 t1))
    {c₀ i₀ j₀ says c1 i1 j1 : List ℕ} (d : CodesCoded s3 s.names t1 p.offsets p.labels c₀ i₀ j₀ says c1 i1 j1)
    (nc : length c₀ ≡ l.codes) (ni : length i₀ ≡ l.escape_at) (nj : length j₀ ≡ l.escape_label) where
  at3 : accepts s3 ≡ true → accepts before ≡ true
  at3 y = offsets-before o (fields-before s1 _ _ _ _ f (space_before s2 _ _ _ _ _ _ _ _ q y).0).0

  -- the table is of the fields, so that the escapes counted by it are theirs
  abbrev fields : List ℕ
  fields = fields_for s p

  of : accepts s3 ≡ true → TableOf s.names fields t1
  unfolding fields_for
  of y = record {
    named = fields-named s.names (few (at3 y)) _ p.labels;
    front = ap (λ (n : ℕ). take n t1) (sym (table-length s.names fields)) ∙ (w y).tabled;
  }

  rows_are : accepts s3 ≡ true → escapes_in (codes_all s.names t1 p.offsets p.labels) ≡ escapes_of fields p.offsets p.labels
  unfolding escapes_of
  rows_are y = escapes_coded s.names fields t1 (few (at3 y)) (of y) p.offsets p.labels (length p.offsets - 1)

  -- the answer of the last stage, with the fields' escapes
  last_says : says ≡ codes_says s3 (escapes_of fields p.offsets p.labels) (length p.labels) l.escape_at l.escape_label l.codes
  unfolding codes_says
  last_says = d.answer ∙ go (accepts s3) refl
    where
      go : (b : Bool) → accepts s3 ≡ b
          → codes_says s3 (escapes_in (codes_all s.names t1 p.offsets p.labels)) (length p.labels) (length i₀) (length j₀) (length c₀)
          ≡ codes_says s3 (escapes_of fields p.offsets p.labels) (length p.labels) l.escape_at l.escape_label l.codes
      go true y = rw (rows_are y, nc, ni, nj)
      go false n = on_false s3 _ n ∙ sym (on_false s3 _ n)

  says-chain : says ≡ chain s p l before
  says-chain =
      last_says
      ∙ ap (λ (z : List ℕ). codes_says z (escapes_of fields p.offsets p.labels) (length p.labels) l.escape_at l.escape_label l.codes)
      (q ∙ ap (spaced s p l) (f ∙ ap (fielded s p l) o.answer))

  answer_is : says ≡ hand_on before (first_of (at 9 (short_of_parts s p l)) (counts s p))
  answer_is = says-chain ∙ chain_ordered s p l before told

  -- an acceptance gives the counts
  accepted_says : accepts says ≡ true → says ≡ counts s p
  accepted_says y =
      let r = ap accepts (sym answer_is) ∙ y in
      let none = (refuse_at 9 refl (short_of_parts s p l)).none_met (counts s p) (on_accepts before _ r).1 in
      answer_is ∙ on_true before _ (on_accepts before _ r).0 ∙ ap (λ (fs : List (List ℕ)). first_of fs (counts s p)) none

  said : (i : ℕ) → accepts says ≡ true → counts s p ! i ≡ says ! i
  said i y = ap (λ (a : List ℕ). a ! i) (sym (accepted_says y))

  at1 : accepts s3 ≡ true → accepts s1 ≡ true
  at1 y = (fields-before s1 _ _ _ _ f (space_before s2 _ _ _ _ _ _ _ _ q y).0).0

  written : accepts says ≡ true → LabelsLaid (coded fields p.offsets p.labels (length p.offsets - 1)) c₀ i₀ j₀ (escapes_in (codes_all s.names t1 p.offsets p.labels)) c1 i1 j1
  written y = d.laid y fields (of (codes-before d y))

  filled : accepts says ≡ true → Filled p.offsets l.bases l.short l.long_at l.long_value b1 h1 a1 v1
  filled y = o.filled (at1 (codes-before d y))

  code-count : accepts says ≡ true → length (codes_for fields p.offsets p.labels (length p.offsets - 1)) ≡ length p.labels
  code-count y =
      let z = codes-before d y in
      let law = laid (at3 z) in
      let m = length p.offsets - 1 in
      ap length (sym (all_coded s.names fields t1 (few (at3 z)) (of z) p.offsets p.labels m))
      ∙ all_length s.names t1 p.offsets p.labels law m (omega (arith, law.some)) ∙ law.ends

  module _ {u1 k1 b h a v g t i j c u k : List ℕ}
      (z : CodingSettled says s.names (length p.labels) (coded_of b1 h1 a1 v1 f1 t1 i1 j1 c1 u1 k1) (coded_of b h a v g t i j c u k))
      (nb : length b1 ≡ l.bases) (nh : length h1 ≡ l.short) (na : length a1 ≡ l.long_at) (nv : length v1 ≡ l.long_value) (nf : length f1 ≡ l.fields)
      (nt : length t1 ≡ l.table) (mi : length i1 ≡ l.escape_at) (mj : length j1 ≡ l.escape_label) (mc : length c1 ≡ l.codes) (nu : length u1 ≡ l.counting)
      (nk : length k1 ≡ l.ranking) where
    columns_are : coded_of b h a v g t i j c u k ≡ coded_left says s p l
    unfolding coded_left label_columns coded counts need_fields need_escapes
    columns_are =
        let x = blocked p.offsets in
        let e = label_columns s p in
        together (whole-column says x.bases b1 l.bases nb z.bases (λ y. (filled y).bases))
        (whole-column says x.short h1 l.short nh z.short (λ y. (filled y).short))
        (whole-column says x.long_at a1 l.long_at na z.long_at (λ y. (filled y).long_at))
        (whole-column says x.long_value v1 l.long_value nv z.long_value (λ y. (filled y).long_value))
        (begun-column says fields f1 l.fields nf (says ! 5) z.fields (λ y. (said 5 y, (w (codes-before d y)).listed)))
        (begun-column says (code_table s.names fields) t1 l.table nt (s.names + 2) z.table
        (λ y. (table-length s.names fields, (w (codes-before d y)).tabled)))
        (begun-column says e.escape_at i1 l.escape_at mi (says ! 6) z.escape_at (λ y. (said 6 y, begins_over e.escape_at i₀ (written y).escape_at)))
        (begun-column says e.escape_label j1 l.escape_label mj (says ! 6) z.escape_label
        (λ y. (length-map e.escape_at (λ n. p.labels ! n) ∙ said 6 y, begins_over e.escape_label j₀ (written y).escape_label)))
        (begun-column says e.codes c1 l.codes mc (length p.labels) z.codes (λ y. (code-count y, begins_over e.codes c₀ (written y).codes)))
        (z.counting ∙ cleared_all u1 ∙ ap (λ (n : ℕ). zeros n) nu)
        (z.ranking ∙ cleared_all k1 ∙ ap (λ (n : ℕ). zeros n) nk)

    pub finished_parts : Finished s p before l says (coded_of b h a v g t i j c u k)
    finished_parts = record { answer = answer_is; columns = columns_are }

-- the columns handed over are those of the schema and the plain columns
hands_fields : {s : Schema} {p : Parts} {before : List ℕ} {g : Naming} {classes names : ℕ} {offsets labels : List ℕ}
    → Hands s p before g classes names offsets labels → fields_for s p ≡ fields_by g classes names labels
unfolding fields_for
hands_fields {s} {p} {before} {g} {classes} {names} {offsets} {labels} h =
    ap (λ (n : ℕ). fields_of n (named s) p.labels) h.name_count ∙ ap (fields_of names (named s)) h.labelled
    ∙ ap (λ (z : List ℕ). fields_of names z labels)
    (named_by_lem s ∙ ap (λ (z : Naming). named_by z (class_count s)) h.named ∙ ap (named_by g) h.class_count)

-- THE WHOLE: what the stages left comes to the contract of `code_parts`.
pub coded-whole : {g : Naming} {classes names : ℕ} {offsets labels before : List ℕ} (l : Lent)
    → Where before (Ready g classes names offsets labels)
    → {s1 b1 h1 a1 v1 : List ℕ} → OffsetsCoded before offsets l.bases l.short l.long_at l.long_value s1 b1 h1 a1 v1
    → {s2 : List ℕ} → s2 ≡ fields_says s1 (length (fields_by g classes names labels)) names l.fields l.table
    → {s3 : List ℕ}
    → s3 ≡ space_says s2 (escapes_of (fields_by g classes names labels) offsets labels) (length labels) names l.escape_at l.escape_label l.codes l.counting l.ranking
    → {f1 t1 : List ℕ} → Where s3 (FieldsWritten names (fields_by g classes names labels) f1 t1)
    → {c₀ i₀ j₀ says c1 i1 j1 : List ℕ} → CodesCoded s3 names t1 offsets labels c₀ i₀ j₀ says c1 i1 j1
    → length c₀ ≡ l.codes → length i₀ ≡ l.escape_at → length j₀ ≡ l.escape_label
    → {u1 k1 b h a v m t i j c u k : List ℕ}
    → CodingSettled says names (length labels) (coded_of b1 h1 a1 v1 f1 t1 i1 j1 c1 u1 k1) (coded_of b h a v m t i j c u k)
    → length b1 ≡ l.bases → length h1 ≡ l.short → length a1 ≡ l.long_at → length v1 ≡ l.long_value → length f1 ≡ l.fields → length t1 ≡ l.table
    → length i1 ≡ l.escape_at → length j1 ≡ l.escape_label → length c1 ≡ l.codes → length u1 ≡ l.counting → length k1 ≡ l.ranking
    → PartsCoding g classes names offsets labels before l says (coded_of b h a v m t i j c u k)
coded-whole l ready o f q w d nc ni nj z nb nh na nv nf nt mi mj mc nu nk s p hands =
    let e = sym (hands_fields hands) in
    let x = sym hands.laid_out in
    let y = sym hands.labelled in
    let n = sym hands.name_count in
    finished_parts s p l _ hands.told (λ a. rw hands.name_count (omega (arith, (ready a).few_names))) (λ a. rw (hands.laid_out, hands.labelled) (ready a).laid)
    (rw x at o) (rw (e, n) at f) (rw (e, x, y, n) at q) (λ a. rw (e, n) at (w a)) (rw (x, y, n) at d) nc ni nj (rw (y, n) at z) nb nh na nv nf nt mi mj mc nu nk
