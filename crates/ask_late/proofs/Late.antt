-- A label read from the nearest escape is the one read from the object's first edge, wherever that one can be read. Assumes nothing.
use Prim.Native.Nat.{ℕ, zero, suc, ◌+◌, ◌-◌, ◌≤◌}
use native.Mathlib.Omega.{arith}
use mathlib.Core.Path.{◌≡◌, refl, sym, ap, ◌∙◌}
use mathlib.Core.Bool.{Bool, true, false, cond, beq}
use mathlib.Core.List.{List, [], ◌∷◌}
use lib.Dec.{eqb, ltb, leb}
use lib.ListN.{length}
use borrow.Author.Tests.{eqb-true}
use Rattle.columns.specs.Lists.{◌!◌, all_of}
use Rattle.columns.specs.Ranks.{Rises, bisect}
use Rattle.columns.proofs.Tests.{each_of}
use Rattle.rules.specs.Types.{array_element_label, is_element}
use Rattle.rules.specs.Labels.{Coded, exact_label}
use Rattle.rules.specs.Questions.{label_reads}
use Rattle.labels.specs.Reading.{row_back, code_back, next_of, onward, next_back, walk_back, exact_back}
use Rattle.labels.proofs.Back.{exact_back_lem}
use Rattle.ask_late.specs.Late.{nearest, late_back, late_next}

pub none_read : {x : ℕ} {xs : List ℕ} → [] ≡ x ∷ xs → ⊥
none_read {x} {xs} q = let z : 0 ≡ suc (length xs) = ap length q in absurd (omega arith)

pub beq_true : (b : Bool) → beq b true ≡ true → b ≡ true
beq_true true e = refl
beq_true false e = e

-- A row says what its code says: a field, or an element.
pub row-kind : (at ls : List ℕ) (e c k : ℕ) {l : ℕ} {xs : List ℕ} → row_back at ls e c k ≡ l ∷ xs → beq (is_element l) (leb 32768 c) ≡ true
unfolding row_back
row-kind at ls e c k {l} {xs} q = go (all_of tests) refl q
  where
    tests : List Bool
    tests = ltb k (length at) ∷ eqb (at ! k) e ∷ ltb k (length ls) ∷ beq (is_element (ls ! k)) (leb 32768 c) ∷ []

    go : (b : Bool) → all_of tests ≡ b → cond b (ls ! k ∷ []) [] ≡ l ∷ xs → beq (is_element l) (leb 32768 c) ≡ true
    go true t q = let same : ls ! k ≡ l = ap (λ (ls : List ℕ). ls ! 0) q in ap (λ (x : ℕ). beq (is_element x) (leb 32768 c)) (sym same) ∙ each_of tests t 3
    go false t q = absurd (none_read q)

-- So what is expected behind an escaped element does not depend on what was before it.
row_next : (at ls : List ℕ) (e c k n m : ℕ) → leb 32768 c ≡ true → next_of n (row_back at ls e c k) ≡ next_of m (row_back at ls e c k)
row_next at ls e c k n m h = go (row_back at ls e c k) (λ l xs. row-kind at ls e c k)
  where
    go : (row : List ℕ) → ((l : ℕ) (xs : List ℕ) → row ≡ l ∷ xs → beq (is_element l) (leb 32768 c) ≡ true) → next_of n row ≡ next_of m row
    go [] kind = refl
    go (l ∷ xs) kind =
        let is : is_element l ≡ true = beq_true (is_element l) (ap (beq (is_element l)) (sym h) ∙ kind l xs refl) in
        ap (λ (b : Bool). cond b (l - array_element_label + 1) n ∷ []) is ∙ ap (λ (b : Bool). cond b (l - array_element_label + 1) m ∷ []) (sym is)

-- the edge g by itself, where n is expected; what is expected behind it; its exact label
module _ (d : Coded) where
  abbrev pub label : ℕ → ℕ → List ℕ
  label g n = code_back d.fields d.escape_at d.escape_label g n (d.codes ! g)

  abbrev pub behind : ℕ → List ℕ → List ℕ
  behind g ns = onward (λ n. next_of n (label g n)) ns

  abbrev pub exactly : ℕ → List ℕ → List ℕ
  exactly g ns = cond (leb 32768 (d.codes ! g)) (onward (label g) ns) (label g 0)

  -- an escaped element
  module _ (g : ℕ) (h : eqb (d.codes ! g) 65535 ≡ true) where
    escape_row : (n : ℕ) → label g n ≡ row_back d.escape_at d.escape_label g 65535 (bisect d.escape_at g)
    unfolding code_back
    escape_row n = ap (λ (c : ℕ). code_back d.fields d.escape_at d.escape_label g n c) (eqb-true (d.codes ! g) 65535 h)

    behind_escape : (ns : List ℕ) {y : ℕ} {ys : List ℕ} → behind g ns ≡ y ∷ ys → behind g ns ≡ behind g (0 ∷ [])
    behind_escape [] q = absurd (none_read q)
    behind_escape (n ∷ ns) q =
        ap (next_of n) (escape_row n) ∙ row_next d.escape_at d.escape_label g 65535 (bisect d.escape_at g) n 0 refl ∙ sym (ap (next_of 0) (escape_row 0))

    exactly_escape : (ns : List ℕ) {y : ℕ} {ys : List ℕ} → exactly g ns ≡ y ∷ ys → exactly g ns ≡ exactly g (0 ∷ [])
    exactly_escape ns {y} {ys} q = go (leb 32768 (d.codes ! g)) ns q
      where
        go : (b : Bool) (ns : List ℕ) → cond b (onward (label g) ns) (label g 0) ≡ y ∷ ys → cond b (onward (label g) ns) (label g 0) ≡ cond b (label g 0) (label g 0)
        go true [] q = absurd (none_read q)
        go true (n ∷ ns) q = escape_row n ∙ sym (escape_row 0)
        go false ns q = refl

  -- an edge whose expected index is the same, where that is known
  module _ (g : ℕ) (ns ms : List ℕ) (same : (y : ℕ) (ys : List ℕ) → ns ≡ y ∷ ys → ns ≡ ms) where
    behind-same : {y : ℕ} {ys : List ℕ} → behind g ns ≡ y ∷ ys → behind g ns ≡ behind g ms
    behind-same {y} {ys} q = go ns same q
      where
        go : (ns : List ℕ) → ((y : ℕ) (ys : List ℕ) → ns ≡ y ∷ ys → ns ≡ ms) → behind g ns ≡ y ∷ ys → behind g ns ≡ behind g ms
        go [] same q = absurd (none_read q)
        go (n ∷ ns) same q = ap (behind g) (same n ns refl)

    exactly-same : {y : ℕ} {ys : List ℕ} → exactly g ns ≡ y ∷ ys → exactly g ns ≡ exactly g ms
    exactly-same {y} {ys} q = go (leb 32768 (d.codes ! g)) ns same q
      where
        go : (b : Bool) (ns : List ℕ) → ((y : ℕ) (ys : List ℕ) → ns ≡ y ∷ ys → ns ≡ ms) → cond b (onward (label g) ns) (label g 0) ≡ y ∷ ys
            → cond b (onward (label g) ns) (label g 0) ≡ cond b (onward (label g) ms) (label g 0)
        go true [] same q = absurd (none_read q)
        go true (n ∷ ns) same q = ap (onward (label g)) (same n ns refl)
        go false ns same q = refl

  -- one edge more
  pub next_more : (e k : ℕ) → next_back d e (suc k) ≡ behind (e + k) (next_back d e k)
  unfolding next_back
  next_more e k = refl

  pub next_none : (e : ℕ) → next_back d e zero ≡ 0 ∷ []
  unfolding next_back
  next_none e = refl

  pub exact_more : (e k : ℕ) → exact_back d e k ≡ exactly (e + k) (next_back d e k)
  unfolding exact_back walk_back
  exact_more e k = refl

  -- read from edge j on, as if the object began there
  next-from : (e k j : ℕ) → j ≤ k → next_back d (e + j) (suc k - j) ≡ behind (e + k) (next_back d (e + j) (k - j))
  next-from e k j l =
      let count : suc k - j ≡ suc (k - j) = omega arith in
      let place : e + j + (k - j) ≡ e + k = omega arith in
      ap (next_back d (e + j)) count ∙ next_more (e + j) (k - j) ∙ ap (λ (g : ℕ). behind g (next_back d (e + j) (k - j))) place

  exact_from_lem : (e k j : ℕ) → j ≤ k → exact_back d (e + j) (k - j) ≡ exactly (e + k) (next_back d (e + j) (k - j))
  exact_from_lem e k j l =
      let place : e + j + (k - j) ≡ e + k = omega arith in
      exact_more (e + j) (k - j) ∙ ap (λ (g : ℕ). exactly g (next_back d (e + j) (k - j))) place

  next-at : (e k : ℕ) → next_back d (e + k) (k - k) ≡ 0 ∷ []
  next-at e k = let none : k - k ≡ 0 = omega arith in ap (next_back d (e + k)) none ∙ next_none (e + k)

  -- so from the nearest escape: where one starts for edge k, and what lies between
  module _ (e : ℕ) where
    abbrev pub from : ℕ → List ℕ
    from k = cond (eqb (d.codes ! (e + k)) 65535) (0 ∷ []) (late_next d e k)

    pub late_none : late_next d e zero ≡ 0 ∷ []
    unfolding late_next
    late_none = refl

    pub late_more : (k : ℕ) → late_next d e (suc k) ≡ behind (e + k) (from k)
    unfolding late_next
    late_more k = refl

    near_within : (k : ℕ) → nearest d e k ≤ k
    unfolding nearest
    near_within zero = omega arith
    near_within (suc k) = go (eqb (d.codes ! (e + suc k)) 65535) (near_within k)
      where
        go : (b : Bool) → nearest d e k ≤ k → cond b (suc k) (nearest d e k) ≤ suc k
        go true l = omega arith
        go false l = omega arith

    either : (b : Bool) (ns : List ℕ) → ns ≡ cond b ns ns
    either true ns = refl
    either false ns = refl

    -- What is expected at edge k is what is read from the nearest escape before it.
    near_from : (k : ℕ) → next_back d (e + nearest d e k) (k - nearest d e k) ≡ from k
    unfolding nearest
    near_from zero = next-at e zero ∙ either (eqb (d.codes ! (e + zero)) 65535) (0 ∷ []) ∙ ap (cond (eqb (d.codes ! (e + zero)) 65535) (0 ∷ [])) (sym late_none)
    near_from (suc k) = go (eqb (d.codes ! (e + suc k)) 65535) (near_within k) (near_from k)
      where
        go : (b : Bool) → nearest d e k ≤ k → next_back d (e + nearest d e k) (k - nearest d e k) ≡ from k
            → next_back d (e + cond b (suc k) (nearest d e k)) (suc k - cond b (suc k) (nearest d e k)) ≡ cond b (0 ∷ []) (late_next d e (suc k))
        go true l same = next-at e (suc k)
        go false l same = next-from e k (nearest d e k) l ∙ ap (behind (e + k)) same ∙ sym (late_more k)

    pub late_is : (k : ℕ) → late_back d e k ≡ exactly (e + k) (from k)
    unfolding late_back
    late_is k = exact_from_lem e k (nearest d e k) (near_within k) ∙ ap (exactly (e + k)) (near_from k)

    -- Where the label can be read from the first edge, it is the same.
    next_late : (k : ℕ) {y : ℕ} {ys : List ℕ} → next_back d e k ≡ y ∷ ys → next_back d e k ≡ late_next d e k
    next_late zero q = next_none e ∙ sym late_none
    next_late (suc k) {y} {ys} q = next_more e k ∙ go (eqb (d.codes ! (e + k)) 65535) refl (λ z zs. next_late k) ∙ sym (late_more k)
      where
        more : behind (e + k) (next_back d e k) ≡ y ∷ ys
        more = sym (next_more e k) ∙ q

        go : (b : Bool) → eqb (d.codes ! (e + k)) 65535 ≡ b → ((z : ℕ) (zs : List ℕ) → next_back d e k ≡ z ∷ zs → next_back d e k ≡ late_next d e k)
            → behind (e + k) (next_back d e k) ≡ behind (e + k) (cond b (0 ∷ []) (late_next d e k))
        go true h same = behind_escape (e + k) h (next_back d e k) more
        go false h same = behind-same (e + k) (next_back d e k) (late_next d e k) same more

    pub late_forward : (k : ℕ) {y : ℕ} {ys : List ℕ} → exact_back d e k ≡ y ∷ ys → exact_back d e k ≡ late_back d e k
    late_forward k {y} {ys} q = exact_more e k ∙ go (eqb (d.codes ! (e + k)) 65535) refl ∙ sym (late_is k)
      where
        more : exactly (e + k) (next_back d e k) ≡ y ∷ ys
        more = sym (exact_more e k) ∙ q

        go : (b : Bool) → eqb (d.codes ! (e + k)) 65535 ≡ b → exactly (e + k) (next_back d e k) ≡ exactly (e + k) (cond b (0 ∷ []) (late_next d e k))
        go true h = exactly_escape (e + k) h (next_back d e k) more
        go false h = exactly-same (e + k) (next_back d e k) (late_next d e k) (λ z zs. next_late k) more

    -- So it is document 01's wherever the labels up to it read back.
    pub late_back_lem : Rises d.escape_at → length d.escape_at ≡ length d.escape_label → (k : ℕ) → ((j : ℕ) → j ≤ k → label_reads d e j ≡ true)
        → late_back d e k ≡ exact_label d e k ∷ []
    late_back_lem rise same k h = let z = exact_back_lem d rise same e k h in sym (late_forward k z) ∙ z
