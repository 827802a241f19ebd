-- The faults of PARTS as the walks test them. Assumes nothing.
use mathlib.Core.Path.{◌≡◌, refl, sym, ap, ◌∙◌}
use mathlib.Core.Logic.{◌⊎◌, inl, inr}
use mathlib.Core.Bool.{Bool, true, false, cond, not, ◌||◌, ◌&&◌}
use mathlib.Core.List.{List, [], ◌∷◌, ◌++◌, append-nil}
use Prim.Native.Nat.{ℕ, zero, suc, ◌+◌, ◌-◌, ◌≤◌, ◌<◌, zero-le}
use native.Mathlib.Numerals.{add-one}
use native.Mathlib.Omega.{arith}
use borrow.Author.Tests.{lt-ltb, le-ltb, ltb-false, le-leb, lt-leb, eq-eqb, ne_eqb, eqb-true, eqb-false, not-false}
use lib.Dec.{eqb, leb, ltb}
use lib.ListN.{length, take}
use Rattle.columns.specs.Lists.{◌!◌, places, first_place, part, all_of, any_of}
use Rattle.columns.proofs.Lists.{lt_or_ge}
use Rattle.columns.proofs.Tests.{or_true, none_of, append-empty, places_none, and_true, or_none}
use Rattle.columns.proofs.Sums.{part_length_lem}
use Rattle.columns.proofs.First.{Searching, searching_start, searching_more}
use Rattle.labels.specs.Coding.{LaidOut}
use Rattle.labels.proofs.Coded.{laid_within}
use Rattle.rules.specs.Edges.{pair_le}
use Rattle.rules.specs.Labels.{after, expected}
use Rattle.rules.specs.Verdict.{once}
use Rattle.rules.specs.Parts.{degree, below, bad_offsets, bad_label, bad_labels, bad_pair}
use Rattle.rules.proofs.Acceptance.{once-empty}
use Rattle.check_tables.proofs.Faults.{prior}
use Rattle.check_parts.specs.Checks.{label_fault, pair_fault}
use Rattle.check_edge.proofs.Firsts.{first_of, none_of_them}
use Rattle.check_parts.proofs.Lists.{nothing-taken, first_collected, first_mapped}

-- COLUMN 1. The first offset is not below itself.
pub falls_start : (xs : List ℕ) → 0 < length xs → Searching (below xs) (length xs) 1
falls_start xs l = searching_more (below xs) (length xs) (searching_start _ _) l (le-ltb (xs ! 0) (xs ! 0) (omega arith))

module _ (xs : List ℕ) (edges : ℕ) where
  abbrev last : ℕ
  last = length xs - 1

  abbrev end : List ℕ
  end = cond (eqb (xs ! last) edges) [] (last ∷ [])

  pub offsets_none : length xs ≡ 0 → 0 ∷ [] ≡ take 1 (bad_offsets xs edges)
  unfolding bad_offsets any_of
  offsets_none e = rw e

  pub offsets_start : 0 < length xs → 0 < xs ! 0 → 0 ∷ [] ≡ take 1 (bad_offsets xs edges)
  unfolding bad_offsets any_of
  offsets_start l h = rw (ne_eqb (length xs) 0 (λ e. omega arith), ne_eqb (xs ! 0) 0 (λ e. omega arith))

  module _ (l : 0 < length xs) (s : xs ! 0 ≤ 0) where
    rest : bad_offsets xs edges ≡ places (below xs) (length xs) ++ end
    unfolding bad_offsets any_of
    rest = rw (ne_eqb (length xs) 0 (λ e. omega arith), eq-eqb (xs ! 0) 0 (omega arith))

    pub offsets_fall : {i : ℕ} → i ≡ first_place (below xs) (length xs) → i < length xs → i ∷ [] ≡ take 1 (bad_offsets xs edges)
    offsets_fall e k = rw (rest, e) (first_of (below xs) (length xs) end (rw e at k))

    module _ {i : ℕ} (e : i ≡ first_place (below xs) (length xs)) (k : length xs ≤ i) where
      only_end : bad_offsets xs edges ≡ end
      only_end = rest ∙ rw (none_of_them (below xs) (length xs) (rw e at k))

      pub offsets-end : (xs ! last ≡ edges → ⊥) → last ∷ [] ≡ take 1 (bad_offsets xs edges)
      offsets-end n = rw (only_end, ne_eqb (xs ! last) edges n)

      pub offsets_clean : xs ! last ≡ edges → [] ≡ take 1 (bad_offsets xs edges)
      offsets_clean n = rw (only_end, eq-eqb (xs ! last) edges n)

  -- offsets without faults
  pub laid_out : [] ≡ take 1 (bad_offsets xs edges) → LaidOut xs edges
  unfolding bad_offsets
  laid_out e =
      let two = append-empty _ end (nothing-taken _ e) in
      let one = append-empty (once (any_of (eqb (length xs) 0 ∷ not (eqb (xs ! 0) 0) ∷ []))) (places (below xs) (length xs)) two.0 in
      let first = once-empty _ one.0 in
      record {
        some = some (eqb-false _ 0 (none_of _ first 0));
        starts = eqb-true _ 0 (not-false _ (none_of _ first 1));
        rises = λ o k. ltb-false _ _ (places_none (below xs) (length xs) (suc o) one.1 k);
        ends = eqb-true _ _ (ended (eqb (xs ! last) edges) two.1);
      }
    where
      some : (length xs ≡ 0 → ⊥) → 0 < length xs
      some h = positive (length xs) h
        where
          positive : (n : ℕ) → (n ≡ 0 → ⊥) → 0 < n
          positive zero h = absurd (h refl)
          positive (suc n) h = omega arith

      ended : (b : Bool) → cond b [] (last ∷ []) ≡ [] → b ≡ true
      ended true e = refl
      ended false e = let z : ◌≡◌ {A = ℕ} 0 1 = cc in absurd (omega arith)

-- COLUMN 2. A label of an object's, behind k others
pub label_at : (names : ℕ) (ls : List ℕ) (k : ℕ) → bad_label names ls k ≡ label_fault names (expected ls k) (ls ! k)
unfolding bad_label label_fault
label_at names ls k = refl

pub expected_more : (ls : List ℕ) (k : ℕ) → after (expected ls k) (ls ! k) ≡ expected ls (k + 1)
expected_more ls k = rw (add-one k)

-- the labels of the first o objects are without fault
pub record LabelsTested (names : ℕ) (offsets labels : List ℕ) (o : ℕ) : Type 0 where
  pub none : bad_labels names o offsets labels ≡ []

module _ (names : ℕ) (offsets labels : List ℕ) where
  pub labelled_none : LabelsTested names offsets labels 0
  unfolding bad_labels
  labelled_none = record { none = refl }

  abbrev own : ℕ → List ℕ
  own o = part labels (offsets ! o) (offsets ! suc o)

  -- by where the first fault of the object's own labels is
  module _ (law : LaidOut offsets (length labels)) {o : ℕ} (h : LabelsTested names offsets labels o) (l : o + 1 < length offsets) {k : ℕ}
      (e : k ≡ first_place (bad_label names (part labels (offsets ! o) (offsets ! (o + 1)))) (length (part labels (offsets ! o) (offsets ! (o + 1))))) where
    first : k ≡ first_place (bad_label names (own o)) (degree offsets o)
    first =
        let next : suc o < length offsets = omega arith in
        rw (add-one o) at e ∙ ap (first_place (bad_label names (own o))) (part_length_lem labels (offsets ! o) (offsets ! suc o) (laid_within law o next).1)

    pub labelled_more : offsets ! (o + 1) - offsets ! o ≤ k → LabelsTested names offsets labels (o + 1)
    unfolding bad_labels
    labelled_more m =
        let m' : degree offsets o ≤ k = rw (add-one o) at m in
        let clear : places (bad_label names (own o)) (degree offsets o) ≡ [] = none_of_them (bad_label names (own o)) (degree offsets o) (rw first at m') in
        record { none = rw (add-one o, h.none, clear) }

    pub labelled-hit : k < offsets ! (o + 1) - offsets ! o → (offsets ! o + k) ∷ [] ≡ take 1 (bad_labels names (length offsets - 1) offsets labels)
    unfolding bad_labels
    labelled-hit m =
        let m' : k < degree offsets o = rw (add-one o) at m in
        let here : take 1 (places (bad_label names (own o)) (degree offsets o)) ≡ k ∷ [] =
        rw first
        (sym (first_of (bad_label names (own o)) (degree offsets o) [] (rw first at m') ∙ ap (take 1) (append-nil (places (bad_label names (own o)) (degree offsets o))))) in
        sym (first_collected _ (length offsets - 1) o (offsets ! o + k) h.none (omega arith) (first_mapped (λ j. offsets ! o + j) (places (bad_label names (own o)) (degree offsets o)) k here))

  pub labelled_all : {o : ℕ} → LabelsTested names offsets labels o → o ≡ length offsets - 1 → [] ≡ take 1 (bad_labels names (length offsets - 1) offsets labels)
  labelled_all h e = rw (← e, h.none)

-- COLUMN 4. No pair comes before (0, 0).
least : (a b : ℕ) → ltb 0 a || (eqb 0 a && leb 0 b) ≡ true
least zero b = le-leb 0 b zero-le
least (suc a) b = rw (lt-ltb 0 (suc a) (omega arith))

pub pair-at : (m : ℕ) (from to : List ℕ) (i : ℕ) → bad_pair m from to i ≡ pair_fault m (prior from i) (prior to i) (from ! i) (to ! i)
unfolding bad_pair pair_fault all_of
pair-at m from to zero = rw (least (from ! 0) (to ! 0))
pair-at m from to (suc i) = rw (lt-ltb 0 (suc i) (omega arith), and_true (not (pair_le (record { object = from ! i; target = to ! i }) (record { object = from ! suc i; target = to ! suc i }))))

not_le : (a b : ℕ) → not (leb a b) ≡ ltb b a
not_le a b = go (lt_or_ge b a)
  where
    go : (b < a) ⊎ (a ≤ b) → not (leb a b) ≡ ltb b a
    go (inl l) = rw (lt-leb a b l, lt-ltb b a l)
    go (inr l) = rw (le-leb a b l, le-ltb b a l)

-- the pair behind another: later, earlier, or of the same object
module _ (m a₀ b₀ a b : ℕ) where
  pub pair-later : a < m → b < m → a₀ < a → pair_fault m a₀ b₀ a b ≡ false
  unfolding pair_fault any_of
  pair-later j k l = rw (lt-leb m a j, lt-leb m b k, lt-ltb a₀ a l)

  pub pair_earlier : a < a₀ → pair_fault m a₀ b₀ a b ≡ true
  unfolding pair_fault any_of
  pair_earlier l = rw (le-ltb a₀ a (omega arith), ne_eqb a₀ a (λ e. omega arith), or_true (leb m b)) (or_true (leb m a))

  pub pair_same : a < m → b < m → a₀ ≡ a → pair_fault m a₀ b₀ a b ≡ ltb b b₀
  unfolding pair_fault any_of
  pair_same j k e = rw (lt-leb m a j, lt-leb m b k, le-ltb a₀ a (omega arith), eq-eqb a₀ a e) (or_none (not (leb b₀ b)) ∙ not_le b₀ b)
