-- Edges that are answered by the short columns are the whole question's, on any columns; so on a build's columns they are the object's. Assumes nothing.
use Prim.Native.Nat.{ℕ, ◌+◌, ◌-◌, ◌≤◌, ◌<◌}
use native.Mathlib.Omega.{arith}
use mathlib.Core.Path.{◌≡◌, refl, sym, ap, ◌∙◌}
use mathlib.Core.Bool.{Bool, true, false, cond, false≢true}
use mathlib.Core.List.{List, [], ◌∷◌}
use lib.Dec.{ltb}
use lib.ListN.{length, get_or}
use borrow.Author.Tests.{le-ltb, ltb-false, eqb-false}
use Rattle.columns.specs.Lists.{◌!◌, first_place}
use Rattle.columns.specs.Columns.{accepts}
use Rattle.columns.proofs.Lists.{first_none}
use Rattle.columns.proofs.Sums.{tab_ext}
use Rattle.columns.proofs.Tests.{none_of, no_places}
use Rattle.rules.specs.Edges.{Edge}
use Rattle.rules.specs.Labels.{Coded}
use Rattle.rules.specs.Questions.{Columns, objects_in, into_says, EdgesLeft, edges_into}
use Rattle.labels.specs.Reading.{walk_back}
use Rattle.ask_span.specs.Graph.{span_in}
use Rattle.ask_edges.specs.Object.{unread, edges_met, edges_found}
use Rattle.ask_short.specs.Lean.{plain_coded, leanly}
use Rattle.ask_short.proofs.Whole.{no_columns, span-whole, walk_whole, by_span}

-- the edges of the object whose span is s, as they are read from labels d
module _ (objects : ℕ) (ts : List ℕ) (d : Coded) (e n : ℕ) where
  abbrev plain : Coded
  plain = plain_coded d

  module _ (all : n ≤ first_place (unread objects ts plain e) n) where
    read : (k : ℕ) → k < n → unread objects ts plain e k ≡ false
    read k l = first_none (unread objects ts plain e) n k all l

    label_same : (k : ℕ) → k < n → walk_back plain e k ≡ walk_back d e k
    unfolding unread
    label_same k l = go (walk_back plain e k) refl (eqb-false _ 0 (none_of _ (read k l) 1))
      where
        go : (ls : List ℕ) → walk_back plain e k ≡ ls → (length ls ≡ 0 → ⊥) → walk_back plain e k ≡ walk_back d e k
        go [] q some = absurd (some refl)
        go (x ∷ xs) q some = walk_whole d e k q

    pub edges-same : edges_met ts plain e n ≡ edges_met ts d e n
    unfolding edges_met
    edges-same = tab_ext _ _ n (λ k l. ap (λ (ls : List ℕ). record { target = ts ! (e + k); label = ls ! 0 }) (label_same k l))

    pub all_same : first_place (unread objects ts d e) n ≡ n
    unfolding unread
    all_same = ap (λ (xs : List ℕ). get_or xs 0 n) (no_places (unread objects ts d e) n (λ k l. rw (label_same k l) at (read k l)))

module _ (objects : ℕ) (ts : List ℕ) (o a b : ℕ) (s : List ℕ) where
  abbrev n : ℕ
  n = s ! 2 - s ! 1

  -- what `edges_found` is of a span: from whether an edge cannot be read, and the edges
  abbrev from : Bool → List Edge → EdgesLeft
  from bad es = edges_into (cond (accepts s) (cond bad (12 ∷ o ∷ []) (into_says es a b)) s) es a b

  abbrev bad : Coded → Bool
  bad d = ltb (first_place (unread objects ts d (s ! 1)) n) n

  abbrev met : Coded → List Edge
  met d = edges_met ts d (s ! 1) n

  from-whole : (d : Coded) → accepts (from (bad (plain_coded d)) (met (plain_coded d))).says ≡ true → from (bad (plain_coded d)) (met (plain_coded d)) ≡ from (bad d) (met d)
  unfolding edges_into
  from-whole d h = go (bad (plain_coded d)) refl h
    where
      go : (t : Bool) → bad (plain_coded d) ≡ t → accepts (cond (accepts s) (cond t (12 ∷ o ∷ []) (into_says (met (plain_coded d)) a b)) s) ≡ true
          → from (bad (plain_coded d)) (met (plain_coded d)) ≡ from (bad d) (met d)
      go true e q =
          let no_edges : accepts (12 ∷ o ∷ []) ≡ true = rw (by_span s (12 ∷ o ∷ []) q) at q in
          absurd (false≢true (sym (no_columns o) ∙ no_edges))
      go false e q =
          let all : n ≤ first_place (unread objects ts (plain_coded d) (s ! 1)) n = ltb-false _ _ e in
          let whole : bad d ≡ false = ap (λ (k : ℕ). ltb k n) (all_same objects ts d (s ! 1) n all) ∙ le-ltb n n (omega arith) in
          ap (λ (t : Bool). from t (met (plain_coded d))) e ∙ ap (from false) (edges-same objects ts d (s ! 1) n all) ∙ sym (ap (λ (t : Bool). from t (met d)) whole)

pub edges-whole : (c : Columns) (o a b : ℕ) → accepts (edges_found (leanly c) o a b).says ≡ true → edges_found (leanly c) o a b ≡ edges_found c o a b
unfolding edges_found edges_into
edges-whole c o a b h =
    let s = span_in (leanly c) o in
    let k = objects_in c in
    let d = c.labels in
    let same = span-whole c.offsets (length d.codes) (length c.targets) o (by_span s _ h) in
    from-whole k c.targets o a b s d h ∙ ap (λ (z : List ℕ). from k c.targets o a b z (bad k c.targets o a b z d) (met k c.targets o a b z d)) same
