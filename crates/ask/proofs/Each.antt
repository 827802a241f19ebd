-- ONE QUESTION FOR A LIST, JOINED TO THE BUILDS. Of what an accepted build left, and of what an accepted `from_parts` left, a field asked of each object of a list is the
-- same question on the plain edges, row by row, and 12 is never given. No premise but acceptance. Assumes nothing.
use Prim.Native.Nat.{ℕ, ◌≤◌, ◌<◌}
use mathlib.Core.Path.{◌≡◌, refl, ap, ◌∙◌}
use mathlib.Core.Logic.{◌⊎◌, inl, inr}
use mathlib.Core.Bool.{Bool, true, false, cond, false≢true}
use mathlib.Core.List.{List, [], ◌∷◌}
use mathlib.Core.Option.{Option, none, some}
use lib.Dec.{eqb, ltb}
use lib.ListN.{length}
use borrow.Author.Tests.{lt-ltb, le-ltb}
use Rattle.columns.specs.Lists.{◌!◌, any_of}
use Rattle.columns.specs.Columns.{accepts}
use Rattle.columns.proofs.Lists.{lt_or_ge}
use Rattle.rules.specs.Input.{Input, Schema, object_count}
use Rattle.rules.specs.Edges.{Parts, Edge, edges_of}
use Rattle.rules.specs.Needs.{Lent, Rooms, objects_of}
use Rattle.rules.specs.Built.{BuildLeft, build_left, used_columns, PartsLeft, parts_left, used_parts}
use Rattle.rules.specs.Questions.{Columns, coarse, first_edge, targets_of, field_in, edges_at, plainly}
use Rattle.rules.specs.Each.{found_said, EachLeft, first_refused, each_says, each_left}
use Rattle.rules.proofs.Finished.{never_12}
use Rattle.ask_span.specs.Graph.{strong}
use Rattle.ask_field.specs.Sought.{field_found}
use Rattle.ask_each.specs.Listed.{asks}
use Rattle.ask_each.proofs.Listed.{each_ext, row-accepts, row_target, row-found}
use Rattle.ask.specs.Each.{plain_field, EachAnswered}
use Rattle.ask.proofs.Joined.{build_answers, parts_answers}

-- what is found is one target or none
found-one : (es : List Edge) (l : ℕ) → found_said (0 ∷ field_in es l) ≡ length (field_in es l)
unfolding field_in
found-one es l = go (first_edge (λ e. eqb (coarse e.label) l) es)
  where
    go : (x : Option Edge) → found_said (0 ∷ targets_of x) ≡ length (targets_of x)
    go none = refl
    go (some e) = refl

-- The question on the plain edges, asked of a list.
module _ (n : ℕ) (es : ℕ → List Edge) (l : ℕ) (os : List ℕ) (a b : ℕ) where
  abbrev plain : EachLeft
  plain = each_left (plain_field n es l) os a b

  plain_12 : eqb (plain.says ! 0) 12 ≡ false
  unfolding each_left each_says
  plain_12 = go (any_of (ltb a (length os) ∷ ltb b (length os) ∷ [])) (ltb r (length os))
    where
      r : ℕ
      r = first_refused (plain_field n es l) os

      go : (t u : Bool) → eqb (cond t (9 ∷ 12 ∷ []) (cond u (plain_field n es l (os ! r) ! 0 ∷ r ∷ []) (0 ∷ length os ∷ [])) ! 0) 12 ≡ false
      go true u = refl
      go false true = never_12 n (os ! r) (field_in (es (os ! r)) l)
      go false false = refl

  module _ (ok : accepts plain.says ≡ true) (i : ℕ) (m : i < length os) where
    exists : os ! i < n
    unfolding accepts
    exists = go (lt_or_ge (os ! i) n)
      where
        go : (os ! i < n) ⊎ (n ≤ os ! i) → os ! i < n
        go (inl h) = h
        go (inr h) = absurd (false≢true (rw (le-ltb (os ! i) n h) at (row-accepts (plain_field n es l) os a b ok i m)))

    answer : plain_field n es l (os ! i) ≡ 0 ∷ field_in (es (os ! i)) l
    answer = rw (lt-ltb (os ! i) n exists)

    target : plain.targets ! i ≡ field_in (es (os ! i)) l ! 0
    target = row_target (plain_field n es l) os a b ok i m ∙ ap (λ (s : List ℕ). s ! 1) answer

    found : plain.found ! i ≡ length (field_in (es (os ! i)) l)
    found = row-found (plain_field n es l) os a b ok i m ∙ ap found_said answer ∙ found-one (es (os ! i)) l

  plain-answered : EachAnswered n es l os a b plain
  plain-answered = record { plain = refl; never_12 = plain_12; exists = exists; target = target; found = found }

answered : (c : Columns) (n : ℕ) (es : ℕ → List Edge) (l : ℕ) → ((o : ℕ) → field_found (strong c) o l ≡ plainly n o (0 ∷ field_in (es o) l)) → (os : List ℕ) (a b : ℕ) {e : EachLeft}
    → e ≡ each_left (asks (strong c) l) os a b → EachAnswered n es l os a b e
answered c n es l same os a b is = rw (is ∙ each_ext (asks (strong c) l) (plain_field n es l) same os a b) (plain-answered n es l os a b)

-- THE BUILD: left is what its contract says that the call left, and e what asking the list left over its used parts.
pub each-built : (x : Input) (r : Rooms) (left : BuildLeft) → left ≡ build_left x r → accepts left.says ≡ true → (l : ℕ) (os : List ℕ) (a b : ℕ) (e : EachLeft)
    → e ≡ each_left (asks (strong (used_columns (object_count x) left)) l) os a b → EachAnswered (object_count x) (edges_of x) l os a b e
each-built x r left built ok l os a b e is = answered (used_columns (object_count x) left) (object_count x) (edges_of x) l (λ o. (build_answers x r left built ok o).field l) os a b is

-- `from_parts` likewise.
pub each-parts : (s : Schema) (p : Parts) (lent : Lent) (left : PartsLeft) → left ≡ parts_left s p lent → accepts left.says ≡ true → (l : ℕ) (os : List ℕ) (a b : ℕ) (e : EachLeft)
    → e ≡ each_left (asks (strong (used_parts p left)) l) os a b → EachAnswered (objects_of p) (edges_at p) l os a b e
each-parts s p lent left handed ok l os a b e is = answered (used_parts p left) (objects_of p) (edges_at p) l (λ o. (parts_answers s p lent left handed ok o).field l) os a b is
