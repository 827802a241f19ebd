-- The columns of an accepted build: every object reads back, so 12 is never given, and each question is the same question on the edges.
-- Assumes nothing.
use Prim.Native.Nat.{ℕ, zero, suc, ◌+◌, ◌^◌, ◌≤◌, ◌<◌}
use native.Mathlib.Nat.{not-suc-le-zero}
use native.Mathlib.Omega.{arith}
use native.Mathlib.Decide.{dec_lt}
use mathlib.Core.Path.{◌≡◌, refl, sym, ap, ap₂, ◌∙◌}
use mathlib.Core.Bool.{Bool, true, false, cond}
use mathlib.Core.List.{List, [], ◌∷◌, ◌++◌, append-nil, map}
use lib.Dec.{eqb, ltb}
use lib.ListN.{length, length-map}
use borrow.Author.Tests.{eq-eqb, ne_eqb, ltb-true}
use Rattle.columns.specs.Lists.{◌!◌, collect, sum, one}
use Rattle.columns.specs.Ranks.{rank}
use Rattle.rules.specs.Input.{Input, object_count}
use Rattle.rules.specs.Edges.{Edge, edges_of, weak_targets, offset, pairs_of, weak_pairs, graph}
use Rattle.rules.specs.Needs.{objects_of}
use Rattle.rules.specs.Demand.{held, lost}
use Rattle.rules.specs.Questions.{Columns, columns_of, edges_at, edges_read, reads_back, weak_reads, weak_read, weak_in, plainly, exact_in, coarse_in, label_in}
use Rattle.rules.specs.Questions.{field_in, smallest, or_smallest, referent_in, span, edge_count, exact_of, coarse_of, label_of, field, weak_referents}
use Rattle.rules.specs.Questions.{referent, label_at, into_says, edges_into, plain_edges, object_edges}
use Rattle.rules.proofs.Acceptance.{Passed}
use Rattle.rules.proofs.Demand.{offset_at_lem, held-edges, weak-of}
use Rattle.rules.proofs.Passes.{edges_few}
use Rattle.rules.proofs.Weak.{mine, mine-append, mine-own, smallest-sort}
use Rattle.rules.proofs.Laid.{build_meets, objects_are, edges-plain}
use Rattle.rules.proofs.Asked.{reads, edges-back, weak_reads_lem, weak-back, span-plain, count-plain, exact_plain, coarse-plain, label-plain, field_plain}
use Rattle.rules.proofs.Asked.{weak-plain, referent-plain, plain_exists, edges-same, edges_laid}

module _ (x : Input) where
  abbrev n : ℕ
  n = object_count x

  -- the pairs of the objects before n: none of o's where o is not before n, else o's weak targets
  mine-before : (o n : ℕ) → n ≤ o → mine o (collect (pairs_of x) n) ≡ []
  mine-before o zero h = refl
  mine-before o (suc n) h =
      mine-append o (collect (pairs_of x) n) (pairs_of x n)
      ∙ ap₂ ◌++◌ (mine-before o n (omega arith))
      (mine-own o n (weak_targets x n) ∙ ap (λ (b : Bool). cond b (weak_targets x n) []) (ne_eqb n o (λ e. omega arith)))

  pub mine_all : (o n : ℕ) → o < n → mine o (collect (pairs_of x) n) ≡ weak_targets x o
  mine_all o zero h = absurd (not-suc-le-zero h)
  mine_all o (suc n) h = mine-append o (collect (pairs_of x) n) (pairs_of x n) ∙ go (dec_lt o n) (mine_all o n)
    where
      go : Dec (o < n) → (o < n → mine o (collect (pairs_of x) n) ≡ weak_targets x o) → mine o (collect (pairs_of x) n) ++ mine o (pairs_of x n) ≡ weak_targets x o
      go (yes l) ih = ap₂ ◌++◌ (ih l) (mine-own o n (weak_targets x n) ∙ ap (λ (b : Bool). cond b (weak_targets x n) []) (ne_eqb n o (λ e. omega arith)))
          ∙ append-nil (weak_targets x o)
      go (no l) ih =
          let e : n ≡ o = omega arith in
          ap₂ ◌++◌ (mine-before o n (omega arith)) (mine-own o n (weak_targets x n) ∙ ap (λ (b : Bool). cond b (weak_targets x n) []) (eq-eqb n o e))
          ∙ ap (weak_targets x) e

  -- The smallest weak target of o in the columns is the smallest of its weak targets.
  weak-smallest : (o : ℕ) → o < n → smallest (weak_in (graph x).weak_from (graph x).weak_to o) ≡ smallest (weak_targets x o)
  unfolding graph weak_pairs
  weak-smallest o l = smallest-sort o (collect (pairs_of x) n) ∙ ap smallest (mine_all o n l)

  pub weak-even : length (graph x).weak_from ≡ length (graph x).weak_to
  unfolding graph
  weak-even = length-map (weak_pairs x) _ ∙ sym (length-map (weak_pairs x) _)

  module _ (h : Passed x) where
    pub labels_few : length (graph x).labels < 2 ^ 64
    labels_few = omega (arith, edges_few x h, (build_meets x h).counted)

    abbrev c : Columns
    c = columns_of x.schema (graph x)

    -- "On columns that an accepted build left, 12 is never given": every object reads back, and so do the weak pairs.
    pub all_read : (o : ℕ) → o < n → reads_back c o ≡ true
    all_read o l = reads x.schema (graph x) (build_meets x h) labels_few o (omega (arith, objects_are x))

    pub all_weak_read : weak_reads c ≡ true
    all_weak_read = weak_reads_lem x.schema (graph x) (build_meets x h) labels_few weak-even

    -- The edges read through the coded offsets and labels are the object's edges.
    pub edges-read : (o : ℕ) → o < n → edges_read c o ≡ edges_of x o
    edges-read o l = edges-back x.schema (graph x) (build_meets x h) labels_few o (omega (arith, objects_are x)) ∙ edges-plain x o l

    -- Demand 3 on the finished columns: what an object holds is the edges read, its weak pairs, and the ids that no object has.
    pub demand_read : (o : ℕ) → o < n → held x o ≡ length (edges_read c o) + sum (λ i. one (eqb i o)) c.weak_from + lost x o
    unfolding columns_of
    demand_read o l = rw (edges-read o l, weak-of x o l) (held-edges x h o l)

    -- an answer on the plain columns is one on the edges
    plain-edges : (o : ℕ) (f : List Edge → List ℕ) → plainly (objects_of (graph x)) o (f (edges_at (graph x) o)) ≡ plainly n o (f (edges_of x o))
    plain-edges o f = rw (objects_are x) (go (ltb o n) refl)
      where
        go : (b : Bool) → ltb o n ≡ b → cond b (f (edges_at (graph x) o)) (11 ∷ o ∷ []) ≡ cond b (f (edges_of x o)) (11 ∷ o ∷ [])
        go true e = ap f (edges-plain x o (ltb-true o n e))
        go false e = refl

    module _ (o : ℕ) where
      pub span-asked : span c o ≡ plainly n o (0 ∷ offset x o ∷ offset x (suc o) ∷ [])
      span-asked = span-plain x.schema (graph x) (build_meets x h) labels_few o ∙ rw (objects_are x) (go (ltb o n) refl)
        where
          go : (b : Bool) → ltb o n ≡ b
              → cond b (0 ∷ (graph x).offsets ! o ∷ (graph x).offsets ! suc o ∷ []) (11 ∷ o ∷ []) ≡ cond b (0 ∷ offset x o ∷ offset x (suc o) ∷ []) (11 ∷ o ∷ [])
          go true e = let l : o < n = ltb-true o n e in rw (offset_at_lem x o (omega arith), offset_at_lem x (suc o) l)
          go false e = refl

      pub count-asked : edge_count c o ≡ plainly n o (0 ∷ length (edges_of x o) ∷ [])
      count-asked = count-plain x.schema (graph x) (build_meets x h) labels_few o ∙ plain-edges o (λ es. 0 ∷ length es ∷ [])

      pub exact_asked : (k : ℕ) → exact_of c o k ≡ plainly n o (exact_in (edges_of x o) k)
      exact_asked k = exact_plain x.schema (graph x) (build_meets x h) labels_few o k ∙ plain-edges o (λ es. exact_in es k)

      pub coarse-asked : (k : ℕ) → coarse_of c o k ≡ plainly n o (coarse_in (edges_of x o) k)
      coarse-asked k = coarse-plain x.schema (graph x) (build_meets x h) labels_few o k ∙ plain-edges o (λ es. coarse_in es k)

      pub label-asked : (t : ℕ) → label_of c o t ≡ plainly n o (0 ∷ label_in (edges_of x o) t)
      label-asked t = label-plain x.schema (graph x) (build_meets x h) labels_few o t ∙ plain-edges o (λ es. 0 ∷ label_in es t)

      pub field-asked : (l : ℕ) → field c o l ≡ plainly n o (0 ∷ field_in (edges_of x o) l)
      field-asked l = field_plain x.schema (graph x) (build_meets x h) labels_few o l ∙ plain-edges o (λ es. 0 ∷ field_in es l)

      pub edges-asked : (a b : ℕ) → object_edges c o a b ≡ plain_edges n o (edges_of x o) a b
      unfolding plain_edges
      edges-asked a b =
          edges_laid x.schema (graph x) (build_meets x h) labels_few o a b
          ∙ ap (λ (says : List ℕ). edges_into says (edges_at (graph x) o) a b) (plain-edges o (λ es. into_says es a b))
          ∙ edges-same (plainly n o (into_says (edges_of x o) a b)) (edges_at (graph x) o) (edges_of x o) a b (λ t. edges-plain x o (plain_exists n o _ t))

      -- The rows answered hold the targets of o's weak pairs.
      pub weak-asked : weak_referents c o ≡ plainly n o (0 ∷ rank (graph x).weak_from o ∷ rank (graph x).weak_from (suc o) ∷ [])
      weak-asked =
          weak-plain x.schema (graph x) (build_meets x h) labels_few o weak-even
          ∙ ap (λ (m : ℕ). plainly m o (0 ∷ rank (graph x).weak_from o ∷ rank (graph x).weak_from (suc o) ∷ [])) (objects_are x)

      pub weak-rows : weak_read c o ≡ weak_in (graph x).weak_from (graph x).weak_to o
      weak-rows = weak-back x.schema (graph x) (build_meets x h) labels_few weak-even o

      -- "`referent` tries the field, then the smallest weak target": the smallest of all that the input's weak slots hold.
      pub referent-asked : (l : ℕ) → referent c o l ≡ plainly n o (0 ∷ referent_in (edges_of x o) (weak_targets x o) l)
      referent-asked l =
          referent-plain x.schema (graph x) (build_meets x h) labels_few o weak-even l
          ∙ plain-edges o (λ es. 0 ∷ referent_in es (weak_in (graph x).weak_from (graph x).weak_to o) l) ∙ go (ltb o n) refl
        where
          same : (ts vs ws : List ℕ) → smallest vs ≡ smallest ws → or_smallest ts vs ≡ or_smallest ts ws
          same [] vs ws e = e
          same (t ∷ ts) vs ws e = refl

          go : (b : Bool) → ltb o n ≡ b
              → cond b (0 ∷ referent_in (edges_of x o) (weak_in (graph x).weak_from (graph x).weak_to o) l) (11 ∷ o ∷ [])
              ≡ cond b (0 ∷ referent_in (edges_of x o) (weak_targets x o) l) (11 ∷ o ∷ [])
          go true e = ap (λ (ts : List ℕ). 0 ∷ ts) (same (field_in (edges_of x o) l) _ _ (weak-smallest o (ltb-true o n e)))
          go false e = refl

-- None of these answers is COLUMNS.
pub never_12 : (n o : ℕ) (values : List ℕ) → eqb (plainly n o (0 ∷ values) ! 0) 12 ≡ false
never_12 n o values = go (ltb o n)
  where
    go : (b : Bool) → eqb (cond b (0 ∷ values) (11 ∷ o ∷ []) ! 0) 12 ≡ false
    go true = refl
    go false = refl

pub never_12_edge : (n o k : ℕ) (f : ℕ → ℕ) (es : List Edge) → eqb (plainly n o (label_at f es k) ! 0) 12 ≡ false
unfolding label_at
never_12_edge n o k f es = go (ltb o n) (ltb k (length es))
  where
    go : (a b : Bool) → eqb (cond a (cond b (0 ∷ f (map (λ (e : Edge). e.label) es ! k) ∷ []) (11 ∷ k ∷ [])) (11 ∷ o ∷ []) ! 0) 12 ≡ false
    go true true = refl
    go true false = refl
    go false b = refl
