-- On the columns of an accepted build, or of an accepted `from_parts`, each call's answer is the same question on the edges, and 12 is never given. Assumes nothing.
use Prim.Native.Nat.{ℕ, suc, ◌^◌, ◌<◌}
use native.Mathlib.Omega.{arith}
use mathlib.Core.Path.{◌≡◌, refl, ap, ◌∙◌}
use mathlib.Core.Bool.{Bool, true, false, cond}
use mathlib.Core.List.{List, [], ◌∷◌, map}
use lib.Dec.{eqb, ltb}
use lib.ListN.{length}
use borrow.Author.Tests.{ltb-true}
use Rattle.columns.specs.Lists.{◌!◌}
use Rattle.columns.specs.Ranks.{rank}
use Rattle.rules.specs.Input.{Input, Schema, object_count}
use Rattle.rules.specs.Edges.{Parts, Edge, edges_of, offset, graph}
use Rattle.rules.specs.Needs.{objects_of}
use Rattle.rules.specs.Questions.{Columns, columns_of, edges_at, plainly, objects_in, Promised}
use Rattle.rules.proofs.Acceptance.{Passed}
use Rattle.rules.proofs.Asked.{objects-same, reads, edges-back, span-plain, count-plain, weak-plain}
use Rattle.rules.proofs.Finished.{labels_few, all_read, edges-read, span-asked, count-asked, weak-asked, never_12}
use Rattle.rules.proofs.Laid.{build_meets, objects_are}
use Rattle.rules.proofs.Meets.{Meets}
use Rattle.ask_span.specs.Reading.{count_of, weak_rows_of, span_part}
use Rattle.ask_span.specs.Graph.{span_in}
use Rattle.ask_span.proofs.Spans.{span_promised, count_promised, weak_promised, targets-read}

-- what is promised, of an answer that is not COLUMNS
pub built : {o : ℕ} {says answer plain : List ℕ} → Promised o says answer → answer ≡ plain → eqb (plain ! 0) 12 ≡ false → says ≡ plain
built p e f = p.answered (ap (λ (a : List ℕ). eqb (a ! 0) 12) e ∙ f) ∙ e

-- answers that are one where the object exists are one
pub plainly-same : (n o : ℕ) (a b : List ℕ) → (o < n → a ≡ b) → plainly n o a ≡ plainly n o b
plainly-same n o a b h = go (ltb o n) refl
  where
    go : (t : Bool) → ltb o n ≡ t → cond t a (11 ∷ o ∷ []) ≡ cond t b (11 ∷ o ∷ [])
    go true e = h (ltb-true o n e)
    go false e = refl

-- Columns that meet PARTS, as `from_parts` codes them: each call's answer is the same question on the plain columns.
module _ (s : Schema) (p : Parts) (law : Meets s.names p) (few : length p.labels < 2 ^ 64) (o : ℕ) where
  abbrev g : Columns
  g = columns_of s p

  abbrev m : ℕ
  m = objects_of p

  pub span-kept : span_in g o ≡ plainly m o (0 ∷ p.offsets ! o ∷ p.offsets ! suc o ∷ [])
  span-kept = built (span_promised g o) (span-plain s p law few o) (never_12 m o _)

  pub count_kept : count_of (span_in g o) ≡ plainly m o (0 ∷ length (edges_at p o) ∷ [])
  count_kept = built (count_promised g o) (count-plain s p law few o) (never_12 m o _)

  pub targets-kept : o < m → span_part (span_in g o) g.targets ≡ map (λ (e : Edge). e.target) (edges_at p o)
  targets-kept l =
      targets-read g o (omega (arith, objects-same s p law few)) (reads s p law few o l) ∙ ap (map (λ (e : Edge). e.target)) (edges-back s p law few o l)

  module _ (even : length p.weak_from ≡ length p.weak_to) where
    pub weak-kept : weak_rows_of (length g.offsets.short) g.weak_from g.weak_to o ≡ plainly m o (0 ∷ rank p.weak_from o ∷ rank p.weak_from (suc o) ∷ [])
    weak-kept = built (weak_promised g o) (weak-plain s p law few o even) (never_12 m o _)

-- The columns of an accepted build: the same question on the object's edges, as the input gives them.
module _ (x : Input) (h : Passed x) (o : ℕ) where
  abbrev c : Columns
  c = columns_of x.schema (graph x)

  abbrev n : ℕ
  n = object_count x

  objects-built : objects_in c ≡ n
  objects-built = objects-same x.schema (graph x) (build_meets x h) (labels_few x h) ∙ objects_are x

  pub span-built : span_in c o ≡ plainly n o (0 ∷ offset x o ∷ offset x (suc o) ∷ [])
  span-built = built (span_promised c o) (span-asked x h o) (never_12 n o _)

  pub count-built : count_of (span_in c o) ≡ plainly n o (0 ∷ length (edges_of x o) ∷ [])
  count-built = built (count_promised c o) (count-asked x h o) (never_12 n o _)

  pub targets-built : o < n → span_part (span_in c o) c.targets ≡ map (λ (e : Edge). e.target) (edges_of x o)
  targets-built l = targets-read c o (omega (arith, objects-built)) (all_read x h o l) ∙ ap (map (λ (e : Edge). e.target)) (edges-read x h o l)

  pub weak-built : weak_rows_of (length c.offsets.short) c.weak_from c.weak_to o ≡ plainly n o (0 ∷ rank (graph x).weak_from o ∷ rank (graph x).weak_from (suc o) ∷ [])
  weak-built = built (weak_promised c o) (weak-asked x h o) (never_12 n o _)
