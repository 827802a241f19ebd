-- On the columns of an accepted build, or of an accepted `from_parts`, the call leaves the object's edges, and 12 is never given. Assumes nothing.
use Prim.Native.Nat.{ℕ, ◌^◌, ◌<◌}
use mathlib.Core.Path.{◌≡◌, refl, ap, ◌∙◌}
use mathlib.Core.Bool.{Bool, true, false, cond}
use mathlib.Core.List.{List, [], ◌∷◌}
use lib.Dec.{eqb, ltb}
use lib.ListN.{length}
use Rattle.columns.specs.Lists.{◌!◌, any_of}
use Rattle.rules.specs.Input.{Input, Schema, object_count}
use Rattle.rules.specs.Edges.{Parts, Edge, edges_of, graph}
use Rattle.rules.specs.Needs.{objects_of}
use Rattle.rules.specs.Questions.{Columns, columns_of, edges_at, asked, reads_back, edges_read, into_says, EdgesLeft, edges_into, plain_edges, object_edges}
use Rattle.rules.proofs.Acceptance.{Passed}
use Rattle.rules.proofs.Asked.{edges_laid}
use Rattle.rules.proofs.Finished.{edges-asked}
use Rattle.rules.proofs.Meets.{Meets}
use Rattle.ask_span.specs.Graph.{strong}
use Rattle.ask_edges.specs.Object.{edges_found}
use Rattle.ask_edges.proofs.Found.{edges-left}

-- none of these answers is COLUMNS
never_12_edges : (n o : ℕ) (es : List Edge) (a b : ℕ) → eqb ((plain_edges n o es a b).says ! 0) 12 ≡ false
unfolding plain_edges edges_into into_says
never_12_edges n o es a b = go (ltb o n) (any_of (ltb a (length es) ∷ ltb b (length es) ∷ []))
  where
    go : (s t : Bool) → eqb (cond s (cond t (9 ∷ 23 ∷ []) (0 ∷ length es ∷ [])) (11 ∷ o ∷ []) ! 0) 12 ≡ false
    go true true = refl
    go true false = refl
    go false t = refl

-- Where the rules say the plain edges, the call leaves them.
found_plain : (c : Columns) (o n : ℕ) (es : List Edge) (a b : ℕ) → object_edges c o a b ≡ plain_edges n o es a b → edges_found c o a b ≡ plain_edges n o es a b
found_plain c o n es a b is = edges-left c o a b (ap (λ (x : EdgesLeft). eqb (x.says ! 0) 12) is ∙ never_12_edges n o es a b) ∙ is

-- Columns that meet PARTS, as `from_parts` codes them: the edges are those of the plain columns.
module _ (s : Schema) (p : Parts) (law : Meets s.names p) (few : length p.labels < 2 ^ 64) (o a b : ℕ) where
  pub edges-kept : edges_found (strong (columns_of s p)) o a b ≡ plain_edges (objects_of p) o (edges_at p o) a b
  unfolding object_edges asked reads_back edges_read
  edges-kept = found_plain (strong (columns_of s p)) o (objects_of p) (edges_at p o) a b (edges_laid s p law few o a b)

-- The columns of an accepted build: the object's edges, as the input gives them.
module _ (x : Input) (h : Passed x) (o a b : ℕ) where
  pub edges-built : edges_found (strong (columns_of x.schema (graph x))) o a b ≡ plain_edges (object_count x) o (edges_of x o) a b
  unfolding object_edges asked reads_back edges_read
  edges-built = found_plain (strong (columns_of x.schema (graph x))) o (object_count x) (edges_of x o) a b (edges-asked x h o a b)
