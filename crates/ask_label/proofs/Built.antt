-- On the columns of an accepted build, or of an accepted `from_parts`, each call's answer is the same question on the edges, and 12 is never given. Assumes nothing.
use Prim.Native.Nat.{ℕ, ◌^◌, ◌<◌}
use mathlib.Core.Path.{◌≡◌, sym, ◌∙◌}
use mathlib.Core.List.{List, ◌∷◌}
use lib.ListN.{length}
use Rattle.rules.specs.Input.{Input, Schema, object_count}
use Rattle.rules.specs.Edges.{Parts, edges_of, graph}
use Rattle.rules.specs.Needs.{objects_of}
use Rattle.rules.specs.Questions.{columns_of, edges_at, coarse, asked, plainly, reads_back, edges_read, coarse_in, exact_in, label_in, exact_of, label_of}
use Rattle.rules.proofs.Acceptance.{Passed}
use Rattle.rules.proofs.Asked.{coarse-plain, exact_plain, label-plain}
use Rattle.rules.proofs.Finished.{coarse-asked, exact_asked, label-asked, never_12, never_12_edge}
use Rattle.rules.proofs.Meets.{Meets}
use Rattle.ask_span.specs.Graph.{strong}
use Rattle.ask_span.proofs.Built.{built}
use Rattle.ask_label.specs.Labelled.{coarse_at, ExactAt, LabelTo}
use Rattle.ask_label.proofs.Labels.{coarse_promised, exact_promised, label_promised}

-- Columns that meet PARTS, as `from_parts` codes them: each call's answer is the same question on the plain columns.
module _ (s : Schema) (p : Parts) (law : Meets s.names p) (few : length p.labels < 2 ^ 64) (o : ℕ) where
  pub coarse-kept : (k : ℕ) → coarse_at (strong (columns_of s p)) o k ≡ plainly (objects_of p) o (coarse_in (edges_at p o) k)
  unfolding coarse_at
  coarse-kept k = built (coarse_promised (columns_of s p) o k) (coarse-plain s p law few o k) (never_12_edge (objects_of p) o k coarse (edges_at p o))

  pub exact_kept : (k : ℕ) {says : List ℕ} → ExactAt (strong (columns_of s p)) o k says → says ≡ plainly (objects_of p) o (exact_in (edges_at p o) k)
  unfolding exact_of asked reads_back edges_read
  exact_kept k w = built (exact_promised (strong (columns_of s p)) o k w) (exact_plain s p law few o k) (never_12_edge (objects_of p) o k (λ l. l) (edges_at p o))

  pub label_kept : (t : ℕ) {says : List ℕ} → LabelTo (strong (columns_of s p)) o t says → says ≡ plainly (objects_of p) o (0 ∷ label_in (edges_at p o) t)
  unfolding label_of asked reads_back edges_read
  label_kept t w = built (label_promised (strong (columns_of s p)) o t w) (label-plain s p law few o t) (never_12 (objects_of p) o _)

  -- So whichever way a late label is read (`Labelled`), no caller can see it: two calls that meet the contract give the same answer.
  pub exact_same_kept : (k : ℕ) {says other : List ℕ} → ExactAt (strong (columns_of s p)) o k says → ExactAt (strong (columns_of s p)) o k other → says ≡ other
  exact_same_kept k w v = exact_kept k w ∙ sym (exact_kept k v)

  pub label-same-kept : (t : ℕ) {says other : List ℕ} → LabelTo (strong (columns_of s p)) o t says → LabelTo (strong (columns_of s p)) o t other → says ≡ other
  label-same-kept t w v = label_kept t w ∙ sym (label_kept t v)

-- The columns of an accepted build: the same question on the object's edges, as the input gives them.
module _ (x : Input) (h : Passed x) (o : ℕ) where
  pub coarse-built : (k : ℕ) → coarse_at (strong (columns_of x.schema (graph x))) o k ≡ plainly (object_count x) o (coarse_in (edges_of x o) k)
  unfolding coarse_at
  coarse-built k = built (coarse_promised (columns_of x.schema (graph x)) o k) (coarse-asked x h o k) (never_12_edge (object_count x) o k coarse (edges_of x o))

  pub exact_built : (k : ℕ) {says : List ℕ} → ExactAt (strong (columns_of x.schema (graph x))) o k says → says ≡ plainly (object_count x) o (exact_in (edges_of x o) k)
  unfolding exact_of asked reads_back edges_read
  exact_built k w = built (exact_promised (strong (columns_of x.schema (graph x))) o k w) (exact_asked x h o k) (never_12_edge (object_count x) o k (λ l. l) (edges_of x o))

  pub label-built : (t : ℕ) {says : List ℕ} → LabelTo (strong (columns_of x.schema (graph x))) o t says → says ≡ plainly (object_count x) o (0 ∷ label_in (edges_of x o) t)
  unfolding label_of asked reads_back edges_read
  label-built t w = built (label_promised (strong (columns_of x.schema (graph x))) o t w) (label-asked x h o t) (never_12 (object_count x) o _)

  -- the same here
  pub exact_same : (k : ℕ) {says other : List ℕ} → ExactAt (strong (columns_of x.schema (graph x))) o k says → ExactAt (strong (columns_of x.schema (graph x))) o k other → says ≡ other
  exact_same k w v = exact_built k w ∙ sym (exact_built k v)

  pub label_same : (t : ℕ) {says other : List ℕ} → LabelTo (strong (columns_of x.schema (graph x))) o t says → LabelTo (strong (columns_of x.schema (graph x))) o t other → says ≡ other
  label_same t w v = label-built t w ∙ sym (label-built t v)
