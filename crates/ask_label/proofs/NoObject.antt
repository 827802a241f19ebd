-- Asked a target that is no object, on the columns of an accepted build, or of an accepted `from_parts`: `label_of` answers nothing. Assumes nothing.
use Prim.Native.Nat.{ℕ, ◌+◌, ◌^◌, ◌≤◌, ◌<◌}
use native.Mathlib.Omega.{arith}
use mathlib.Core.Path.{◌≡◌, sym, ap, ◌∙◌}
use mathlib.Core.Bool.{false}
use mathlib.Core.List.{List, [], ◌∷◌}
use lib.Dec.{eqb}
use lib.ListN.{length}
use borrow.Author.Tests.{ne_eqb}
use Rattle.columns.specs.Lists.{◌!◌}
use Rattle.columns.proofs.Every.{every-tab}
use Rattle.rules.specs.Input.{Input, Schema, object_count}
use Rattle.rules.specs.Edges.{Parts, Edge, edges_of, graph}
use Rattle.rules.specs.Needs.{objects_of}
use Rattle.rules.specs.Parts.{degree}
use Rattle.rules.specs.Questions.{columns_of, edges_at, plainly, labels_of, label_in}
use Rattle.rules.proofs.Acceptance.{Passed}
use Rattle.rules.proofs.Codes.{edge_in}
use Rattle.rules.proofs.Laid.{build_meets, objects_are, edges-plain}
use Rattle.rules.proofs.Meets.{Meets}
use Rattle.ask_span.specs.Graph.{strong}
use Rattle.ask_span.proofs.Built.{plainly-same}
use Rattle.ask_span.proofs.FirstEdge.{none_passes}
use Rattle.ask_label.specs.Labelled.{LabelTo}
use Rattle.ask_label.proofs.Built.{label_kept, label-built}

-- No edge of columns that meet PARTS goes to what is no object.
none_outside : (names : ℕ) (p : Parts) → Meets names p → (o t : ℕ) → o < objects_of p → objects_of p ≤ t → label_in (edges_at p o) t ≡ []
unfolding label_in edges_at
none_outside names p law o t l out =
    ap labels_of (none_passes (λ (e : Edge). eqb e.target t) (edges_at p o)
    (every-tab (λ (e : Edge). eqb e.target t ≡ false) _ (degree p.offsets o) (λ k m. ne_eqb (p.targets ! (p.offsets ! o + k)) t (differs k m))))
  where
    differs : (k : ℕ) → k < degree p.offsets o → p.targets ! (p.offsets ! o + k) ≡ t → ⊥
    differs k m e = omega (arith, law.targets (p.offsets ! o + k) (omega (arith, edge_in names p law o k l m, law.counted)))

-- "A target that is no object is not found": of columns that meet PARTS, as `from_parts` codes them, and of every accepted build.
pub label_outside_kept : (s : Schema) (p : Parts) → Meets s.names p → length p.labels < 2 ^ 64 → (o t : ℕ) → objects_of p ≤ t → {says : List ℕ}
    → LabelTo (strong (columns_of s p)) o t says → says ≡ plainly (objects_of p) o (0 ∷ [])
label_outside_kept s p law few o t out w =
    label_kept s p law few o t w
    ∙ plainly-same (objects_of p) o (0 ∷ label_in (edges_at p o) t) (0 ∷ []) (λ l. ap (λ (ls : List ℕ). 0 ∷ ls) (none_outside s.names p law o t l out))

pub label_outside_built : (x : Input) → Passed x → (o t : ℕ) → object_count x ≤ t → {says : List ℕ}
    → LabelTo (strong (columns_of x.schema (graph x))) o t says → says ≡ plainly (object_count x) o (0 ∷ [])
label_outside_built x h o t out w =
    label-built x h o t w
    ∙ plainly-same (object_count x) o (0 ∷ label_in (edges_of x o) t) (0 ∷ [])
    (λ l. ap (λ (ls : List ℕ). 0 ∷ ls) (ap (λ (es : List Edge). label_in es t) (sym (edges-plain x o l))
    ∙ none_outside x.schema.names (graph x) (build_meets x h) o t (omega (arith, objects_are x)) (omega (arith, objects_are x))))
