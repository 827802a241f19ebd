-- On the columns of an accepted build, or of an accepted `from_parts`, each call's answer is the same question on the edges, and 12 is never given. Assumes nothing.
use Prim.Native.Nat.{ℕ, ◌^◌, ◌<◌}
use mathlib.Core.Path.{◌≡◌}
use mathlib.Core.List.{◌∷◌}
use lib.ListN.{length}
use Rattle.rules.specs.Input.{Input, Schema, object_count}
use Rattle.rules.specs.Edges.{Parts, edges_of, weak_targets, graph}
use Rattle.rules.specs.Needs.{objects_of}
use Rattle.rules.specs.Questions.{columns_of, edges_at, weak_in, plainly, field_in, referent_in}
use Rattle.rules.proofs.Acceptance.{Passed}
use Rattle.rules.proofs.Asked.{field_plain, referent-plain}
use Rattle.rules.proofs.Finished.{field-asked, referent-asked, never_12}
use Rattle.rules.proofs.Meets.{Meets}
use Rattle.ask_span.specs.Graph.{strong}
use Rattle.ask_span.proofs.Built.{built}
use Rattle.ask_field.specs.Sought.{field_found, referent_found}
use Rattle.ask_field.proofs.Promises.{field_promised, referent_promised}

-- Columns that meet PARTS, as `from_parts` codes them: each call's answer is the same question on the plain columns.
module _ (s : Schema) (p : Parts) (law : Meets s.names p) (few : length p.labels < 2 ^ 64) (o : ℕ) where
  pub field-kept : (l : ℕ) → field_found (strong (columns_of s p)) o l ≡ plainly (objects_of p) o (0 ∷ field_in (edges_at p o) l)
  unfolding field_found
  field-kept l = built (field_promised (columns_of s p) o l) (field_plain s p law few o l) (never_12 (objects_of p) o _)

  module _ (even : length p.weak_from ≡ length p.weak_to) where
    pub referent-kept : (l : ℕ) → referent_found (columns_of s p) o l ≡ plainly (objects_of p) o (0 ∷ referent_in (edges_at p o) (weak_in p.weak_from p.weak_to o) l)
    referent-kept l = built (referent_promised (columns_of s p) o l) (referent-plain s p law few o even l) (never_12 (objects_of p) o _)

-- The columns of an accepted build: the same question on the object's edges, as the input gives them.
module _ (x : Input) (h : Passed x) (o : ℕ) where
  pub field-built : (l : ℕ) → field_found (strong (columns_of x.schema (graph x))) o l ≡ plainly (object_count x) o (0 ∷ field_in (edges_of x o) l)
  unfolding field_found
  field-built l = built (field_promised (columns_of x.schema (graph x)) o l) (field-asked x h o l) (never_12 (object_count x) o _)

  pub referent-built : (l : ℕ) → referent_found (columns_of x.schema (graph x)) o l ≡ plainly (object_count x) o (0 ∷ referent_in (edges_of x o) (weak_targets x o) l)
  referent-built l = built (referent_promised (columns_of x.schema (graph x)) o l) (referent-asked x h o l) (never_12 (object_count x) o _)
