-- On the columns of an accepted build: an answer for a field by the short columns that is no refusal is the same question on the object's edges. Assumes nothing.
use Prim.Native.Nat.{ℕ}
use mathlib.Core.Path.{◌≡◌, ◌∙◌}
use mathlib.Core.Bool.{true}
use mathlib.Core.List.{◌∷◌}
use Rattle.columns.specs.Columns.{accepts}
use Rattle.rules.specs.Input.{Input, object_count}
use Rattle.rules.specs.Edges.{edges_of, weak_targets, graph}
use Rattle.rules.specs.Questions.{Columns, columns_of, plainly, field_in, referent_in}
use Rattle.rules.proofs.Acceptance.{Passed}
use Rattle.ask_field.specs.Sought.{field_found, referent_found}
use Rattle.ask_span.specs.Graph.{strong}
use Rattle.ask_field.proofs.Built.{field-built, referent-built}
use Rattle.ask_short.specs.Lean.{leanly}
use Rattle.ask_short_field.proofs.Whole.{field-whole, referent-whole}

module _ (x : Input) (h : Passed x) (o : ℕ) where
  abbrev c : Columns
  c = columns_of x.schema (graph x)

  abbrev n : ℕ
  n = object_count x

  pub field_lean : (l : ℕ) → accepts (field_found (leanly (strong c)) o l) ≡ true → field_found (leanly (strong c)) o l ≡ plainly n o (0 ∷ field_in (edges_of x o) l)
  field_lean l a = field-whole (strong c) o l a ∙ field-built x h o l

  pub referent_lean : (l : ℕ) → accepts (referent_found (leanly c) o l) ≡ true → referent_found (leanly c) o l ≡ plainly n o (0 ∷ referent_in (edges_of x o) (weak_targets x o) l)
  referent_lean l a = referent-whole c o l a ∙ referent-built x h o l
