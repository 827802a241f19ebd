-- On the columns of an accepted build: an answer by the short columns that is no refusal is the same question on the object's edges. Assumes nothing.
use Prim.Native.Nat.{ℕ, suc}
use mathlib.Core.Path.{◌≡◌, ◌∙◌}
use mathlib.Core.Bool.{true}
use mathlib.Core.List.{[], ◌∷◌}
use lib.ListN.{length}
use Rattle.columns.specs.Columns.{accepts}
use Rattle.rules.specs.Input.{Input, object_count}
use Rattle.rules.specs.Edges.{edges_of, offset, graph}
use Rattle.rules.specs.Questions.{Columns, columns_of, plainly, label_in}
use Rattle.rules.proofs.Acceptance.{Passed}
use Rattle.ask_span.specs.Reading.{span_of}
use Rattle.ask_label.specs.Labelled.{LabelTo}
use Rattle.ask_span.specs.Graph.{strong}
use Rattle.ask_span.proofs.Built.{span-built}
use Rattle.ask_label.proofs.Labels.{toward-met}
use Rattle.ask_label.proofs.Built.{label-built}
use Rattle.ask_short.specs.Lean.{shortly, leanly, label_found}
use Rattle.ask_short.proofs.Whole.{span-whole, label-whole}

-- `label_found` is one way to meet the contract of `label_of`.
pub label-met : (c : Columns) (o t : ℕ) → LabelTo c o t (label_found c o t)
unfolding label_found
label-met c o t = toward-met c o t

module _ (x : Input) (h : Passed x) (o : ℕ) where
  abbrev c : Columns
  c = columns_of x.schema (graph x)

  abbrev n : ℕ
  n = object_count x

  pub span_lean : accepts (span_of (shortly c.offsets) (length c.labels.codes) (length c.targets) o) ≡ true
      → span_of (shortly c.offsets) (length c.labels.codes) (length c.targets) o ≡ plainly n o (0 ∷ offset x o ∷ offset x (suc o) ∷ [])
  span_lean a = span-whole c.offsets (length c.labels.codes) (length c.targets) o a ∙ span-built x h o

  pub label_lean : (t : ℕ) → accepts (label_found (leanly (strong c)) o t) ≡ true → label_found (leanly (strong c)) o t ≡ plainly n o (0 ∷ label_in (edges_of x o) t)
  label_lean t a = label-whole (strong c) o t a ∙ label-built x h o t (label-met (strong c) o t)
