-- Which case of `label_found` holds. Assumes nothing.
use Prim.Native.Nat.{ℕ, ◌-◌, ◌≤◌, ◌<◌}
use mathlib.Core.Path.{◌≡◌, sym, ap, ◌∙◌}
use mathlib.Core.Bool.{false}
use mathlib.Core.List.{List, [], ◌∷◌}
use borrow.Author.Tests.{lt-ltb, le-ltb}
use Rattle.columns.specs.Lists.{first_place}
use Rattle.columns.specs.Columns.{accepts}
use Rattle.rules.specs.Questions.{Columns}
use Rattle.labels.specs.Reading.{exact_back}
use Rattle.ask_span.specs.Graph.{span_in}
use Rattle.ask_label.specs.Labelled.{goes_to, or_columns}
use Rattle.ask_short.specs.Lean.{label_found}

module _ (c : Columns) (o t : ℕ) where
  -- of an object whose edges are from a up to b, j being the first to the target
  module _ {a b : ℕ} (at-ab : span_in c o ≡ 0 ∷ a ∷ b ∷ []) {j : ℕ} (is : j ≡ first_place (goes_to c.targets a t) (b - a)) where
    pub nothing-found : b - a ≤ j → 0 ∷ [] ≡ label_found c o t
    unfolding label_found accepts
    nothing-found l = rw (at-ab, ← is, le-ltb j (b - a) l)

    pub label-found : {says ls : List ℕ} → j < b - a → ls ≡ exact_back c.labels a j → says ≡ or_columns o ls → says ≡ label_found c o t
    unfolding label_found accepts
    label-found {says} {ls} l r s = s ∙ ap (or_columns o) r ∙ rw (at-ab, ← is, lt-ltb j (b - a) l)

  pub refused_found : {says : List ℕ} → says ≡ span_in c o → accepts says ≡ false → says ≡ label_found c o t
  unfolding label_found
  refused_found {says} e f = let z : accepts (span_in c o) ≡ false = ap accepts (sym e) ∙ f in rw z e
