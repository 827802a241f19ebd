-- What the questions about the labels of edges answer, from the columns that they read. Assumes nothing.
use Rattle.std.specs.Prelude.{ℕ, ◌+◌, ◌-◌, ◌≤◌, ◌<◌, ◌≡◌, ◌⊎◌, true, false, cond, List, [], ◌∷◌}
use Rattle.columns.specs.Lists.{◌!◌, first_place}
use Rattle.columns.specs.Columns.{accepts}
use Rattle.rules.specs.Questions.{Columns}
use Rattle.labels.specs.Reading.{coarse_back, exact_back}
use Rattle.ask_span.specs.Graph.{span_in}
-- whether there is such an edge, and whether it goes to a target; a label that was read, or COLUMNS
pub use Rattle.ask_edge.specs.Edge.{or_columns, goes_to}
unfoldable pub use Rattle.ask_edge.specs.Edge.{edge_asked}
-- the label of edge k, read from the nearest escaped element at or before it, or from the first edge
unfoldable pub use Rattle.ask_late.specs.Late.{late_back}

-- the label of an edge, where there is such an edge
unfoldable pub labelled : List ℕ → List ℕ → ℕ → List ℕ
labelled says label o = cond (accepts says) (or_columns o label) says

-- The coarse label of edge k: its code alone says it.
unfoldable pub coarse_at : Columns → ℕ → ℕ → List ℕ
coarse_at c o k = labelled (edge_asked (span_in c o) k) (coarse_back c.labels (span_in c o ! 1 + k)) o

-- What is answered of an edge that exists, by its label read from the object's first edge and its label read from the nearest escape. Where the first way
-- gives a label, that label. Where it gives none, COLUMNS at the object, or what the second way gives. That is the only room. Both ways meet this contract
-- (`forward_met`, `late_met`); the calls go the second (M-106).
pub record Labelled (o : ℕ) (forward late says : List ℕ) : Type 0 where
  pub read : (l : ℕ) (ls : List ℕ) → forward ≡ l ∷ ls → says ≡ 0 ∷ l ∷ []
  pub unread : forward ≡ [] → (says ≡ 12 ∷ o ∷ []) ⊎ (says ≡ or_columns o late)

-- the same of edge k of object o
abbrev pub LabelledAt : Columns → ℕ → ℕ → List ℕ → Type 0
LabelledAt c o k says = Labelled o (exact_back c.labels (span_in c o ! 1) k) (late_back c.labels (span_in c o ! 1) k) says

-- The exact label of edge k, on all columns: INDEX or COLUMNS where the edge's place is refused, else the label.
pub record ExactAt (c : Columns) (o k : ℕ) (says : List ℕ) : Type 0 where
  pub refused : accepts (edge_asked (span_in c o) k) ≡ false → says ≡ edge_asked (span_in c o) k
  pub exists : accepts (edge_asked (span_in c o) k) ≡ true → LabelledAt c o k says

-- how many edges object o has, and the first of them that goes to t, or their number where none does
abbrev pub span_edges : Columns → ℕ → ℕ
span_edges c o = span_in c o ! 2 - span_in c o ! 1

abbrev pub first_to : Columns → ℕ → ℕ → ℕ
first_to c o t = first_place (goes_to c.targets (span_in c o ! 1) t) (span_edges c o)

-- "`label_of` gives the exact label of the first edge to a target", on all columns: the refusal of the span; nothing where no edge goes to the target; else
-- the label.
pub record LabelTo (c : Columns) (o t : ℕ) (says : List ℕ) : Type 0 where
  pub refused : accepts (span_in c o) ≡ false → says ≡ span_in c o
  pub nothing : accepts (span_in c o) ≡ true → span_edges c o ≤ first_to c o t → says ≡ 0 ∷ []
  pub exists : accepts (span_in c o) ≡ true → first_to c o t < span_edges c o → LabelledAt c o (first_to c o t) says
