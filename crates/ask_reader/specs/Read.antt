-- What the reader of an object's edges answers, and an edge with its label where the reader stands. Assumes nothing.
use Rattle.std.specs.Prelude.{ℕ, cond, List, [], ◌∷◌, Option, None, Some, Result, Ok, Err, ltb, leb, length}
use Rattle.columns.specs.Lists.{◌!◌}
use Rattle.labels.specs.declared.Unread.{Unread}
use Rattle.labels.specs.Reading.{code_back}
use Rattle.ask_reader.specs.declared.Step.{Step}
use Rattle.ask_reader.specs.declared.ReadEdge.{ReadEdge}

-- an edge that stands there, with its target and its code
abbrev pub stored : ℕ → ℕ → Option Step
stored t c = Some (record { target = t; code = c })

-- What stands at a position of the two parts, where both have it; else the end. That is all that a reader says, whatever state it is made with.
unfoldable pub step_at : List ℕ → List ℕ → ℕ → Option Step
step_at ts cs at = cond (ltb at (length ts)) (cond (ltb at (length cs)) (stored (ts ! at) (cs ! at)) None) None

-- an edge that is read has its target and its exact label; one that cannot be read has nothing
abbrev pub read_edge_says : Result ReadEdge Unread → List ℕ
read_edge_says (Ok e) = e.target ∷ e.label.0 ∷ []
read_edge_says (Err u) = []

abbrev pub with_label : ℕ → List ℕ → List ℕ
with_label t [] = []
with_label t (l ∷ ls) = t ∷ l ∷ ls

-- "Its targets are objects, every 0x7FFF and 0xFFFF has its row .., and every other code a field or an index under 2,147,483,648": what stands there, by its
-- place and the index expected there.
unfoldable pub edge_back : ℕ → List ℕ → List ℕ → List ℕ → ℕ → ℕ → Option Step → List ℕ
edge_back objects fields escape_at escape_label place n (Some s) = cond (leb objects s.target) [] (with_label s.target (code_back fields escape_at escape_label place n s.code))
edge_back objects fields escape_at escape_label place n None = []
