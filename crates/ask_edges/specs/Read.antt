-- The reader over an object's own parts, and what a reader answers. Assumes nothing.
use Rattle.std.specs.Prelude.{ℕ, Option}
use Rattle.rules.specs.Questions.{Columns}
use Rattle.ask_span.specs.Reading.{span_part}
use Rattle.ask_span.specs.Graph.{span_in}
use Rattle.ask_reader.specs.declared.Step.{Step}
-- what stands at a position of two parts, and an edge with its label there
pub use Rattle.ask_reader.specs.Read.{stored, read_edge_says, with_label}
unfoldable pub use Rattle.ask_reader.specs.Read.{step_at, edge_back}

-- The reader over an object's own parts: those that `part_of` gives of targets and codes.
abbrev pub stands_in : Columns → ℕ → ℕ → Option Step
stands_in c o k = step_at (span_part (span_in c o) c.targets) (span_part (span_in c o) c.labels.codes) k
