-- The columns of a graph that a question is lent, of those that a clause names: `read` is `now`, `entry` or `exit`. Assumes nothing.
use Rattle.std.specs.Prelude.{ℕ, List, [], length}
use Rattle.store.specs.Blocked.{Blocked}
use Rattle.store_read.specs.Back.{blocked_in}
use Rattle.labels.specs.Reading.{coded_in}
use Rattle.rules.specs.Labels.{Coded}
use Rattle.rules.specs.Tables.{offset_columns}
use Rattle.rules.specs.Questions.{Columns}
use Rattle.ask_span.specs.Reading.{span_of}
use Rattle.ask_span.specs.declared.Strong.{Strong}
use Rattle.ask_span.specs.declared.Graph.{Graph}

abbrev pub graph_of : Blocked → List ℕ → Coded → List ℕ → List ℕ → Columns
graph_of offsets targets labels weak_from weak_to = record { offsets = offsets; targets = targets; labels = labels; weak_from = weak_from; weak_to = weak_to }

module _ {A : Type 0} (read : A → List ℕ) where
  abbrev pub code_columns : A → A → A → A → Coded
  code_columns codes fields escape_at escape_label =
      record { codes = read codes; fields = read fields; escape_at = read escape_at; escape_label = read escape_label }

  -- all columns, and those of the edges alone
  abbrev pub graph_columns : A → A → A → A → A → A → A → A → A → A → A → Columns
  graph_columns bases short long_at long_value codes targets fields escape_at escape_label weak_from weak_to =
      graph_of (offset_columns read bases short long_at long_value) (read targets) (code_columns codes fields escape_at escape_label)
      (read weak_from) (read weak_to)

  abbrev pub edge_columns : A → A → A → A → A → A → A → A → A → Columns
  edge_columns bases short long_at long_value codes targets fields escape_at escape_label =
      graph_of (offset_columns read bases short long_at long_value) (read targets) (code_columns codes fields escape_at escape_label) [] []

abbrev pub span_in : Columns → ℕ → List ℕ
span_in c o = span_of c.offsets (length c.labels.codes) (length c.targets) o

-- the columns that a question about edges is lent: all but the weak pairs
abbrev pub strong : Columns → Columns
strong c = graph_of c.offsets c.targets c.labels [] []

-- the columns of a value that is lent: all of them, and those of the edges alone
abbrev pub graph_in : Graph → Columns
graph_in g = graph_of (blocked_in g.offsets) g.targets.now (coded_in g.labels) g.weak_from.now g.weak_to.now

abbrev pub strong_in : Strong → Columns
strong_in s = graph_of (blocked_in s.offsets) s.targets.now (coded_in s.labels) [] []
