-- `ask_field::first_label` meets its contract: each edge before k reads, and has another label. Assumes nothing.
use Rattle.columns.proofs.First.{Searching}
use Rattle.ask_field.specs.Sought.{Rows, with_rows, Reads, stops}
use Rattle.ask_field.proofs.first_label.Given as goal

abbrev pub invariant-loop-k : goal.invariant-loop-k
invariant-loop-k g l = (rows : Rows) → Reads (goal.R-post g l.read) l.edge_codes l.fields rows → Searching (stops (with_rows l.edge_codes l.fields rows) l.start l.label) l.count l.k
