-- `ask_each_codes::first_code` meets its contract: each code before k says a field with another label, or an element. Assumes nothing.
use Rattle.columns.proofs.First.{Searching}
use Rattle.ask_field.specs.Sought.{stops}
use Rattle.ask_short.specs.Lean.{plain_of}
use Rattle.ask_each_codes.proofs.first_code.Given as goal

abbrev pub invariant-loop-k : goal.invariant-loop-k
invariant-loop-k l = Searching (stops (plain_of l.edge_codes l.fields) l.start l.label) l.count l.k
