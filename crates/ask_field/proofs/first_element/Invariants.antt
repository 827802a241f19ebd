-- `ask_field::first_element` meets its contract: no edge before k is an element's. Assumes nothing.
use mathlib.Core.List.{[]}
use Rattle.columns.proofs.First.{Searching}
use Rattle.labels.specs.Reading.{coded_of}
use Rattle.ask_field.specs.Sought.{element_at}
use Rattle.ask_field.proofs.first_element.Given as goal

abbrev pub invariant-loop-k : goal.invariant-loop-k
invariant-loop-k l = Searching (element_at (coded_of l.edge_codes [] [] []) l.start) l.count l.k
