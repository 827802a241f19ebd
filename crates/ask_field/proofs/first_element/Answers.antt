-- `ask_field::first_element` meets its contract: no edge before k is an element's. Assumes nothing.
use borrow.Author.Tests.{le-leb, lt-leb}
use Rattle.columns.proofs.First.{searching_start, searching_more}
use Rattle.ask_field.proofs.Placed.{placed-hit, placed_end}
use Rattle.ask_field.proofs.first_element.Goals as goal

pub loop-k-init : goal.loop-k-init
loop-k-init c = searching_start _ _

pub returns-then-edge_codes-edge-ge-ELEMENT : goal.returns-then-edge_codes-edge-ge-ELEMENT
returns-then-edge_codes-edge-ge-ELEMENT c = placed-hit _ _ c.loop-k.invariant c.loop-k-test.true (le-leb _ _ c.if-edge_codes-edge-ge-ELEMENT.true)

pub loop-k-preserved : goal.loop-k-preserved
loop-k-preserved c = searching_more _ _ c.loop-k.invariant c.loop-k-test.true (lt-leb _ _ c.if-edge_codes-edge-ge-ELEMENT.false)

pub returns : goal.returns
returns c = placed_end _ _ c.loop-k.invariant c.loop-k-test.false
