-- `yokefathom::holders::yokefathom_invert` meets its contract. Assumes nothing.
use Rattle.yokefathom.proofs.Left.{invert_told}
use Rattle.yokefathom.proofs.holders.yokefathom_invert.Goals as goal

pub returns : goal.returns
returns c = invert_told c.numbers.ensures (rw c.strong-graph.ensures at c.invert-found.ensures)
