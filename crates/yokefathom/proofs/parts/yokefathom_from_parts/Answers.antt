-- `yokefathom::parts::yokefathom_from_parts` meets its contract. Assumes nothing.
use Rattle.yokefathom.proofs.Left.{parts-told}
use Rattle.yokefathom.proofs.parts.yokefathom_from_parts.Goals as goal

pub returns : goal.returns
returns c = parts-told c.built.ensures c.from_parts-built.ensures
