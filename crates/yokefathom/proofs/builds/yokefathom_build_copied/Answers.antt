-- `yokefathom::builds::yokefathom_build_copied` meets its contract. Assumes nothing.
use Rattle.yokefathom.proofs.Left.{build_told}
use Rattle.yokefathom.proofs.builds.yokefathom_build_copied.Goals as goal

pub returns : goal.returns
returns c = build_told c.built.ensures c.build_copied-built.ensures
