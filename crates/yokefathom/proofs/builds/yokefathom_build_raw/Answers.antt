-- `yokefathom::builds::yokefathom_build_raw` meets its contract. Assumes nothing.
use Rattle.yokefathom.proofs.Left.{build_told}
use Rattle.yokefathom.proofs.builds.yokefathom_build_raw.Goals as goal

pub returns : goal.returns
returns c = build_told c.built.ensures c.build_raw-built.ensures
