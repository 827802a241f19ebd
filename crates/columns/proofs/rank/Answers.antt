-- `columns::rank` meets its contract: on a column that rises, bisection ends at the rank. Assumes nothing.
use Rattle.columns.proofs.Ranks.{bisect-ranked}
use Rattle.columns.proofs.rank.Goals as goal

pub returns : goal.returns
returns g c = let b = c.bisect in bisect-ranked _ _ b.result b.ensures
