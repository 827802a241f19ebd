-- `lookup_hints::find_hinted` meets its contract: a place that holds the id is the lookup's. Assumes nothing.
use Rattle.lookup.proofs.Search.{sought_at}
use Rattle.lookup_hints.proofs.find_hinted.Goals as goal

pub returns-then-ids-at : goal.returns-then-ids-at
returns-then-ids-at c = sought_at c.if-at-ids.true c.if-ids-at.true
