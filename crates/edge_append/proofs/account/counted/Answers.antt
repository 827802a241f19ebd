-- `edge_append::account::counted` meets its contract: a row at a time. Assumes nothing.
use Rattle.edge_append.specs.Account.{account_after}
use Rattle.edge_append.proofs.Tallies.{rows_four}
use Rattle.edge_append.proofs.account.counted.Goals as goal

pub returns : goal.returns
unfolding account_after
returns c = rows_four c.added-slots.ensures c.added-elements.ensures c.added-statics.ensures c.added-loaders.ensures
