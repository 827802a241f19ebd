-- `edge_append::account::added` meets its contract: no cell wraps, since none counts more than the state. Assumes nothing.
use Rattle.edge_append.specs.Account.{row_after}
use borrow.Author.Rules.{rules}
use Rattle.edge_append.proofs.account.added.Goals as goal

pub returns : goal.returns
unfolding row_after
returns c = search rules
