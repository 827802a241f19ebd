-- `build_rooms::settle` meets its contract. Assumes nothing.
use mathlib.Core.Path.{sym, ap, ◌∙◌}
use mathlib.Core.Bool.{Bool, cond}
use Rattle.rules.specs.Account.{no_account}
use Rattle.rules.proofs.Types.{accepts_ok}
use Rattle.build_rooms.proofs.Tests.{cleared-from}
use Rattle.build_rooms.proofs.settle.Goals as goal

pub returns : goal.returns
returns c = record {
  targets = cleared-from _ c.zero.ensures c.edges_kept-edges.ensures;
  labels = c.zero-2.ensures;
  weak_from = cleared-from _ c.zero-3.ensures c.weak_kept-weak.ensures;
  weak_to = cleared-from _ c.zero-4.ensures c.weak_kept-weak.ensures;
  roots = cleared-from _ c.zero-5.ensures c.roots_kept.ensures;
  working = c.zero-6.ensures;
  account =
      c.settle_account.ensures
      ∙ ap (λ (b : Bool). cond b c.args.account.now no_account) (c.is_ok.ensures.value ∙ sym (accepts_ok c.args.v));
}
