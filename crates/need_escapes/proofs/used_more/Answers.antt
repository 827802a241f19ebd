-- `need_escapes::used_more` meets its contract: the labels used so often are counted place by place. Assumes nothing.
use mathlib.Core.Path.{◌≡◌, ◌∙◌}
use Prim.Native.Nat.{◌+◌}
use native.Mathlib.Omega.{arith}
use lib.Dec.{ltb}
use lib.ListN.{take}
use borrow.Author.Rules.{rules}
use Rattle.std.specs.List.{count_by}
use Rattle.labels.proofs.Counted.{count-places}
use Rattle.need_escapes.specs.Uncoded.{used_more}
use Rattle.need_escapes.proofs.used_more.Goals as goal

pub returns : goal.returns
unfolding used_more
returns c = let a = c.args in
    let counted : c.count.result ≡ count_by (ltb a.times) (take (a.names + 1) a.table.now) = search rules in
    counted ∙ count-places (ltb a.times) a.table.now (a.names + 1) (omega arith)
