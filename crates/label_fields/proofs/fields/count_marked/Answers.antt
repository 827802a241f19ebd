-- `label_fields::fields::count_marked` meets its contract: the marks are counted place by place. Assumes nothing.
use mathlib.Core.Path.{◌≡◌, ◌∙◌}
use Prim.Native.Nat.{◌+◌}
use native.Mathlib.Omega.{arith}
use lib.Dec.{eqb}
use lib.ListN.{take}
use borrow.Author.Rules.{rules}
use Rattle.std.specs.List.{count_by}
use Rattle.label_fields.proofs.Marks.{marks-count}
use Rattle.label_fields.proofs.fields.count_marked.Goals as goal

pub returns : goal.returns
returns c = let a = c.args in
    let counted : c.count.result ≡ count_by (λ x. eqb x 1) (take (a.names + 1) a.table.now) = search rules in
    counted ∙ marks-count a.names a.table.now (omega arith)
