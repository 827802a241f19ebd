-- `need_weak::most::slots` meets its contract: the weak slots of the part are counted. Assumes nothing.
use mathlib.Core.Path.{◌≡◌, ◌∙◌}
use Prim.Native.Nat.{ℕ, ◌+◌, ◌-◌}
use lib.Dec.{eqb}
use borrow.Author.Rules.{rules}
use native.Mathlib.Omega.{arith}
use lib.ListN.{drop, length-take}
use Rattle.std.specs.List.{count_by}
use Rattle.std.proofs.lemmas.List.Sums.{count_by-le-length}
use Rattle.columns.specs.Lists.{part}
use Rattle.need_weak.proofs.Bound.{count_weak}
use Rattle.need_weak.proofs.most.slots.Goals as goal

pub returns : goal.returns
returns c = let a = c.args in
    let e : c.count.result ≡ count_by (λ w. eqb w 1) (part a.slot_weak.now a.first (a.first + a.count)) = search rules in
    record { is = e ∙ count_weak a.slot_weak.now a.first a.count c.requires; few = omega (arith, e, count_by-le-length (λ (w : ℕ). eqb w 1) (part a.slot_weak.now a.first (a.first + a.count)), length-take (a.first + a.count - a.first) (drop a.first a.slot_weak.now)) }
