-- `check_tables::found::dumped_before` meets its contract: `any` over the classes before it. Assumes nothing.
use mathlib.Core.Path.{refl, ◌∙◌}
use Rattle.std.proofs.Common.{rules, tests, zero-add}
use Rattle.std.proofs.Math.Nat.{sub-zero}
use Rattle.std.proofs.lemmas.Iterator.{YieldsList-from_range}
use Rattle.std.proofs.lemmas.Iterator.Search.{any_from_yields_List}
use Rattle.check_tables.specs.Found.{dumped_at}
use Rattle.check_tables.proofs.Laws.{any_counted}
use Rattle.check_tables.proofs.found.dumped_before.Goals as goal

pub returns : goal.returns
returns c =
    let a = c.args in
    any_from_yields_List (dumped_at a.class_ids.now a.dumped.now a.id) _ _ _ c.any.ensures.ran (YieldsList-from_range 0 a.class a.class refl (sub-zero a.class)) (λ x b q k. search (rules, tests))
    ∙ any_counted _ _ 0 a.class (λ k. rw (zero-add k))
