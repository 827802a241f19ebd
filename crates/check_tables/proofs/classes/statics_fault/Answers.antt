-- `check_tables::classes::statics_fault` meets its contract: `any` over the places of the statics. Assumes nothing.
use mathlib.Core.Path.{refl, ◌∙◌}
use Rattle.std.proofs.Common.{rules, tests, ℕ, ◌-◌, Bool}
use Rattle.std.proofs.lemmas.Iterator.{YieldsList-from_range}
use Rattle.std.proofs.lemmas.Iterator.Search.{any_from_yields_List}
use Rattle.columns.specs.Lists.{◌!◌}
use Rattle.check_tables.specs.Reads.{static_fault}
use Rattle.check_tables.proofs.Laws.{any_counted}
use Rattle.check_tables.proofs.classes.statics_fault.Goals as goal

pub returns : goal.returns
returns c =
    let a = c.args in
    let bad : ℕ → Bool = λ i. static_fault a.names (a.static_names.now ! i) (a.static_types.now ! i) in
    let n = a.to - a.from in
    any_from_yields_List bad _ _ _ c.any.ensures.ran (YieldsList-from_range a.from a.to n refl refl) (λ x b q k. search (rules, tests))
    ∙ any_counted bad _ a.from n (λ k. refl)
