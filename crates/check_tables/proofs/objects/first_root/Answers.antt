-- `check_tables::objects::first_root` meets its contract: the first root that passes the test of `position`. Assumes nothing.
use mathlib.Core.Path.{◌≡◌, refl, ap, ◌∙◌}
use Rattle.std.proofs.Common.{rules, tests, ℕ, Bool, leb, length, position}
use Rattle.std.specs.Option.{unwrap_or}
use Rattle.std.proofs.lemmas.Iterator.{YieldsList-from_slice}
use Rattle.std.proofs.lemmas.Iterator.Search.{position_from_yields_List}
use Rattle.check_tables.proofs.Laws.{first_position}
use Rattle.check_tables.proofs.objects.first_root.Goals as goal

pub returns : goal.returns
returns c =
    let roots = c.args.roots.now in
    let out : ℕ → Bool = λ root. leb c.args.objects root in
    let at : c.position.result ≡ position out roots =
    position_from_yields_List out _ _ c.position.result c.position.ensures.ran (YieldsList-from_slice roots cc) (λ x b q k. search (rules, tests)) in
    c.unwrap_or.ensures ∙ ap (λ o. unwrap_or o (length roots)) at ∙ first_position _ out roots 0 (λ i l. refl)
