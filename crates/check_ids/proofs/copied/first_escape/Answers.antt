-- `check_ids::copied::first_escape` meets its contract: the first place that passes the test of `position`. Assumes nothing.
use mathlib.Core.Path.{refl, ap, ◌∙◌}
use Rattle.std.proofs.Common.{rules, tests, length}
use Rattle.std.specs.Option.{unwrap_or}
use Rattle.std.proofs.Math.Nat.{sub-zero}
use Rattle.std.proofs.lemmas.Iterator.{YieldsList-from_range}
use Rattle.std.proofs.lemmas.Iterator.Search.{position_from_yields_List}
use Rattle.check_ids.specs.Copying.{escape_fault}
use Rattle.check_tables.proofs.Laws.{first_counted}
use Rattle.check_ids.proofs.copied.first_escape.Goals as goal

pub returns : goal.returns
returns c =
    let a = c.args in
    let n = length a.escape_places.now in
    let t = escape_fault a.codes.now a.escape_places.now a.escape_ids.now in
    c.unwrap_or.ensures
    ∙ ap (λ o. unwrap_or o n) (position_from_yields_List t _ _ c.position.result c.position.ensures.ran (YieldsList-from_range 0 n n refl (sub-zero n)) (λ x b q k. search (rules, tests)))
    ∙ first_counted t n
