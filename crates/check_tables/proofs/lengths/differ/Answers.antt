-- `check_tables::lengths::differ` meets its contract: `any` over the lengths. Assumes nothing.
use mathlib.Core.Path.{◌∙◌}
use mathlib.Core.Bool.{not}
use Rattle.std.proofs.Common.{rules, tests, eqb}
use Rattle.std.proofs.lemmas.Iterator.{YieldsList-from_slice}
use Rattle.std.proofs.lemmas.Iterator.Search.{any_from_yields_List}
use Rattle.check_tables.proofs.Laws.{any_mapped}
use Rattle.check_tables.proofs.lengths.differ.Goals as goal

pub returns : goal.returns
returns c =
    any_from_yields_List (λ a. not (eqb a c.args.n)) _ _ _ c.any.ensures.ran (YieldsList-from_slice c.args.lengths.now cc) (λ x b q k. search (rules, tests))
    ∙ any_mapped _ c.args.lengths.now
