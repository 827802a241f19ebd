-- `check_tables::found::place_for` meets its contract: by whether it is dumped, then by what the lookup answers. Assumes nothing.
use mathlib.Core.Path.{◌∙◌}
use Rattle.check_tables.proofs.Marks.{place_sought, place_other}
use Rattle.check_tables.proofs.found.place_for.Goals as goal

pub returns-then-dumped-eq1 : goal.returns-then-dumped-eq1
returns-then-dumped-eq1 c = let a = c.args in
    c.unwrap_or.ensures ∙ place_sought a.ids.now a.id a.dumped c.if-dumped-eq1.true (c.find_sorted.ensures.sought c.requires)

pub returns : goal.returns
returns c = let a = c.args in
    place_other a.ids.now a.id a.dumped c.if-dumped-eq1.false
