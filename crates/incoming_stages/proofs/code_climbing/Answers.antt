-- `incoming_stages::code_climbing` meets its contract: only the long rows are asked for. Assumes nothing.
use mathlib.Core.Path.{sym, ◌∙◌}
use Rattle.incoming_stages.proofs.Laws.{climbing_accepted, climbing_done, climbing_short}
use Rattle.incoming_stages.proofs.code_climbing.Goals as goal

pub long_rows-rows-requires : goal.long_rows-rows-requires
long_rows-rows-requires c = c.requires.climbs

pub write_all-requires : goal.write_all-requires
write_all-requires c = let rows = c.long_rows-rows.ensures in record { rows_value = rows; accepted = climbing_accepted _ _ _ _ _ c.requires rows (sym c.fits.ensures ∙ c.if-fits.true) }

pub returns-then-fits : goal.returns-then-fits
returns-then-fits c = climbing_done _ _ _ _ _ c.requires c.long_rows-rows.ensures (sym c.fits.ensures ∙ c.if-fits.true)
    c.write_all.ensures

pub returns : goal.returns
returns c = climbing_short _ _ _ _ _ c.requires c.long_rows-rows.ensures (sym c.fits.ensures ∙ c.if-fits.false)
    c.zero_all.ensures
