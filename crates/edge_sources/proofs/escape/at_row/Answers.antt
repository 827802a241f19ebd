-- `edge_sources::escape::at_row` meets its contract: at each return the tests that led there say which case of `escape_back` holds. Assumes nothing.
use borrow.Author.Tests.{lt-ltb, le-ltb, eq-eqb, ne_eqb}
use Rattle.columns.specs.Lists.{all_of}
use Rattle.columns.specs.Columns.{accepts}
use Rattle.index.specs.Copied.{escape_back}
use Rattle.edge_sources.proofs.escape.at_row.Goals as goal

pub returns-then-escape_places-row : goal.returns-then-escape_places-row
unfolding escape_back all_of accepts
returns-then-escape_places-row c = simp (le-ltb _ _ c.if-escape_places-row.true)

pub returns-then-escape_places-row-2 : goal.returns-then-escape_places-row-2
unfolding escape_back all_of accepts
returns-then-escape_places-row-2 c = simp (lt-ltb _ _ c.if-escape_places-row.false, ne_eqb _ _ c.if-escape_places-row-2.true)

pub returns-then-escape_ids-row : goal.returns-then-escape_ids-row
unfolding escape_back all_of accepts
returns-then-escape_ids-row c = simp (lt-ltb _ _ c.if-escape_places-row.false, eq-eqb _ _ c.if-escape_places-row-2.false, le-ltb _ _ c.if-escape_ids-row.true)

pub returns : goal.returns
unfolding escape_back all_of accepts
returns c = simp (lt-ltb _ _ c.if-escape_places-row.false, eq-eqb _ _ c.if-escape_places-row-2.false, lt-ltb _ _ c.if-escape_ids-row.false) c.whole_id.ensures
