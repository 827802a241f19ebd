-- `index_read::read::escape_at` meets its contract: at each return the tests that led there say which case of `escape_back` holds. Assumes nothing.
use borrow.Author.Tests.{lt-ltb, le-ltb, eq-eqb, ne_eqb}
use Rattle.columns.specs.Lists.{all_of}
use Rattle.index_read.specs.Back.{escape_back}
use Rattle.index_read.proofs.read.escape_at.Goals as goal

pub returns-then-escape_places-k : goal.returns-then-escape_places-k
unfolding escape_back all_of
returns-then-escape_places-k c = rw (← c.bisect-k.ensures) (simp (le-ltb _ _ c.if-escape_places-k.true))

pub returns-then-escape_places-k-2 : goal.returns-then-escape_places-k-2
unfolding escape_back all_of
returns-then-escape_places-k-2 c = rw (← c.bisect-k.ensures) (simp (lt-ltb _ _ c.if-escape_places-k.false, ne_eqb _ _ c.if-escape_places-k-2.true))

pub returns-then-escape_ids-k : goal.returns-then-escape_ids-k
unfolding escape_back all_of
returns-then-escape_ids-k c = rw (← c.bisect-k.ensures) (simp (lt-ltb _ _ c.if-escape_places-k.false, eq-eqb _ _ c.if-escape_places-k-2.false, le-ltb _ _ c.if-escape_ids-k.true))

pub returns : goal.returns
unfolding escape_back all_of
returns c = rw (← c.bisect-k.ensures) (simp (lt-ltb _ _ c.if-escape_places-k.false, eq-eqb _ _ c.if-escape_places-k-2.false, lt-ltb _ _ c.if-escape_ids-k.false) c.id_of.ensures)
