-- `ask_short::offset` meets its contract: among no long rows none is found. Assumes nothing.
use borrow.Author.Tests.{lt-ltb, le-ltb, eq-eqb, ne_eqb}
use Rattle.columns.specs.Ranks.{bisect}
use Rattle.store.specs.Blocked.{read_back, long_back}
use Rattle.ask_short.proofs.offset.Goals as goal

pub returns-then-short-i : goal.returns-then-short-i
unfolding read_back
returns-then-short-i c = simp (le-ltb _ _ c.if-short-i.true)

pub returns-then-above : goal.returns-then-above
unfolding read_back long_back bisect
returns-then-above c = simp (lt-ltb _ _ c.if-short-i.false, eq-eqb _ _ c.if-above.true)

pub returns : goal.returns
unfolding read_back
returns c = rw c.short_at.ensures (simp (lt-ltb _ _ c.if-short-i.false, ne_eqb _ _ c.if-above.false))
