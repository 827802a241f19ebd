-- `store_read::Offsets::at` meets its contract: at each return the tests that led there say which case of `read_back` holds. Assumes nothing.
use borrow.Author.Tests.{lt-ltb, le-ltb, eq-eqb, ne_eqb}
use Rattle.store_read.specs.Back.{read_back}
use Rattle.store_read.proofs.Offsets.at.Goals as goal

pub returns-then-self-i : goal.returns-then-self-i
unfolding read_back
returns-then-self-i c = simp (le-ltb _ _ c.if-self-i.true)

pub returns-then-s : goal.returns-then-s
unfolding read_back
returns-then-s c = rw c.long_at.ensures (simp (lt-ltb _ _ c.if-self-i.false, eq-eqb _ _ c.if-s.true))

pub returns-else-s : goal.returns-else-s
unfolding read_back
returns-else-s c = rw c.short_at.ensures (simp (lt-ltb _ _ c.if-self-i.false, ne_eqb _ _ c.if-s.false))
