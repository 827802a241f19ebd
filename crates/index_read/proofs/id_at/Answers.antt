-- `index_read::id_at` meets its contract: at each return the tests that led there say which case of `id_back` holds. Assumes nothing.
use borrow.Author.Tests.{lt-ltb, le-ltb, eq-eqb, ne_eqb}
use Rattle.index_read.specs.Back.{id_back}
use Rattle.index_read.proofs.id_at.Goals as goal

pub returns-then-codes-i : goal.returns-then-codes-i
unfolding id_back
returns-then-codes-i c = simp (le-ltb _ _ c.if-codes-i.true)

pub returns-then-code-eq0 : goal.returns-then-code-eq0
unfolding id_back
returns-then-code-eq0 c = simp (lt-ltb _ _ c.if-codes-i.false, eq-eqb _ _ c.if-code-eq0.true)

pub returns-then-code : goal.returns-then-code
unfolding id_back
returns-then-code c = rw c.escape_at.ensures (simp (lt-ltb _ _ c.if-codes-i.false, ne_eqb _ _ c.if-code-eq0.false, eq-eqb _ _ c.if-code.true))

pub returns : goal.returns
unfolding id_back
returns c = rw c.inline_at.ensures (simp (lt-ltb _ _ c.if-codes-i.false, ne_eqb _ _ c.if-code-eq0.false, ne_eqb _ _ c.if-code.false))
