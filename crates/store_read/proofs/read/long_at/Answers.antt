-- `store_read::read::long_at` meets its contract: at each return the tests that led there say which case of `long_back` holds. Assumes nothing.
use borrow.Author.Tests.{lt-ltb, le-ltb, eq-eqb, ne_eqb}
use Rattle.store_read.specs.Back.{long_back}
use mathlib.Core.Path.{sym, ◌∙◌}
use Rattle.store_read.proofs.read.long_at.Goals as goal

pub returns-then-long_at-k : goal.returns-then-long_at-k
unfolding long_back
returns-then-long_at-k c = rw (← c.bisect-k.ensures) (simp (le-ltb _ _ c.if-long_at-k.true))

pub returns-then-index-i : goal.returns-then-index-i
unfolding long_back
returns-then-index-i c = rw (← c.bisect-k.ensures) (simp (lt-ltb _ _ c.if-long_at-k.false, ne_eqb _ _ (λ h. c.if-index-i.true (c.index.ensures ∙ h))))

pub returns-then-long_value-k : goal.returns-then-long_value-k
unfolding long_back
returns-then-long_value-k c = rw (← c.bisect-k.ensures) (simp (lt-ltb _ _ c.if-long_at-k.false, eq-eqb _ _ (sym c.index.ensures ∙ c.if-index-i.false), le-ltb _ _ c.if-long_value-k.true))

pub returns : goal.returns
unfolding long_back
returns c = rw (← c.bisect-k.ensures) (simp (lt-ltb _ _ c.if-long_at-k.false, eq-eqb _ _ (sym c.index.ensures ∙ c.if-index-i.false), lt-ltb _ _ c.if-long_value-k.false))
