-- `ask_weak::rows_end` meets its contract: at each return the tests that led there say whether the row is the object's. Assumes nothing.
use mathlib.Core.Path.{sym, ◌∙◌}
use borrow.Author.Tests.{lt-ltb, le-ltb, eq-eqb, ne_eqb}
use Rattle.columns.specs.Lists.{all_of}
use Rattle.ask_weak.specs.Rows.{weak_end}
use Rattle.ask_weak.proofs.rows_end.Goals as goal

pub returns-then-weak_from-start : goal.returns-then-weak_from-start
unfolding weak_end all_of
returns-then-weak_from-start c = simp (le-ltb _ _ c.if-weak_from-start.true)

pub returns-then-index-object : goal.returns-then-index-object
unfolding weak_end all_of
returns-then-index-object c = simp (lt-ltb _ _ c.if-weak_from-start.false, ne_eqb _ _ (λ q. c.if-index-object.true (c.index.ensures ∙ q)))

pub returns : goal.returns
unfolding weak_end all_of
returns c = c.bisect.ensures ∙ simp (lt-ltb _ _ c.if-weak_from-start.false, eq-eqb _ _ (sym c.index.ensures ∙ c.if-index-object.false))
