-- `labels::read::escape` meets its contract: at each return the tests that led there say which case of `row_back` holds. Assumes nothing.
use mathlib.Core.Path.{sym, ◌∙◌}
use borrow.Author.Tests.{lt-ltb, le-ltb, eq-eqb, ne_eqb}
use Rattle.columns.specs.Lists.{all_of}
use Rattle.labels.specs.Reading.{row_back}
use Rattle.labels.proofs.read.escape.Goals as goal

pub returns-then-escape_at-k : goal.returns-then-escape_at-k
unfolding row_back all_of
returns-then-escape_at-k c = rw (← c.bisect-k.ensures) (simp (le-ltb _ _ c.if-escape_at-k.true))

pub returns-then-escape_at-k-2 : goal.returns-then-escape_at-k-2
unfolding row_back all_of
returns-then-escape_at-k-2 c = rw (← c.bisect-k.ensures) (simp (lt-ltb _ _ c.if-escape_at-k.false, ne_eqb _ _ c.if-escape_at-k-2.true))

pub returns-then-escape_label-k : goal.returns-then-escape_label-k
unfolding row_back all_of
returns-then-escape_label-k c = rw (← c.bisect-k.ensures) (simp (lt-ltb _ _ c.if-escape_at-k.false, eq-eqb _ _ c.if-escape_at-k-2.false, le-ltb _ _ c.if-escape_label-k.true))

pub returns-then-fits : goal.returns-then-fits
unfolding row_back all_of
returns-then-fits c = rw (← c.bisect-k.ensures) (simp (
  lt-ltb _ _ c.if-escape_at-k.false,
  eq-eqb _ _ c.if-escape_at-k-2.false,
  lt-ltb _ _ c.if-escape_label-k.false,
  sym c.fits.ensures ∙ c.if-fits.true,
))

pub returns : goal.returns
unfolding row_back all_of
returns c = rw (← c.bisect-k.ensures) (simp (
  lt-ltb _ _ c.if-escape_at-k.false,
  eq-eqb _ _ c.if-escape_at-k-2.false,
  lt-ltb _ _ c.if-escape_label-k.false,
  sym c.fits.ensures ∙ c.if-fits.false,
))
