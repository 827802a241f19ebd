-- `index::code::code_of` meets its contract: at each return the tests that led there say which case of `code_of` holds. Assumes nothing.
use borrow.Author.Tests.{eq-eqb, ne_eqb, le-leb, lt-leb}
use Rattle.columns.specs.Lists.{all_of}
use Rattle.index.specs.Copied.{code_of, inline}
use Rattle.index.proofs.code.code_of.Goals as goal

pub returns-then-id-eq0 : goal.returns-then-id-eq0
unfolding code_of
returns-then-id-eq0 c = simp (eq-eqb _ _ c.if-id-eq0.true)

pub returns-then-id-base : goal.returns-then-id-base
unfolding code_of inline all_of
returns-then-id-base c = simp (ne_eqb _ _ c.if-id-eq0.false, lt-leb _ _ c.if-id-base.true)

pub returns-then-distance-lt3 : goal.returns-then-distance-lt3
unfolding code_of inline all_of
returns-then-distance-lt3 c = simp (ne_eqb _ _ c.if-id-eq0.false, le-leb _ _ c.if-id-base.false, lt-leb _ _ c.if-distance-lt3.true)

pub returns-then-steps-gt4294967294 : goal.returns-then-steps-gt4294967294
unfolding code_of inline all_of
returns-then-steps-gt4294967294 c = simp (ne_eqb _ _ c.if-id-eq0.false, le-leb _ _ c.if-id-base.false, le-leb _ _ c.if-distance-lt3.false, lt-leb _ _ c.if-steps-gt4294967294.true)

pub returns : goal.returns
unfolding code_of inline all_of
returns c = simp (ne_eqb _ _ c.if-id-eq0.false, le-leb _ _ c.if-id-base.false, le-leb _ _ c.if-distance-lt3.false, le-leb _ _ c.if-steps-gt4294967294.false)
