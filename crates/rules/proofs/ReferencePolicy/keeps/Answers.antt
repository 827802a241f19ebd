-- `rules::ReferencePolicy::keeps` meets its contract: each arm rewrites with its test. Assumes nothing.
use borrow.Author.Tests.{eq-eqb, ne_eqb}
use Rattle.rules.specs.Types.{keeps}
use Rattle.rules.proofs.ReferencePolicy.keeps.Goals as goal

pub returns-then-kind : goal.returns-then-kind
unfolding keeps
returns-then-kind c = simp (eq-eqb _ 1 c.if-kind.true)

pub returns-else-kind : goal.returns-else-kind
unfolding keeps
returns-else-kind c = simp (ne_eqb _ 1 c.if-kind.false)
