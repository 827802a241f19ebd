-- `ask_edge::first_to` meets its contract: no edge before k goes to the target. Assumes nothing.
use mathlib.Core.Path.{◌≡◌, ◌∙◌}
use native.Mathlib.Omega.{arith}
use borrow.Author.Tests.{eq-eqb, ne_eqb}
use Rattle.columns.proofs.First.{searching_start, searching_more, searching_hit, searching_end}
use Rattle.ask_edge.proofs.first_to.Goals as goal

pub loop-k-init : goal.loop-k-init
loop-k-init c = searching_start _ _

pub returns-then-targets-edge : goal.returns-then-targets-edge
returns-then-targets-edge c = searching_hit _ _ c.loop-k.invariant c.loop-k-test.true (eq-eqb _ _ c.if-targets-edge.true)

pub loop-k-preserved : goal.loop-k-preserved
loop-k-preserved c = searching_more _ _ c.loop-k.invariant c.loop-k-test.true (ne_eqb _ _ c.if-targets-edge.false)

pub returns : goal.returns
returns c =
    let all : c.args.count ≡ c.loop-k.k = omega (arith, c.loop-k.invariant.within) in
    all ∙ searching_end _ _ c.loop-k.invariant c.loop-k-test.false
