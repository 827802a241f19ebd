-- `check_parts::ends::first_pair` meets its contract: no pair before i is at fault, and (a0, b0) is the pair before it. Assumes nothing.
use mathlib.Core.Path.{◌≡◌, refl, sym, ap₂, ◌∙◌}
use Prim.Native.Nat.{ℕ}
use Rattle.columns.specs.Lists.{◌!◌}
use Rattle.columns.proofs.First.{searching_start, searching_more, searching_hit, searching_end}
use Rattle.check_tables.proofs.Faults.{prior_more}
use Rattle.check_parts.specs.Checks.{pair_fault}
use Rattle.check_parts.proofs.Faults.{pair-at}
use lib.ListN.{length}
use native.Mathlib.Omega.{arith}
use Rattle.check_parts.proofs.ends.first_pair.Goals as goal

pub loop-i-init : goal.loop-i-init
loop-i-init c = (searching_start _ _, refl, refl)

pub returns-then-pair_fault : goal.returns-then-pair_fault
returns-then-pair_fault c = let a = c.args in
    searching_hit _ _ c.loop-i.invariant.0 (omega arith) (pair-at a.objects a.weak_from.now a.weak_to.now c.loop-i.i ∙ ap₂
    (λ (p q : ℕ). pair_fault a.objects p q (a.weak_from.now ! c.loop-i.i) (a.weak_to.now ! c.loop-i.i)) (sym c.loop-i.invariant.1) (sym c.loop-i.invariant.2) ∙ sym
    c.pair_fault.ensures ∙ c.if-pair_fault.true)

pub loop-i-preserved : goal.loop-i-preserved
loop-i-preserved c = let a = c.args in (
  searching_more _ _ c.loop-i.invariant.0 (omega arith) (pair-at a.objects a.weak_from.now a.weak_to.now c.loop-i.i ∙ ap₂
      (λ (p q : ℕ). pair_fault a.objects p q (a.weak_from.now ! c.loop-i.i) (a.weak_to.now ! c.loop-i.i)) (sym c.loop-i.invariant.1) (sym c.loop-i.invariant.2) ∙ sym
      c.pair_fault.ensures ∙ c.if-pair_fault.false),
  prior_more a.weak_from.now c.loop-i.i,
  prior_more a.weak_to.now c.loop-i.i,
)

pub returns : goal.returns
returns c = let all : c.loop-i.i ≡ length c.args.weak_from.now = omega arith in sym all ∙ searching_end _ _ c.loop-i.invariant.0 (omega arith)
