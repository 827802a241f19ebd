-- `check_parts::edges::first_in_object` meets its contract: no label before k is at fault, and `next` is what is expected there. Assumes nothing.
use mathlib.Core.Path.{◌≡◌, refl, sym, ap, ◌∙◌}
use Prim.Native.Nat.{ℕ}
use Rattle.columns.specs.Lists.{◌!◌}
use Rattle.columns.proofs.First.{searching_start, searching_more, searching_hit, searching_end}
use Rattle.rules.specs.Labels.{after}
use Rattle.check_parts.specs.Checks.{label_fault}
use Rattle.check_parts.proofs.Faults.{label_at, expected_more}
use lib.ListN.{length}
use native.Mathlib.Omega.{arith}
use Rattle.check_parts.proofs.edges.first_in_object.Goals as goal

pub loop-k-init : goal.loop-k-init
loop-k-init c = (searching_start _ _, refl)

pub returns-then-label_fault : goal.returns-then-label_fault
returns-then-label_fault c = let a = c.args in
    searching_hit _ _ c.loop-k.invariant.0 (omega arith) (label_at a.names a.labels.now c.loop-k.k ∙ ap (λ (n : ℕ). label_fault a.names n (a.labels.now ! c.loop-k.k)) (sym c.loop-k.invariant.1) ∙ sym c.label_fault.ensures ∙ c.if-label_fault.true)

pub loop-k-preserved : goal.loop-k-preserved
loop-k-preserved c = let a = c.args in (
  searching_more _ _ c.loop-k.invariant.0 (omega arith) (label_at a.names a.labels.now c.loop-k.k ∙ ap
      (λ (n : ℕ). label_fault a.names n (a.labels.now ! c.loop-k.k)) (sym c.loop-k.invariant.1) ∙ sym c.label_fault.ensures ∙ c.if-label_fault.false),
  c.after-next.ensures ∙ ap (λ (n : ℕ). after n (a.labels.now ! c.loop-k.k)) c.loop-k.invariant.1 ∙ expected_more a.labels.now c.loop-k.k,
)

pub returns : goal.returns
returns c = let all : c.loop-k.k ≡ length c.args.labels.now = omega arith in sym all ∙ searching_end _ _ c.loop-k.invariant.0 (omega arith)
