-- `slot_rows::step::copy` meets its contract: the first i numbers are copied. Assumes nothing.
use Rattle.std.proofs.Common.{ℕ, ◌≡◌, ◌++◌, take, drop, ap, arith, refl, ◌∙◌}
use Rattle.slot_rows.proofs.Laws.{copied_more}
use Rattle.slot_rows.proofs.step.copy.Goals as goal

pub loop-i-init : goal.loop-i-init
loop-i-init g c = refl

pub loop-i-preserved : goal.loop-i-preserved
loop-i-preserved g c = copied_more _ _ _ _ c.index-from-i.is (omega arith) (omega arith) c.loop-i.invariant

pub returns : goal.returns
returns g c =
    let all : c.loop-i.i ≡ c.args.n = omega arith in
    c.loop-i.invariant ∙ ap (λ (k : ℕ). take k c.args.from.now ++ drop k c.args.to.now) all
