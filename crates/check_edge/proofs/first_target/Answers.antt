-- `check_edge::first_target` meets its contract: by which of targets and labels are fewer. Assumes nothing.
use mathlib.Core.Logic.{⊎_elim}
use native.Mathlib.Omega.{arith}
use Rattle.check_edge.proofs.Targets.{target_bad, target_uneven, target_none}
use Rattle.check_edge.proofs.first_target.Goals as goal

pub returns-then-e-n : goal.returns-then-e-n
returns-then-e-n c = let a = c.args in
    ⊎_elim
    (λ k. target_bad a.objects a.targets.now a.edges c.min-n.ensures c.first_root-e.ensures k)
    (λ k. target_uneven a.objects a.targets.now a.edges c.min-n.ensures c.first_root-e.ensures (λ z. omega arith))
    c.then-e-n.either

pub returns : goal.returns
returns c = let a = c.args in target_none a.objects a.targets.now a.edges c.min-n.ensures c.first_root-e.ensures (omega arith) (omega arith)
