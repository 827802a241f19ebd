-- `check_parts::judge::judge_ends` meets its contract: the pairs, then the roots. Assumes nothing.
use mathlib.Core.Path.{◌∙◌}
use mathlib.Core.List.{[], ◌∷◌}
use Rattle.check_parts.proofs.Chain.{ends-pair, ends_root, ends_none}
use native.Mathlib.Omega.{arith}
use Rattle.check_parts.proofs.judge.judge_ends.Goals as goal

pub returns-then-i-weak_from : goal.returns-then-i-weak_from
returns-then-i-weak_from c = let a = c.args in c.refused.ensures ∙ ends-pair a.objects a.weak_from.now a.weak_to.now a.roots.now (0 ∷ a.edges ∷ []) c.first_pair-i.ensures (omega arith)

pub returns-then-j-roots : goal.returns-then-j-roots
returns-then-j-roots c = let a = c.args in c.refused-then-j-roots.ensures ∙ ends_root a.objects a.weak_from.now a.weak_to.now a.roots.now (0 ∷ a.edges ∷ [])
    c.first_pair-i.ensures (omega arith) c.first_root-j.ensures (omega arith)

pub returns : goal.returns
returns c = let a = c.args in ends_none a.objects a.weak_from.now a.weak_to.now a.roots.now (0 ∷ a.edges ∷ []) c.first_pair-i.ensures (omega arith) c.first_root-j.ensures (omega arith)
