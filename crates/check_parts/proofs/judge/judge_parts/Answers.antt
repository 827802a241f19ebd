-- `check_parts::judge::judge_parts` meets its contract: the offsets, the columns behind. Assumes nothing.
use mathlib.Core.Path.{sym, ap, ◌∙◌}
use mathlib.Core.List.{List, [], ◌∷◌}
use Prim.Native.Nat.{ℕ}
use lib.ListN.{length}
use Rattle.rules.specs.Edges.{Parts}
use Rattle.check_ids.specs.Copying.{fault_says}
use Rattle.check_parts.specs.Checks.{handed}
use Rattle.check_parts.proofs.Faults.{laid_out}
use Rattle.check_parts.proofs.Chain.{parts-offset, parts-edges}
use Rattle.check_parts.proofs.judge.judge_parts.Goals as goal

pub judge_edges-requires : goal.judge_edges-requires
judge_edges-requires c = record { laid_out = laid_out c.args.offsets.now (length c.args.labels.now) (ap fault_says (sym c.in_default.is) ∙ c.first_offset.ensures); weak_to_len = c.requires }

pub returns-in-Some : goal.returns-in-Some
returns-in-Some c =
    let parts_of : Parts =
    let a = c.args in handed a.offsets.now a.targets.now a.labels.now a.weak_from.now a.weak_to.now a.roots.now in
    let accepted : List ℕ =
    0 ∷ length c.args.labels.now ∷ [] in
    c.refused.ensures ∙ parts-offset c.args.names parts_of accepted (ap fault_says (sym c.in-Some.is) ∙ c.first_offset.ensures)

pub returns : goal.returns
returns c =
    let parts_of : Parts =
    let a = c.args in handed a.offsets.now a.targets.now a.labels.now a.weak_from.now a.weak_to.now a.roots.now in
    let accepted : List ℕ =
    0 ∷ length c.args.labels.now ∷ [] in
    c.judge_edges.ensures ∙ parts-edges c.args.names parts_of accepted
    (ap fault_says (sym c.in_default.is) ∙ c.first_offset.ensures)
