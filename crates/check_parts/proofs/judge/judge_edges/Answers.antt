-- `check_parts::judge::judge_edges` meets its contract: the labels, the targets, the columns behind. Assumes nothing.
use mathlib.Core.Path.{sym, ap, ◌∙◌}
use mathlib.Core.List.{List, [], ◌∷◌}
use Prim.Native.Nat.{ℕ}
use lib.ListN.{length, take}
use Rattle.rules.specs.Edges.{Parts}
use Rattle.rules.specs.Verdict.{first_of}
use Rattle.rules.specs.Parts.{bad_targets}
use Rattle.check_ids.specs.Copying.{fault_says}
use Rattle.check_parts.specs.Checks.{handed, end_faults}
use Rattle.check_parts.proofs.Chain.{edges-label, edges-target, edges-behind}
use Rattle.check_parts.proofs.judge.judge_edges.Goals as goal

pub returns-in-Some : goal.returns-in-Some
returns-in-Some c =
    let parts_of : Parts =
    let a = c.args in handed a.offsets.now a.targets.now a.labels.now a.weak_from.now a.weak_to.now a.roots.now in
    let accepted : List ℕ =
    0 ∷ length c.args.labels.now ∷ [] in
    c.refused.ensures ∙ edges-label c.args.names parts_of accepted (ap fault_says (sym c.in-Some.is) ∙ c.first_label.ensures)

pub returns-in-Some-first_target : goal.returns-in-Some-first_target
returns-in-Some-first_target c =
    let parts_of : Parts =
    let a = c.args in handed a.offsets.now a.targets.now a.labels.now a.weak_from.now a.weak_to.now a.roots.now in
    let accepted : List ℕ =
    0 ∷ length c.args.labels.now ∷ [] in
    c.refused-in-Some-first_target.ensures
    ∙ edges-target c.args.names parts_of accepted (ap fault_says (sym c.in_default.is) ∙ c.first_label.ensures)
    (ap fault_says (sym c.in-Some-first_target.is) ∙ c.first_target.ensures ∙ ap
    (λ (m : ℕ). take 1 (bad_targets m c.args.targets.now (length c.args.labels.now))) c.object_count-objects.ensures)

pub returns : goal.returns
returns c =
    let parts_of : Parts =
    let a = c.args in handed a.offsets.now a.targets.now a.labels.now a.weak_from.now a.weak_to.now a.roots.now in
    let accepted : List ℕ =
    0 ∷ length c.args.labels.now ∷ [] in
    let a = c.args in
    c.judge_ends.ensures ∙ ap (λ (m : ℕ). first_of (end_faults m a.weak_from.now a.weak_to.now a.roots.now) accepted) c.object_count-objects.ensures
    ∙ edges-behind c.args.names parts_of accepted (ap fault_says (sym c.in_default.is) ∙ c.first_label.ensures)
    (ap fault_says (sym c.in_default-first_target.is) ∙ c.first_target.ensures ∙ ap
    (λ (m : ℕ). take 1 (bad_targets m c.args.targets.now (length c.args.labels.now))) c.object_count-objects.ensures)
