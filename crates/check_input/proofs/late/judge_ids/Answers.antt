-- `check_input::late::judge_ids` meets its contract: test by test. Assumes nothing.
use mathlib.Core.Path.{ap, ◌∙◌}
use mathlib.Core.List.{[], ◌∷◌}
use Prim.Native.Nat.{ℕ}
use Rattle.std.proofs.lemmas.Result.{err_from_is_err_and}
use Rattle.columns.specs.Lists.{first_place}
use Rattle.rules.specs.Input.{slot_count, element_count}
use Rattle.rules.specs.Verdict.{bad_copied, bad_span, bad_part}
use Rattle.check_ids.specs.Copying.{held_codes}
use Rattle.check_input.specs.Flat.{late_columns}
use Rattle.check_input.proofs.Chain.{copied_refuses, copied_clean, copied_held, late_span, late_root, late_none}
use Rattle.check_input.proofs.late.judge_ids.Goals as goal

pub returns-in_err-held : goal.returns-in_err-held
unfolding bad_copied
returns-in_err-held c = let a = c.args in
    let x = late_columns a.ids.now a.kinds.now a.classes.now a.lengths.now a.slot_starts.now a.slot_ends.now a.codes.now a.escape_places.now a.escape_ids.now a.base a.starts.now a.roots.now in
    let done = 0 ∷ held_codes a.codes.now ∷ [] in
    let p = err_from_is_err_and c.from_residual.result c.from_residual.ensures.1 in
    rw (p.1, p.2) (copied_refuses x done _ c.first_copied.ensures c.map_err.ensures.cases c.in_err-held.was (λ q v k. k))

pub returns-then-o-ids : goal.returns-then-o-ids
unfolding bad_copied bad_part bad_span element_count slot_count
returns-then-o-ids c = let a = c.args in
    let x = late_columns a.ids.now a.kinds.now a.classes.now a.lengths.now a.slot_starts.now a.slot_ends.now a.codes.now a.escape_places.now a.escape_ids.now a.base a.starts.now a.roots.now in
    let done = 0 ∷ held_codes a.codes.now ∷ [] in
    late_span x done (copied_clean x done _ c.first_copied.ensures c.map_err.ensures.cases c.in_ok-held.was) (c.first_copied_span-o.ensures ∙ ap (first_place (bad_span x)) c.requires.kinds_len) c.if-o-ids.true

pub returns-then-i-roots : goal.returns-then-i-roots
unfolding bad_copied bad_part bad_span element_count slot_count
returns-then-i-roots c = let a = c.args in
    let x = late_columns a.ids.now a.kinds.now a.classes.now a.lengths.now a.slot_starts.now a.slot_ends.now a.codes.now a.escape_places.now a.escape_ids.now a.base a.starts.now a.roots.now in
    let done = 0 ∷ held_codes a.codes.now ∷ [] in
    late_root x done (copied_clean x done _ c.first_copied.ensures c.map_err.ensures.cases c.in_ok-held.was) (c.first_copied_span-o.ensures ∙ ap (first_place (bad_span x)) c.requires.kinds_len)
    c.if-o-ids.false c.first_root-i.ensures c.if-i-roots.true

pub returns : goal.returns
unfolding bad_copied bad_part bad_span element_count slot_count
returns c = let a = c.args in
    let x = late_columns a.ids.now a.kinds.now a.classes.now a.lengths.now a.slot_starts.now a.slot_ends.now a.codes.now a.escape_places.now a.escape_ids.now a.base a.starts.now a.roots.now in
    let done = 0 ∷ held_codes a.codes.now ∷ [] in
    ap (λ (n : ℕ). 0 ∷ n ∷ []) (copied_held x done _ c.first_copied.ensures c.map_err.ensures.cases c.in_ok-held.was)
    ∙ late_none x done (copied_clean x done _ c.first_copied.ensures c.map_err.ensures.cases c.in_ok-held.was) (c.first_copied_span-o.ensures ∙ ap (first_place (bad_span x)) c.requires.kinds_len)
    c.if-o-ids.false c.first_root-i.ensures c.if-i-roots.false
