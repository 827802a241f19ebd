-- `check_input::late::judge_bodies` meets its contract: test by test. Assumes nothing.
use mathlib.Core.Path.{◌≡◌, refl, sym, ap, ◌∙◌}
use mathlib.Core.List.{[], ◌∷◌}
use lib.ListN.{take}
use Rattle.columns.specs.Lists.{first_place}
use Rattle.rules.specs.Input.{Input, object_count}
use Rattle.rules.specs.Verdict.{bad_copied, bad_span, bad_part}
use Rattle.check_input.specs.Flat.{late_raw}
use Rattle.check_input.proofs.Chain.{late_span, late_root, late_none}
use Rattle.check_input.proofs.late.judge_bodies.Goals as goal

pub first_raw_span-o-requires : goal.first_raw_span-o-requires
first_raw_span-o-requires c = let h = c.requires in record { lengths_len = h.lengths_len ∙ sym h.kinds_len; starts_len = h.starts_len ∙ sym h.kinds_len; bodies_len = h.bodies_len ∙ sym h.kinds_len; size_bound = h.size_bound }

pub returns-then-o-ids : goal.returns-then-o-ids
unfolding bad_copied bad_part bad_span
returns-then-o-ids c =
    let input_of : Input =
    let a = c.args in late_raw a.ids.now a.kinds.now a.lengths.now a.starts.now a.bodies.now a.bytes.now a.roots.now a.size in
    let clean : [] ≡ take 1 (bad_copied input_of.route) =
    refl in
    let part : c.first_raw_span-o.result ≡ first_place (bad_span input_of) (object_count input_of) =
    c.first_raw_span-o.ensures ∙ ap (first_place (bad_span input_of)) c.requires.kinds_len in
    late_span input_of (0 ∷ 0 ∷ []) clean part c.if-o-ids.true

pub returns-then-i-roots : goal.returns-then-i-roots
unfolding bad_copied bad_part bad_span
returns-then-i-roots c =
    let input_of : Input =
    let a = c.args in late_raw a.ids.now a.kinds.now a.lengths.now a.starts.now a.bodies.now a.bytes.now a.roots.now a.size in
    let clean : [] ≡ take 1 (bad_copied input_of.route) =
    refl in
    let part : c.first_raw_span-o.result ≡ first_place (bad_span input_of) (object_count input_of) =
    c.first_raw_span-o.ensures ∙ ap (first_place (bad_span input_of)) c.requires.kinds_len in
    late_root input_of (0 ∷ 0 ∷ []) clean part c.if-o-ids.false c.first_root-i.ensures c.if-i-roots.true

pub returns : goal.returns
unfolding bad_copied bad_part bad_span
returns c =
    let input_of : Input =
    let a = c.args in late_raw a.ids.now a.kinds.now a.lengths.now a.starts.now a.bodies.now a.bytes.now a.roots.now a.size in
    let clean : [] ≡ take 1 (bad_copied input_of.route) =
    refl in
    let part : c.first_raw_span-o.result ≡ first_place (bad_span input_of) (object_count input_of) =
    c.first_raw_span-o.ensures ∙ ap (first_place (bad_span input_of)) c.requires.kinds_len in
    late_none input_of (0 ∷ 0 ∷ []) clean part c.if-o-ids.false c.first_root-i.ensures c.if-i-roots.false
