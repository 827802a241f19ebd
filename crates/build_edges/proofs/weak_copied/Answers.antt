-- `build_edges::weak_copied` meets its contract. Of a refused input nothing is asked. Assumes nothing.
use mathlib.Core.Path.{sym, ◌∙◌}
use mathlib.Core.Bool.{true≢false}
use native.Mathlib.Omega.{arith}
use mathlib.Core.Logic.{inl}
use Rattle.index.specs.Copied.{ids_of}
use Rattle.need_weak.specs.Pairs.{most_weak}
use Rattle.need_weak.proofs.Bound.{copied_most, slots_flags}
use Rattle.rules.specs.Needs.{Fits}
use Rattle.build_edges.proofs.Half.{fits_most}
use Rattle.build_edges.proofs.weak_copied.Goals as goal

pub returns-then-not-passed : goal.returns-then-not-passed
returns-then-not-passed c = λ ok. absurd (true≢false (sym ok ∙ (sym c.passed.ensures ∙ c.if-not-passed.true)))

pub most_weak-most-requires : goal.most_weak-most-requires
most_weak-most-requires c = let h = c.requires (sym c.passed.ensures ∙ c.if-not-passed.false) in record { kinds_len_bound = (omega (arith, h.even, h.objects.few), omega (arith, h.even, h.objects.class), h.few); by_index = λ o l. slots_flags (h.slots o (omega (arith, h.even))) }

pub returns-then-most-least : goal.returns-then-most-least
returns-then-most-least c = λ ok.
    let a = c.args in
    let h = c.requires (sym c.passed.ensures ∙ c.if-not-passed.false) in
    fits_most
    (most_weak a.kinds.now a.classes.now a.class_kinds.now a.slot_starts.now a.slot_ends.now a.slot_weak.now a.policy)
    a.weak_from a.weak_to h.even
    (copied_most a.ids.now a.kinds.now a.classes.now a.starts.now (ids_of a.codes.now a.escape_places.now a.escape_ids.now a.base)
    a.class_kinds.now a.slot_starts.now a.slot_ends.now a.slot_weak.now a.policy _)
    c.most_weak-most.ensures c.least.ensures.1 c.if-most-least.true

pub count_weak_copied-requires : goal.count_weak_copied-requires
count_weak_copied-requires c = let h = c.requires (sym c.passed.ensures ∙ c.if-not-passed.false) in record { objects_in = (h.objects, h.few); by_index = h.slots }

pub returns : goal.returns
unfolding Fits
returns c = λ ok. inl c.count_weak_copied.ensures
