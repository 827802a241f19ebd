-- `check_places::fit_places` meets its contract: both fit the room, or the number is the need. Assumes nothing.
use mathlib.Core.Logic.{inl, inr}
use Rattle.rules.specs.Needs.{Fits}
use native.Mathlib.Omega.{arith}
use Rattle.check_places.proofs.Bound.{places_most, parts_in}
use Rattle.check_places.proofs.fit_places.Goals as goal

pub within-requires : goal.within-requires
within-requires c = record { held_value = c.requires.held_value; parts_in = parts_in c.requires.code_tables; class_tables = c.requires.class_tables }

pub returns-then-within : goal.returns-then-within
unfolding Fits
returns-then-within c = let a = c.args in
    inr (
      omega (
        arith,
        places_most a.ids.now a.kinds.now a.classes.now a.lengths.now a.class_ids.now a.loaders.now a.dumped.now a.class_kinds.now
            a.slot_starts.now a.slot_ends.now a.static_starts.now a.static_ends.now a.slot_weak.now a.static_types.now a.static_values.now a.codes.now
            a.starts.now a.policy,
        c.within.ensures c.if-within.true,
      ),
      omega arith,
    )

pub returns : goal.returns
unfolding Fits
returns c = inl c.copied_places.ensures
