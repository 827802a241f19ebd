-- Tests put together, and what lengths that do not differ give. Assumes nothing.
use mathlib.Core.Path.{◌≡◌, refl, sym, ◌∙◌}
use mathlib.Core.Bool.{Bool, true, false}
use mathlib.Core.List.{[], ◌∷◌}
use Rattle.columns.specs.Lists.{any_of}
use lib.ListN.{length}
use Rattle.columns.proofs.Tests.{or_true}
use Rattle.rules.specs.Input.{Schema, class_count}
use Rattle.rules.specs.Verdict.{schema_lengths}
use Rattle.rules.proofs.Even.{schema_even}
use Rattle.check_tables.specs.Reads.{Tables}

pub with_none : (a : Bool) → any_of (a ∷ false ∷ []) ≡ a
unfolding any_of
with_none true = refl
with_none false = refl

module _ (a b : Bool) where
  pub two_first : a ≡ true → true ≡ any_of (a ∷ b ∷ [])
  unfolding any_of
  two_first h = rw h

  pub two_second : b ≡ true → true ≡ any_of (a ∷ b ∷ [])
  unfolding any_of
  two_second h = rw h (sym (or_true a))

  pub two_none : a ≡ false → b ≡ false → false ≡ any_of (a ∷ b ∷ [])
  unfolding any_of
  two_none ha hb = rw (ha, hb)

-- the columns that the class check reads, of a schema whose lengths do not differ
module _ (s : Schema) (h : schema_lengths s ≡ false) where
  pub schema_dumped : length s.classes.dumped ≡ class_count s
  schema_dumped = (schema_even s h).dumped

  pub schema_tables : Tables s.classes.dumped s.classes.kinds s.classes.slot_start s.classes.slot_end s.classes.static_start s.classes.static_end
      s.slots.offsets s.slots.labels s.slots.weak s.statics.names s.statics.types
  schema_tables =
      let e = schema_even s h in
      record {
        kinds_long = e.kinds ∙ sym e.dumped;
        slot_starts_long = e.slot_starts ∙ sym e.dumped;
        slot_ends_long = e.slot_ends ∙ sym e.dumped;
        static_starts_long = e.static_starts ∙ sym e.dumped;
        static_ends_long = e.static_ends ∙ sym e.dumped;
        labels_long = e.slot_labels;
        weak_long = e.slot_weak;
        types_long = e.static_types;
      }
