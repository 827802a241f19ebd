-- Columns of one table that do not differ have one length. Assumes nothing.
use mathlib.Core.Path.{◌≡◌}
use mathlib.Core.Bool.{false}
use lib.ListN.{length}
use borrow.Author.Tests.{eqb-true, not-false}
use Rattle.columns.proofs.Tests.{none_of}
use Rattle.rules.specs.Input.{Input, Schema, Copied, Raw, Route.copied, Route.raw, object_count, class_count}
use Rattle.rules.specs.Verdict.{schema_lengths, route_lengths, bad_lengths}

-- the columns of the classes, the slots and the statics
pub record EvenSchema (s : Schema) : Type 0 where
  pub loaders : length s.classes.loaders ≡ class_count s
  pub dumped : length s.classes.dumped ≡ class_count s
  pub kinds : length s.classes.kinds ≡ class_count s
  pub slot_starts : length s.classes.slot_start ≡ class_count s
  pub slot_ends : length s.classes.slot_end ≡ class_count s
  pub static_starts : length s.classes.static_start ≡ class_count s
  pub static_ends : length s.classes.static_end ≡ class_count s
  pub slot_labels : length s.slots.labels ≡ length s.slots.offsets
  pub slot_weak : length s.slots.weak ≡ length s.slots.offsets
  pub static_types : length s.statics.types ≡ length s.statics.names
  pub static_values : length s.statics.values ≡ length s.statics.names

pub schema_even : (s : Schema) → schema_lengths s ≡ false → EvenSchema s
unfolding schema_lengths
schema_even s h =
    let d = none_of _ h in
    record {
      loaders = eqb-true _ _ (not-false _ (none_of _ (d 0) 0));
      dumped = eqb-true _ _ (not-false _ (none_of _ (d 0) 1));
      kinds = eqb-true _ _ (not-false _ (none_of _ (d 0) 2));
      slot_starts = eqb-true _ _ (not-false _ (none_of _ (d 1) 0));
      slot_ends = eqb-true _ _ (not-false _ (none_of _ (d 1) 1));
      static_starts = eqb-true _ _ (not-false _ (none_of _ (d 1) 2));
      static_ends = eqb-true _ _ (not-false _ (none_of _ (d 1) 3));
      slot_labels = eqb-true _ _ (not-false _ (none_of _ (d 2) 0));
      slot_weak = eqb-true _ _ (not-false _ (none_of _ (d 2) 1));
      static_types = eqb-true _ _ (not-false _ (none_of _ (d 3) 0));
      static_values = eqb-true _ _ (not-false _ (none_of _ (d 3) 1));
    }

module _ (x : Input) (h : bad_lengths x ≡ false) where
  pub schema_lengths_lem : schema_lengths x.schema ≡ false
  unfolding bad_lengths
  schema_lengths_lem = none_of _ h 1

  pub input_even : EvenSchema x.schema
  input_even = schema_even x.schema schema_lengths_lem

  pub objects-even : (length x.objects.kinds ≡ object_count x) × (length x.objects.classes ≡ object_count x) ×
      (length x.objects.lengths ≡ object_count x)
  unfolding bad_lengths
  objects-even =
      let d = none_of _ (none_of _ h 0) in
      (eqb-true _ _ (not-false _ (d 0)), eqb-true _ _ (not-false _ (d 1)), eqb-true _ _ (not-false _ (d 2)))

  pub copied-even : (c : Copied) → x.route ≡ copied c → (length c.ids.ids ≡ length c.ids.places) × (length c.starts ≡ object_count x)
  unfolding bad_lengths route_lengths
  copied-even c e =
      let d = rw e at (none_of _ h 2) in
      (eqb-true _ _ (not-false _ (none_of _ (none_of _ d 0) 0)), eqb-true _ _ (not-false _ (none_of _ (none_of _ d 1) 0)))

  pub raw-even : (r : Raw) → x.route ≡ raw r → (length r.starts ≡ object_count x) × (length r.lengths ≡ object_count x)
  unfolding bad_lengths route_lengths
  raw-even r e = let d = none_of _ (rw e at (none_of _ h 2)) in (eqb-true _ _ (not-false _ (d 0)), eqb-true _ _ (not-false _ (d 1)))
