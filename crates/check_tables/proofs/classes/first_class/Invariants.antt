-- `check_tables::classes::first_class` meets its contract: no class before this one is at fault, and none of its slots before this one. Assumes nothing.
use mathlib.Core.Path.{◌≡◌}
use Prim.Native.Nat.{◌-◌, ◌≤◌}
use lib.ListN.{length}
use Rattle.columns.specs.Lists.{◌!◌}
use Rattle.columns.proofs.First.{Searching, Passing}
use Rattle.rules.specs.Verdict.{bad_class, bad_slot}
use Rattle.check_tables.specs.Reads.{schema_columns}
use Rattle.check_tables.proofs.Faults.{low_of}
use Rattle.check_tables.proofs.classes.first_class.Given as goal

abbrev pub invariant-loop-slot : goal.invariant-loop-slot
invariant-loop-slot l =
    Passing (bad_slot (schema_columns l.dumped l.class_kinds l.slot_starts l.slot_ends l.static_starts l.static_ends l.slot_offsets l.slot_labels l.slot_weak l.static_names l.static_types l.names) l.class) (l.slot_starts ! l.class) (l.slot_ends ! l.class) l.slot
    × (l.low ≡ low_of l.slot_offsets (l.slot_starts ! l.class) (l.slot - l.slot_starts ! l.class))
    × (l.slot_ends ! l.class ≤ length l.slot_offsets)

abbrev pub invariant-loop-class : goal.invariant-loop-class
invariant-loop-class l =
    Searching (bad_class (schema_columns l.dumped l.class_kinds l.slot_starts l.slot_ends l.static_starts l.static_ends l.slot_offsets l.slot_labels l.slot_weak l.static_names l.static_types l.names))
    (length l.dumped) l.class
