-- `check_place_steps::in_order` meets its contract: the parts so far hold no more than the codes up to the end of the last. Assumes nothing.
use Prim.Native.Nat.{◌≤◌}
use lib.ListN.{length}
use Rattle.columns.specs.Lists.{total}
use Rattle.check_place_steps.specs.Place.{one_code, codes_in}
use Rattle.check_place_steps.proofs.in_order.Given as goal

abbrev pub invariant-loop-o : goal.invariant-loop-o
invariant-loop-o l = (l.o ≤ length l.kinds) × (l.end ≤ length l.codes) × (total (codes_in l.kinds l.classes l.lengths l.slot_starts l.slot_ends l.codes l.starts) l.o ≤ total (one_code l.codes 0) l.end)
