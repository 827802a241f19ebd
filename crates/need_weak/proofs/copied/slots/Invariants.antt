-- `need_weak::copied::slots` meets its contract: n is the number of pairs of the first k slots. Assumes nothing.
use mathlib.Core.Path.{◌≡◌}
use mathlib.Core.Bool.{false}
use mathlib.Core.List.{[]}
use Prim.Native.Nat.{◌≤◌}
use Rattle.columns.specs.Lists.{tab}
use Rattle.index.specs.Copied.{ids_of}
use Rattle.edge_append.specs.Held.{copied_slot}
use Rattle.need_weak.specs.Pairs.{pairs_in}
use Rattle.need_weak.proofs.copied.slots.Given as goal

abbrev pub invariant-loop-k : goal.invariant-loop-k
invariant-loop-k l = (l.n ≤ l.k) × (l.n ≡ pairs_in l.ids (tab (copied_slot (ids_of l.codes l.escape_places l.escape_ids l.base) l.start [] l.slot_weak false l.first) l.k))
