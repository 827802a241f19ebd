-- `need_weak::raw::slots` meets its contract: the first k slots end within the body, and n is the number of their pairs. Assumes nothing.
use mathlib.Core.Path.{◌≡◌}
use mathlib.Core.Bool.{false}
use mathlib.Core.List.{[]}
use Prim.Native.Nat.{◌≤◌}
use Rattle.columns.specs.Lists.{tab}
use Rattle.edge_append.specs.Raw.{raw_slot, slots_read}
use Rattle.need_weak.specs.Pairs.{pairs_in}
use Rattle.need_weak.proofs.raw.slots.Given as goal

abbrev pub invariant-loop-k : goal.invariant-loop-k
invariant-loop-k l = (l.n ≤ l.k) × (slots_read l.slot_offsets l.size l.body l.first l.k ≡ l.k) × (l.n ≡ pairs_in l.ids (tab (raw_slot l.bytes l.size l.start l.slot_offsets [] l.slot_weak false l.first) l.k))
