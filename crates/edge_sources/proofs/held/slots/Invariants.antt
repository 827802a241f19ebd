-- `edge_sources::held::slots` meets its contract: the first k slots stand inside and are appended, and the reader reads on as it did. Assumes nothing.
use mathlib.Core.Path.{◌≡◌}
use Prim.Native.Nat.{ℕ}
use Rattle.columns.specs.Lists.{tab, leading}
use Rattle.edge_append.specs.Append.{Appended}
use Rattle.edge_sources.specs.Ids.{held_slot}
use Rattle.edge_sources.proofs.held.slots.Given as goal

abbrev pub invariant-loop-k : goal.invariant-loop-k
invariant-loop-k g l = record {
  ids : g.I.Ids.id_at l.held ≡ g.I.Ids.id_at l.initial.held;
  insides : g.I.Ids.inside l.held ≡ g.I.Ids.inside l.initial.held;
  on : (j : ℕ) → g.I.Ids.can_read l.initial.held j → g.I.Ids.can_read l.held j;
  all : leading (g.I.Ids.inside l.initial.held) l.k ≡ l.k;
  appended : Appended l.ids (tab (held_slot (g.I.Ids.id_at l.initial.held) l.slot_labels l.slot_weak l.keeps l.first) l.k) l.initial.s l.s l.initial.targets l.initial.labels l.initial.weak_to l.targets l.labels l.weak_to;
}
