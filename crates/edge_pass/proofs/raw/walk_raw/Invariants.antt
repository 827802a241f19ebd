-- `edge_pass::raw::walk_raw` meets its contract: the first k objects of the range are passed, and the marks of the others still stand. Assumes nothing.
use Prim.Native.Nat.{ℕ}
use mathlib.Core.List.{List}
use Rattle.edge_append.specs.Account.{AccountIn}
use Rattle.rules.specs.Tables.{object_table, slot_table, static_table, raw_route}
use Rattle.edge_pass.specs.Tables.{pass_classes, pass_input}
use Rattle.edge_pass.specs.Walk.{Walked}
use Rattle.edge_pass.specs.Range.{parts_from}
use Rattle.edge_pass.proofs.raw.walk_raw.Given as goal

abbrev pub invariant-loop-k : goal.invariant-loop-k
invariant-loop-k l =
    let x =
    pass_input
    (object_table (λ (l : List ℕ). l) l.ids l.kinds l.classes l.lengths)
    (pass_classes (λ (l : List ℕ). l) l.loaders l.class_kinds l.slot_starts l.slot_ends l.static_starts l.static_ends)
    (slot_table (λ (l : List ℕ). l) l.slot_offsets l.slot_labels l.slot_weak)
    (static_table (λ (l : List ℕ). l) l.static_names l.static_types l.static_values)
    (raw_route (λ (l : List ℕ). l) l.bytes l.size l.starts l.bodies)
    l.policy in
    Walked l.ids (parts_from x l.initial.working l.first) l.first l.k l.initial.s l.s l.initial.targets l.initial.labels l.initial.weak_from l.initial.weak_to l.initial.working l.initial.account l.targets l.labels l.weak_from l.weak_to l.working l.account
    × AccountIn l.account l.s
