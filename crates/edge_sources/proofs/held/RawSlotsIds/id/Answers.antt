-- `edge_sources::held::RawSlots` reads the id of a slot that ends within the body. Assumes nothing.
use mathlib.Core.Path.{ap, ◌∙◌}
use Prim.Native.Nat.{ℕ, ◌+◌}
use native.Mathlib.Omega.{arith}
use borrow.Author.Tests.{leb-true}
use Rattle.edge_append.specs.Raw.{bytes_id, slot_ends}
use Rattle.edge_sources.proofs.held.RawSlotsIds.id.Goals as goal

pub id_at_bytes-requires : goal.id_at_bytes-requires
unfolding slot_ends
id_at_bytes-requires c =
    let h = c.requires.can.1 in
    let ends = leb-true _ _ c.requires.stands in
    (omega (arith, h.inside, ends, c.index-spot.ensures), h.short)

pub returns-clause-id : goal.returns-clause-id
unfolding bytes_id
returns-clause-id c = let s = c.args.self.now in
    c.id_at_bytes.ensures ∙ ap (λ (n : ℕ). bytes_id s.bytes.now s.size (s.start + n)) c.index-spot.ensures
