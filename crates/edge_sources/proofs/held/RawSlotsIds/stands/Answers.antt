-- `edge_sources::held::RawSlots` tells where reading stops: by the offset read. Assumes nothing.
use mathlib.Core.Path.{ap}
use Prim.Native.Nat.{ℕ, ◌+◌}
use lib.Dec.{leb}
use Rattle.edge_append.specs.Raw.{slot_ends}
use Rattle.edge_sources.proofs.held.RawSlotsIds.stands.Goals as goal

pub returns : goal.returns
unfolding slot_ends
returns c = ap (λ (n : ℕ). leb (n + c.args.self.now.size) c.args.self.now.body) c.index.ensures
