-- `edge_sources::raw::id_by_bytes` meets its contract: the first bytes are read. Assumes nothing.
use mathlib.Core.Path.{◌≡◌}
use Prim.Native.Nat.{◌^◌, ◌<◌}
use lib.ListN.{take}
use Rattle.rules.specs.Input.{big_endian}
use Rattle.edge_sources.proofs.raw.id_by_bytes.Given as goal

abbrev pub invariant-loop-b : goal.invariant-loop-b
invariant-loop-b l = (l.high < 256 ^ l.b-index) × (l.high ≡ big_endian 0 (take l.b-index l.b-items))
