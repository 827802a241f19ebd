-- `edge_sources::raw::id_at_bytes` meets its contract: the bytes by their worth. Assumes nothing.
use Prim.Native.Nat.{ℕ, ◌+◌}
use mathlib.Core.Path.{◌≡◌, ap, ◌∙◌}
use native.Mathlib.Omega.{arith}
use Rattle.columns.specs.Lists.{part}
use Rattle.rules.specs.Input.{big_endian}
use Rattle.edge_sources.proofs.Words.{four_bytes}
use Rattle.edge_sources.proofs.raw.id_at_bytes.Goals as goal

pub returns-then-size-eq4 : goal.returns-then-size-eq4
returns-then-size-eq4 c = let a = c.args in
    let e : 4 ≡ a.size = omega arith in
    c.from.ensures ∙ c.from_be_bytes-then-size-eq4.ensures ∙ four_bytes a.bytes.now a.at (omega arith) ∙ ap (λ (n : ℕ). big_endian 0 (part a.bytes.now a.at (a.at + n))) e
