-- `edge_sources::escape::whole_id` meets its contract: by whether the id is 0. Assumes nothing.
use Prim.Native.Nat.{◌<◌, ◌^◌}
use native.Mathlib.Omega.{arith}
use borrow.Author.Tests.{eq-eqb, ne_eqb, lt-leb}
use Rattle.columns.specs.Lists.{any_of}
use Rattle.columns.specs.Columns.{accepts}
use Rattle.index.specs.Copied.{whole}
use Rattle.edge_sources.proofs.escape.whole_id.Goals as goal

pub returns-then-id-eq0 : goal.returns-then-id-eq0
unfolding whole any_of accepts
returns-then-id-eq0 c = simp (eq-eqb _ _ c.if-id-eq0.true)

pub returns : goal.returns
unfolding whole any_of accepts
returns c = let l : c.args.id < 2 ^ 64 = omega arith in
    simp (ne_eqb _ _ c.if-id-eq0.false, lt-leb _ _ l)
