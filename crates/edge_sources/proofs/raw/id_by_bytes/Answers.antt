-- `edge_sources::raw::id_by_bytes` meets its contract: the first bytes are read. Assumes nothing.
use native.Mathlib.Omega.{arith}
use Rattle.edge_append.proofs.Bytes.{big_next, high_fits, high_more}
use Rattle.edge_sources.proofs.raw.id_by_bytes.Goals as goal

pub overflow_mul-high : goal.overflow_mul-high
overflow_mul-high c = omega (arith, high_fits c.loop-b.b-index c.loop-b.high (omega arith) c.loop-b.invariant.0)

pub loop-b-preserved : goal.loop-b-preserved
loop-b-preserved c = (high_more c.loop-b.b-index c.loop-b.high _ c.loop-b.invariant.0 (omega arith), big_next _ c.loop-b.b-index c.loop-b-test.true c.loop-b.invariant.1)
