-- `lookup_hints::put` meets its contract: both halves are written, or none. Assumes nothing.
use Rattle.lookup_hints.proofs.Hinting.{hint_put, hint_out}
use Rattle.lookup_hints.proofs.put.Goals as goal

pub returns-then-bucket-short : goal.returns-then-bucket-short
returns-then-bucket-short c = hint_put _ _ _ c.if-bucket-short.true c.write.ensures c.write-then-bucket-short.ensures

pub returns-else-bucket-short : goal.returns-else-bucket-short
returns-else-bucket-short c = hint_out _ _ _ c.if-bucket-short.false
