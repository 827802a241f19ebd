-- `lookup::find_sorted` meets its contract: the id at the rank says whether it is found. Assumes nothing.
use native.Mathlib.Omega.{arith}
use Rattle.lookup.proofs.Search.{sought_at, sought_missing}
use Rattle.lookup.proofs.find_sorted.Goals as goal
use Rattle.lookup.proofs.find_sorted.Goals.{else-k-ids-via-then-k-ids+else-ids-k, else-k-ids-via-else-k-ids}

pub returns-then-ids-k : goal.returns-then-ids-k
returns-then-ids-k c = sought_at c.if-k-ids.true c.if-ids-k.true

pub returns : goal.returns
returns c = sought_missing c.near-k.ensures (λ l. elim c.else-k-ids.branch [
  | else-k-ids-via-then-k-ids+else-ids-k w ↦ w.if-ids-k.false
  | else-k-ids-via-else-k-ids w ↦ absurd (omega arith)
])
