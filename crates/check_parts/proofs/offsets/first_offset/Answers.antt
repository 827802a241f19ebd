-- `check_parts::offsets::first_offset` meets its contract: the start, the first fall, the end. Assumes nothing.
use Rattle.check_parts.proofs.Faults.{offsets_none, offsets_start, offsets_fall, offsets_clean, offsets-end}
use native.Mathlib.Omega.{arith}
use Rattle.check_parts.proofs.offsets.first_offset.Goals as goal

pub returns-then-offsets-eq0 : goal.returns-then-offsets-eq0
returns-then-offsets-eq0 c = let a = c.args in offsets_none a.offsets.now a.edges (omega arith)

pub returns-then-offsets-gt0 : goal.returns-then-offsets-gt0
returns-then-offsets-gt0 c = let a = c.args in offsets_start a.offsets.now a.edges (omega arith) (omega arith)

pub returns-then-i-offsets : goal.returns-then-i-offsets
returns-then-i-offsets c = let a = c.args in offsets_fall a.offsets.now a.edges (omega arith) (omega arith) c.first_fall-i.ensures (omega arith)

pub returns-then-offsets-last : goal.returns-then-offsets-last
returns-then-offsets-last c = let a = c.args in offsets_clean a.offsets.now a.edges (omega arith) (omega arith) c.first_fall-i.ensures (omega arith) c.if-offsets-last.true

pub returns : goal.returns
returns c = let a = c.args in offsets-end a.offsets.now a.edges (omega arith) (omega arith) c.first_fall-i.ensures (omega arith) c.if-offsets-last.false
