-- `lookup_hints::over_lower` meets its contract: each id is stepped over at most once. Assumes nothing.
use Prim.Native.Nat.{◌+◌, ◌≤◌}
use Rattle.lookup_hints.proofs.over_lower.Given as goal

abbrev pub invariant-loop-x : goal.invariant-loop-x
invariant-loop-x l = l.place ≤ l.at + l.x-index
