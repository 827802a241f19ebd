-- `label_ranks::count_uses` meets its contract: the labels so far are counted. Assumes nothing.
use mathlib.Core.Path.{ap}
use mathlib.Core.List.{List}
use Prim.Native.Nat.{ℕ}
use native.Mathlib.Omega.{arith}
use Rattle.columns.specs.Lists.{◌!◌}
use Rattle.label_ranks.proofs.Uses.{zeros_few}
use Rattle.label_ranks.proofs.count_uses.Goals as goal

pub overflow_add-counting : goal.overflow_add-counting
overflow_add-counting c = let a = c.args in
    omega (
      arith,
      zeros_few a.names a.counting.now a.labels.now c.loop-label.label-index c.slot_of.result c.requires.1,
      ap (λ (t : List ℕ). t ! c.slot_of.result) c.loop-label.invariant,
    )
