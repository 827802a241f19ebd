-- `ask_late::block_steps` meets its contract: sum has the steps of the first i codes of the block. Assumes nothing.
use Rattle.ask_late.proofs.Steps.{Summed}
use Rattle.ask_late.proofs.block_steps.Given as goal

abbrev pub invariant-loop-i : goal.invariant-loop-i
invariant-loop-i l = Summed l.edge_codes l.from l.sum l.i
