-- `ask_reader::edge_at` meets its contract: by what stands there, its target and its label. Assumes nothing.
use native.Mathlib.Omega.{arith}
use Rattle.std.proofs.lemmas.Result.{err_from_is_err_and}
use Rattle.ask_reader.proofs.Stands.{edge-out, edge_is, edge_none}
use Rattle.ask_reader.proofs.edge_at.Goals as goal

pub returns-in_default : goal.returns-in_default
returns-in_default c = edge_none _ _ _ _ _ _ c.in_default.ensures

pub returns-then-objects-index : goal.returns-then-objects-index
returns-then-objects-index c = edge-out _ _ _ _ _ _ c.in-Some.ensures (omega (arith, c.index.ensures))

pub returns-in_err-label : goal.returns-in_err-label
returns-in_err-label c = let p = err_from_is_err_and c.from_residual.result c.from_residual.ensures.1 in
    rw p.1 (edge_is _ _ _ _ _ _ c.in-Some.ensures (omega (arith, c.index.ensures)) c.in_err-label.ensures)

pub returns : goal.returns
returns c = edge_is _ _ _ _ _ _ c.in-Some.ensures (omega (arith, c.index.ensures)) c.in_ok-label.ensures
