-- `edge_pass::copied::edges_copied` meets its contract: a refusal stands, and else one pass goes over all objects. Assumes nothing.
use native.Mathlib.Omega.{arith}
use mathlib.Core.Path.{refl, ap, ◌∙◌}
use Rattle.std.specs.Prelude.{Err}
use Rattle.std.proofs.lemmas.Result.{err_from_is_err_and}
use Rattle.edge_pass.proofs.Stages.{from_escapes, from_passable, from-account, done_accepts, edged_from, edged_from_not}
use Rattle.edge_pass.proofs.copied.edges_copied.Goals as goal

pub walk_copied-q-requires : goal.walk_copied-q-requires
walk_copied-q-requires c = let h = c.requires (done_accepts c.in_ok-c.was) in
    let p = c.begun in record { rises = from_escapes h _ refl; fact = from_passable h (omega (arith, c.well_formed)) p.ensures; account_in = from-account h p.result }

pub returns-in_err-c : goal.returns-in_err-c
returns-in_err-c c = let p = err_from_is_err_and c.from_residual.result c.from_residual.ensures.1 in edged_from_not _ c.in_err-c.was (p.1 ∙ ap Err p.2)

pub returns : goal.returns
returns c = edged_from _ c.in_ok-c.was c.begun.ensures c.walk_copied-q.ensures c.counted.ensures
