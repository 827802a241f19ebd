-- `edge_weak::close_run` meets its contract: filled, then sorted. Assumes nothing.
use Rattle.edge_weak.proofs.Filled.{run_filled}
use Rattle.edge_weak.proofs.close_run.Goals as goal

pub returns : goal.returns
returns c = let a = c.args in
    record {
      objects = run_filled a.weak_from.now a.from a.to a.object c.requires.0 c.requires.1 (c.fill.ensures.after (λ y h. h));
      sorted = c.sort_run.ensures;
    }
