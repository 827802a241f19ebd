-- `columns::zero` meets its contract: the part from `from` on is filled with zeros. Assumes nothing.
use Rattle.columns.proofs.Written.{filled_from}
use Rattle.columns.proofs.zero.Goals as goal

pub returns-then-from-d : goal.returns-then-from-d
returns-then-from-d g c = let a = c.args in
    let f = c.fill.ensures.after (g.met.T.Number.copies c.zero.result).1 in
    rw (g.met.T.Number.clears a.from a.d.now, ← c.zero.ensures) (filled_from a.from a.d.now c.zero.result f)
