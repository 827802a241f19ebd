-- `ask_short_edges::plain_edge` meets its contract: by the target and the label. Assumes nothing.
use native.Mathlib.Omega.{arith}
use borrow.Author.Tests.{le-leb, lt-leb}
use Rattle.std.proofs.lemmas.Result.{err_from_is_err_and}
use Rattle.ask_short_edges.proofs.plain_edge.Goals as goal

pub returns-then-objects-index : goal.returns-then-objects-index
returns-then-objects-index c = rw (le-leb c.args.objects c.args.target (omega (arith, c.index.ensures)))

pub returns-in_err-label : goal.returns-in_err-label
returns-in_err-label c = let p = err_from_is_err_and c.from_residual.result c.from_residual.ensures.1 in
    rw (p.1, lt-leb c.args.objects c.args.target (omega (arith, c.index.ensures)), ← c.in_err-label.ensures)

pub returns : goal.returns
returns c = rw (lt-leb c.args.objects c.args.target (omega (arith, c.index.ensures)), ← c.in_ok-label.ensures)
