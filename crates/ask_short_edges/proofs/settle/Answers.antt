-- `ask_short_edges::settle` meets its contract: by whether all edges were read. Assumes nothing.
use mathlib.Core.Path.{sym, ◌∙◌}
use borrow.Author.Tests.{lt-ltb, le-ltb}
use Rattle.ask_short_edges.proofs.settle.Goals as goal

pub returns-then-read-count : goal.returns-then-read-count
returns-then-read-count c = let few = lt-ltb _ _ c.if-read-count.true in
    let e = c.refuse.ensures in
    record { reply = e.0 ∙ sym (rw few); targets = rw few e.1; labels = rw few e.2 }

pub returns : goal.returns
returns c = let all = le-ltb _ _ c.if-read-count.false in
    record { reply = sym (rw all); targets = rw all c.zero.ensures; labels = rw all c.zero-2.ensures }
