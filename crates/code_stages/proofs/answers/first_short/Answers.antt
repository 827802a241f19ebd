-- `code_stages::answers::first_short` meets its contract: the tests in order. Assumes nothing.
use mathlib.Core.Path.{◌≡◌, sym, ◌∙◌}
use mathlib.Core.Bool.{false}
use mathlib.Core.List.{[], ◌∷◌}
use lib.Dec.{ltb}
use native.Mathlib.Omega.{arith}
use borrow.Author.Tests.{lt-ltb, le-ltb}
use Rattle.columns.specs.Lists.{any_of}
use Rattle.code_stages.proofs.answers.first_short.Goals as goal

pub returns-then-edge_codes-edges : goal.returns-then-edge_codes-edges
unfolding any_of
returns-then-edge_codes-edges c = let a = c.args in
    let t : any_of (ltb a.escape_at a.escapes ∷ ltb a.escape_label a.escapes ∷ []) ≡ false = sym c.is_short.ensures ∙ c.if-is_short.false in
    rw (t, lt-ltb a.edge_codes a.edges (omega arith))

pub returns : goal.returns
unfolding any_of
returns c = let a = c.args in
    let t : any_of (ltb a.escape_at a.escapes ∷ ltb a.escape_label a.escapes ∷ []) ≡ false = sym c.is_short.ensures ∙ c.if-is_short.false in
    rw (t, le-ltb a.edge_codes a.edges (omega arith))
