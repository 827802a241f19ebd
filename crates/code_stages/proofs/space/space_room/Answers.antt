-- `code_stages::space::space_room` meets its contract. A refusal is handed on; where buffer 9 is short the buffers decide in order. Assumes nothing.
use mathlib.Core.Path.{sym, ap, ◌∙◌}
use native.Mathlib.Omega.{arith}
use mathlib.Core.List.{[], ◌∷◌}
use Prim.Native.Nat.{ℕ}
use lib.ListN.{length}
use Rattle.rules.specs.Types.{built_says}
use Rattle.code_stages.specs.Stages.{label_room}
use Rattle.code_stages.proofs.Laws.{accepts-done, handed, space_handed, space_short_lem, space_fits}
use Rattle.code_stages.proofs.space.space_room.Goals as goal

pub returns-in_err-c : goal.returns-in_err-c
returns-in_err-c c = let a = c.args in
    let p = handed c.in_err-c.was c.from_residual.ensures.1 in
    rw p.0 (space_handed (built_says a.v) _ (length a.labels.now) a.names a.escape_at a.escape_label a.edge_codes a.counting a.ranking p.1)

pub overflow_add-names : goal.overflow_add-names
overflow_add-names c = omega (arith, (c.requires (accepts-done c.in_ok-c.was)).all.few_names)

pub escapes_without-rows-requires : goal.escapes_without-rows-requires
escapes_without-rows-requires c = c.requires (accepts-done c.in_ok-c.was)

pub returns-then-is_short : goal.returns-then-is_short
returns-then-is_short c = let a = c.args in
    space_short_lem (built_says a.v) _ (length a.labels.now) a.names a.escape_at a.escape_label a.edge_codes a.counting a.ranking (accepts-done c.in_ok-c.was)
    (sym c.is_short.ensures ∙ c.if-is_short.true)
    (c.first_short.ensures ∙ ap (λ (n : ℕ). label_room n (length a.labels.now) a.escape_at a.escape_label a.edge_codes (9 ∷ 9 ∷ [])) c.escapes_without-rows.ensures)

pub returns : goal.returns
returns c = let a = c.args in
    ap built_says (sym c.in_ok-c.was)
    ∙ space_fits (built_says a.v) _ (length a.labels.now) a.names a.escape_at a.escape_label a.edge_codes a.counting a.ranking (accepts-done c.in_ok-c.was)
    (sym c.is_short.ensures ∙ c.if-is_short.false)
