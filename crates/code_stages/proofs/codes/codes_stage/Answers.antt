-- `code_stages::codes::codes_stage` meets its contract. A refusal is handed on; else the buffers decide in order. Assumes nothing.
use mathlib.Core.Path.{◌≡◌, refl, sym, ap, ◌∙◌}
use native.Mathlib.Omega.{arith}
use mathlib.Core.Bool.{true, false}
use mathlib.Core.List.{[], ◌∷◌}
use Prim.Native.Nat.{ℕ, ◌<◌}
use lib.Dec.{ltb}
use lib.ListN.{length, set}
use Rattle.columns.specs.Lists.{any_of}
use Rattle.columns.specs.Columns.{accepts}
use Rattle.std.specs.Prelude.{Result}
use Rattle.rules.specs.declared.Counts.{Counts}
use Rattle.rules.specs.declared.Refusal.{Refusal}
use Rattle.rules.specs.Types.{built_says}
use Rattle.labels.specs.Coding.{escapes_in}
use Rattle.code_stages.specs.Stages.{codes_all, label_room}
use Rattle.code_stages.proofs.Laws.{accepts-done, handed, label_refuses, label-codes-short, label_escapes_short, codes-handed, codes-short, codes-rows, codes-coded, short_none}
use Rattle.code_stages.proofs.codes.codes_stage.Goals as goal

seven : accepts (9 ∷ 7 ∷ []) ≡ false
unfolding accepts
seven = refl

pub returns-in_err-c : goal.returns-in_err-c
returns-in_err-c c = let a = c.args in
    let p = handed c.in_err-c.was c.from_residual.ensures.1 in
    rw p.0 (codes-handed (built_says a.v) a.names a.table.now a.offsets.now a.labels.now a.edge_codes.now a.escape_at.now a.escape_label.now p.1)

pub count_escapes-rows-requires : goal.count_escapes-rows-requires
count_escapes-rows-requires c = let p = c.requires (accepts-done c.in_ok-c.was) in
    (p.room, p.laid)

pub returns-then-edge_codes-edges : goal.returns-then-edge_codes-edges
returns-then-edge_codes-edges c =
    let rows : ℕ =
    escapes_in (codes_all c.args.names c.args.table.now c.args.offsets.now c.args.labels.now) in
    let a = c.args in
    let y = accepts-done c.in_ok-c.was in
    let n = rows in
    let e = length a.labels.now in
    let m₁ = length a.escape_at.now in
    let m₂ = length a.escape_label.now in
    let m₃ = length a.edge_codes.now in
    let few : m₃ < e = omega arith in
    codes-short (built_says a.v) a.names a.table.now a.offsets.now a.labels.now a.edge_codes.now a.escape_at.now a.escape_label.now
    y (label_room n e m₁ m₂ m₃ (9 ∷ 8 ∷ [])) (label_refuses n e m₁ m₂ m₃ 8)
    (c.first_short.ensures ∙ ap (λ (k : ℕ). label_room k e m₁ m₂ m₃ (9 ∷ 8 ∷ [])) c.count_escapes-rows.ensures.rows)
    (label-codes-short n e m₁ m₂ m₃ few (9 ∷ 8 ∷ []) (set (built_says a.v) 6 n))

pub code_objects-requires : goal.code_objects-requires
code_objects-requires c = let p = c.requires (accepts-done c.in_ok-c.was) in
    (p.room, p.laid, omega arith)

pub returns-then-is_short : goal.returns-then-is_short
returns-then-is_short c =
    let rows : ℕ =
    escapes_in (codes_all c.args.names c.args.table.now c.args.offsets.now c.args.labels.now) in
    let a = c.args in
    let y = accepts-done c.in_ok-c.was in
    let p = c.requires y in
    let n = rows in
    let e = length a.labels.now in
    let m₁ = length a.escape_at.now in
    let m₂ = length a.escape_label.now in
    let m₃ = length a.edge_codes.now in
    let is : c.count_escaped-rows.result ≡ n = c.count_escaped-rows.ensures
    ∙ codes-rows a.names a.table.now a.offsets.now a.labels.now a.edge_codes.now _ p.laid c.code_objects.ensures in
    let t : any_of (ltb m₁ n ∷ ltb m₂ n ∷ []) ≡ true = ap (λ (k : ℕ). any_of (ltb m₁ k ∷ ltb m₂ k ∷ [])) (sym is)
    ∙ sym c.is_short.ensures ∙ c.if-is_short.true in
    codes-short (built_says a.v) a.names a.table.now a.offsets.now a.labels.now a.edge_codes.now a.escape_at.now a.escape_label.now
    y (9 ∷ 7 ∷ []) seven refl (sym (label_escapes_short n e m₁ m₂ m₃ t (set (built_says a.v) 6 n)))

pub write_escapes-requires : goal.write_escapes-requires
write_escapes-requires c = let a = c.args in
    let f = short_none c.count_escaped-rows.result (length a.escape_at.now) (length a.escape_label.now)
    (sym c.is_short.ensures ∙ c.if-is_short.false) in record { labels_in_bounds = omega (arith, c.if-edge_codes-edges.false); room_for = record { at = omega (arith, c.count_escaped-rows.ensures, f.0); label = omega (arith, c.count_escaped-rows.ensures, f.1) } }

pub returns : goal.returns
returns c =
    let rows : ℕ =
    escapes_in (codes_all c.args.names c.args.table.now c.args.offsets.now c.args.labels.now) in
    let a = c.args in
    let y = accepts-done c.in_ok-c.was in
    let p = c.requires y in
    let n = rows in
    let e = length a.labels.now in
    let m₁ = length a.escape_at.now in
    let m₂ = length a.escape_label.now in
    let m₃ = length a.edge_codes.now in
    let is : c.count_escaped-rows.result ≡ n = c.count_escaped-rows.ensures
    ∙ codes-rows a.names a.table.now a.offsets.now a.labels.now a.edge_codes.now _ p.laid c.code_objects.ensures in
    let t : any_of (ltb m₁ n ∷ ltb m₂ n ∷ []) ≡ false = ap (λ (k : ℕ). any_of (ltb m₁ k ∷ ltb m₂ k ∷ [])) (sym is)
    ∙ sym c.is_short.ensures ∙ c.if-is_short.false in
    codes-coded (built_says a.v) a.names a.table.now a.offsets.now a.labels.now a.edge_codes.now a.escape_at.now a.escape_label.now
    y p.laid (omega (arith, p.room.few)) c.code_objects.ensures (omega (arith, c.if-edge_codes-edges.false)) t c.write_escapes.ensures
    (ap (λ (b : Result Counts Refusal). set (built_says b) 6 c.count_escaped-rows.result) (sym c.in_ok-c.was) ∙ ap (set (built_says a.v) 6) is)
