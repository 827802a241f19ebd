-- `code_stages::fields::fields_room` meets its contract. A refusal is handed on; else either column may be short. Assumes nothing.
use mathlib.Core.Path.{refl, sym, ap, ◌∙◌}
use native.Mathlib.Omega.{arith}
use lib.ListN.{length, set}
use Rattle.std.specs.Prelude.{Result}
use Rattle.rules.specs.declared.Counts.{Counts}
use Rattle.rules.specs.declared.Refusal.{Refusal}
use Rattle.rules.specs.Types.{built_says}
use Rattle.code_stages.proofs.Laws.{accepts-done, handed, fields-handed, fields-short-table, fields-short, fields_fit}
use Rattle.code_stages.proofs.fields.fields_room.Goals as goal

pub returns-in_err-c : goal.returns-in_err-c
returns-in_err-c c = let p = handed c.in_err-c.was c.from_residual.ensures.1 in
    rw p.0 (fields-handed (built_says c.args.v) _ c.args.names c.args.fields (length c.args.table.now) p.1)

pub overflow_add-names : goal.overflow_add-names
overflow_add-names c = omega (arith, (c.requires (accepts-done c.in_ok-c.was)).few_names)

pub returns-then-table-names : goal.returns-then-table-names
returns-then-table-names c = let a = c.args in
    fields-short-table (built_says a.v) _ a.names a.fields (length a.table.now) (accepts-done c.in_ok-c.was) (omega arith) refl

pub count_fields-n-requires : goal.count_fields-n-requires
count_fields-n-requires c = let p = c.requires (accepts-done c.in_ok-c.was) in
    (record { few = omega (arith, p.few_names); long = omega arith }, p.ranges)

pub returns-then-fields-n : goal.returns-then-fields-n
returns-then-fields-n c = let a = c.args in
    fields-short (built_says a.v) _ a.names a.fields (length a.table.now) (accepts-done c.in_ok-c.was) (omega (arith, c.count_fields-n.ensures)) refl

pub returns : goal.returns
returns c = let a = c.args in
    fields_fit (built_says a.v) _ a.names a.fields (length a.table.now) (accepts-done c.in_ok-c.was) (omega (arith, c.if-table-names.false))
    (omega (arith, c.count_fields-n.ensures, c.if-fields-n.false))
    (ap (λ (b : Result Counts Refusal). set (built_says b) 5 c.count_fields-n.result) (sym c.in_ok-c.was) ∙ ap (set (built_says a.v) 5) c.count_fields-n.ensures)
