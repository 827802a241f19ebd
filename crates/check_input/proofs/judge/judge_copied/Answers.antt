-- `check_input::judge::judge_copied` meets its contract: test by test. Assumes nothing.
use mathlib.Core.Path.{refl, sym, ◌∙◌}
use mathlib.Core.List.{[], ◌∷◌}
use Rattle.std.proofs.lemmas.Result.{err_from_is_err_and}
use Rattle.columns.specs.Columns.{accepts}
use Rattle.rules.specs.Input.{slot_count, element_count}
use Rattle.rules.specs.Verdict.{bad_lengths, schema_lengths, route_lengths, bad_limit, limits, over_limit, bad_size, bad_copied, bad_span, bad_part}
use Rattle.rules.proofs.Types.{refusal_refuses}
use Rattle.rules.proofs.Even.{objects-even, copied-even}
use Rattle.check_tables.proofs.Even.{with_none}
use Rattle.check_input.specs.Flat.{faults_late}
use Rattle.check_input.proofs.Chain.{before_lengths, before_limit, tables_refuse, tables_pass, refused, dumped_even, tables_even}
use Rattle.check_input.proofs.judge.judge_copied.Goals as goal

pub returns-then-copied_lengths : goal.returns-then-copied_lengths
unfolding bad_lengths route_lengths schema_lengths
returns-then-copied_lengths c = record { result_value = before_lengths _ _ (sym c.copied_lengths.ensures ∙ c.if-copied_lengths.true); working_value = refused 0 (0 ∷ []) }

pub returns-then-over_limit : goal.returns-then-over_limit
unfolding bad_lengths bad_limit bad_size limits over_limit route_lengths schema_lengths
returns-then-over_limit c = record {
  result_value = before_limit _ _ (sym c.copied_lengths.ensures ∙ c.if-copied_lengths.false) (with_none _ ∙ sym c.over_limit.ensures ∙ c.if-over_limit.true);
  working_value = refused 1 (0 ∷ []);
}

pub judge_tables-requires : goal.judge_tables-requires
judge_tables-requires c =
    let even = sym c.copied_lengths.ensures ∙ c.if-copied_lengths.false in
    let o = objects-even _ even in
    record { kinds_len = o.0; classes_len = o.1; lengths_len = o.2; dumped_len = dumped_even _ even; tables = tables_even _ even; working_value = c.requires }

pub returns-in_err-judge_tables-clause-result_value : goal.returns-in_err-judge_tables-clause-result_value
unfolding bad_lengths bad_limit bad_size limits over_limit route_lengths schema_lengths
returns-in_err-judge_tables-clause-result_value c = let p = err_from_is_err_and c.from_residual.result c.from_residual.ensures.1 in
    rw (p.1, p.2) (tables_refuse _ _ (sym c.copied_lengths.ensures ∙ c.if-copied_lengths.false) (with_none _ ∙ sym c.over_limit.ensures ∙ c.if-over_limit.false)
    c.in_err-judge_tables.ensures.result_value (refusal_refuses _))

pub judge_ids-requires : goal.judge_ids-requires
judge_ids-requires c =
    let even = sym c.copied_lengths.ensures ∙ c.if-copied_lengths.false in
    let o = objects-even _ even in
    let r = copied-even _ even _ refl in
    let t = tables_even _ even in
    record { kinds_len = o.0; classes_len = o.1; lengths_len = o.2; starts_len = r.1; slot_ends_len = t.slot_ends_long ∙ sym t.slot_starts_long; escape_ids_len = r.0 }

pub returns : goal.returns
unfolding accepts bad_copied bad_lengths bad_limit bad_part bad_size bad_span element_count faults_late limits over_limit route_lengths schema_lengths slot_count
returns c = record {
  result_value = c.judge_ids.ensures ∙ tables_pass _ _ (sym c.copied_lengths.ensures ∙ c.if-copied_lengths.false) (with_none _ ∙ sym c.over_limit.ensures ∙ c.if-over_limit.false)
      c.in_ok-judge_tables.ensures.result_value refl;
  working_value = λ ok. c.in_ok-judge_tables.ensures.working_value refl;
}
