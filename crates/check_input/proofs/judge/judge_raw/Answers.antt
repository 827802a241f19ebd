-- `check_input::judge::judge_raw` meets its contract: test by test. Assumes nothing.
use mathlib.Core.Path.{refl, sym, ◌∙◌}
use mathlib.Core.List.{[], ◌∷◌}
use Rattle.std.proofs.lemmas.Result.{err_from_is_err_and}
use Rattle.columns.specs.Columns.{accepts}
use Rattle.rules.specs.Verdict.{bad_lengths, schema_lengths, route_lengths, bad_limit, limits, over_limit, bad_size, bad_copied, bad_span, bad_part}
use Rattle.rules.proofs.Types.{refusal_refuses}
use Rattle.rules.proofs.Even.{objects-even, raw-even}
use Rattle.check_tables.proofs.Even.{two_first, two_second, two_none}
use Rattle.check_input.specs.Flat.{faults_late}
use Rattle.check_input.proofs.Chain.{before_lengths, before_limit, tables_refuse, tables_pass, refused, dumped_even, tables_even, size_small}
use Rattle.check_input.proofs.judge.judge_raw.Goals as goal
use Rattle.check_input.proofs.judge.judge_raw.Goals.{then-over_limit-via-then-over_limit, then-over_limit-via-else-over_limit+then-bad_size}

pub returns-then-raw_lengths : goal.returns-then-raw_lengths
unfolding bad_lengths route_lengths schema_lengths
returns-then-raw_lengths c = record { result_value = before_lengths _ _ (sym c.raw_lengths.ensures ∙ c.if-raw_lengths.true); working_value = refused 0 (0 ∷ []) }

pub returns-then-over_limit : goal.returns-then-over_limit
unfolding bad_lengths bad_limit bad_size limits over_limit route_lengths schema_lengths
returns-then-over_limit c = record {
  result_value = before_limit _ _ (sym c.raw_lengths.ensures ∙ c.if-raw_lengths.false)
      (elim c.then-over_limit.branch [
        | then-over_limit-via-then-over_limit w ↦ sym (two_first _ _ (sym c.over_limit.ensures ∙ w.if-over_limit.true))
        | then-over_limit-via-else-over_limit+then-bad_size w ↦ sym (two_second _ _ (sym w.bad_size.ensures ∙ w.if-bad_size.true))
      ]);
  working_value = refused 1 (0 ∷ []);
}

pub judge_tables-requires : goal.judge_tables-requires
judge_tables-requires c =
    let even = sym c.raw_lengths.ensures ∙ c.if-raw_lengths.false in
    let o = objects-even _ even in
    record { kinds_len = o.0; classes_len = o.1; lengths_len = o.2; dumped_len = dumped_even _ even; tables = tables_even _ even; working_value = c.requires }

pub returns-in_err-judge_tables-clause-result_value : goal.returns-in_err-judge_tables-clause-result_value
unfolding bad_lengths bad_limit bad_size limits over_limit route_lengths schema_lengths
returns-in_err-judge_tables-clause-result_value c = let p = err_from_is_err_and c.from_residual.result c.from_residual.ensures.1 in
    rw (p.1, p.2) (tables_refuse _ _ (sym c.raw_lengths.ensures ∙ c.if-raw_lengths.false) (sym (two_none _ _ (sym c.over_limit.ensures ∙ c.if-over_limit.false) (sym c.bad_size.ensures ∙ c.if-bad_size.false)))
    c.in_err-judge_tables.ensures.result_value (refusal_refuses _))

pub judge_bodies-requires : goal.judge_bodies-requires
judge_bodies-requires c =
    let even = sym c.raw_lengths.ensures ∙ c.if-raw_lengths.false in
    let o = objects-even _ even in
    let r = raw-even _ even _ refl in
    record { kinds_len = o.0; lengths_len = o.2; starts_len = r.0; bodies_len = r.1; size_bound = size_small c.args.size (sym c.bad_size.ensures ∙ c.if-bad_size.false) }

pub returns : goal.returns
unfolding accepts bad_copied bad_lengths bad_limit bad_part bad_size bad_span faults_late limits over_limit route_lengths schema_lengths
returns c = record {
  result_value = c.judge_bodies.ensures ∙ tables_pass _ _ (sym c.raw_lengths.ensures ∙ c.if-raw_lengths.false) (sym (two_none _ _ (sym c.over_limit.ensures ∙ c.if-over_limit.false) (sym c.bad_size.ensures ∙ c.if-bad_size.false)))
      c.in_ok-judge_tables.ensures.result_value refl;
  working_value = λ ok. c.in_ok-judge_tables.ensures.working_value refl;
}
