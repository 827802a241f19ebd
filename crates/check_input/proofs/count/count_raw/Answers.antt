-- `check_input::count::count_raw` meets its contract: the tests before, then the places. Assumes nothing.
use mathlib.Core.Path.{refl}
use Rattle.std.proofs.lemmas.Result.{err_from_is_err_and}
use Rattle.columns.specs.Columns.{accepts}
use Rattle.check_input.proofs.Sound.{sound, class_tables, part_tables, raw-counted}
use Rattle.check_input.proofs.Join.{count_refused, count_all}
use Rattle.check_input.proofs.count.count_raw.Goals as goal

pub returns-in_err-judge_raw : goal.returns-in_err-judge_raw
returns-in_err-judge_raw c = let p = err_from_is_err_and c.from_residual.result c.from_residual.ensures.1 in
    rw (p.1, p.2) (count_refused _ _ c.in_err-judge_raw.ensures.result_value)

pub raw_places-places-requires : goal.raw_places-places-requires
unfolding accepts
raw_places-places-requires c =
    let h = sound _ _ c.in_ok-judge_raw.ensures.result_value refl in
    record { part_tables = part_tables _ h; class_tables = class_tables _ h }

pub returns : goal.returns
unfolding accepts
returns c = count_all _ _ c.in_ok-judge_raw.ensures.result_value (λ h. raw-counted _ h _ refl) (rw c.raw_places-places.ensures at c.limited.ensures) (c.in_ok-judge_raw.ensures.working_value refl)
