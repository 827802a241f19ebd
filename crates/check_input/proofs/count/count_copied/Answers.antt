-- `check_input::count::count_copied` meets its contract: the tests before, then the places. Assumes nothing.
use mathlib.Core.Path.{refl}
use Rattle.std.proofs.lemmas.Result.{err_from_is_err_and}
use Rattle.columns.specs.Columns.{accepts}
use Rattle.check_input.proofs.Sound.{sound, told-before, class_tables, code_tables, copied_counted}
use Rattle.check_input.proofs.Join.{count_refused, count_fit}
use Rattle.check_input.proofs.count.count_copied.Goals as goal

pub returns-in_err-held : goal.returns-in_err-held
returns-in_err-held c = let p = err_from_is_err_and c.from_residual.result c.from_residual.ensures.1 in
    rw (p.1, p.2) (count_refused _ _ c.in_err-held.ensures.result_value)

pub fit_places-places-requires : goal.fit_places-places-requires
unfolding accepts
fit_places-places-requires c =
    let h = sound _ _ c.in_ok-held.ensures.result_value refl in
    record { held_value = told-before _ _ c.in_ok-held.ensures.result_value refl; code_tables = code_tables _ h _ refl; class_tables = class_tables _ h }

pub returns : goal.returns
unfolding accepts
returns c =
    count_fit _ _ c.in_ok-held.ensures.result_value _ (λ h. copied_counted _ h _ refl) c.least_room.ensures c.fit_places-places.ensures c.limited.ensures (c.in_ok-held.ensures.working_value refl)
