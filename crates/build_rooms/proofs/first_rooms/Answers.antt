-- `build_rooms::first_rooms` meets its contract. Assumes nothing.
use Rattle.std.proofs.lemmas.Result.{err_from_is_err_and}
use Rattle.build_rooms.proofs.Tests.{room_short, room_enough, room_refused}
use Rattle.build_rooms.proofs.first_rooms.Goals as goal

pub returns-in_err-places : goal.returns-in_err-places
returns-in_err-places c = let a = c.args in
    let p = err_from_is_err_and c.from_residual.result c.from_residual.ensures.1 in
    rw (p.1, p.2, c.in_err-places.was) (room_refused 0 a.weak a.roots _ _ c.in_err-places.field-0.0)

pub returns-in-Some : goal.returns-in-Some
returns-in-Some c = let a = c.args in
    rw c.in_ok-places.was (room_short c.in_ok-places.places a.weak a.roots _ _ c.in-Some.ensures)

pub returns : goal.returns
returns c = let a = c.args in
    rw c.in_ok-places.was (room_enough c.in_ok-places.places a.weak a.roots _ _ c.in_default.ensures)
