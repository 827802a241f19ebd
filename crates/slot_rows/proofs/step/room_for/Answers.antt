-- `slot_rows::step::room_for` meets its contract: the shortest column says how many. Assumes nothing.
use mathlib.Core.Path.{sym}
use native.Mathlib.Omega.{arith}
use Rattle.slot_rows.proofs.Laws.{too_short, room_enough}
use Rattle.slot_rows.proofs.step.room_for.Goals as goal

pub returns-then-min-n-clause-room : goal.returns-then-min-n-clause-room
returns-then-min-n-clause-room c = let a = c.args in sym (too_short a.n a.a a.b a.c (omega arith))

pub returns-else-min-n-clause-room : goal.returns-else-min-n-clause-room
returns-else-min-n-clause-room c = let a = c.args in sym (room_enough a.n a.a a.b a.c (omega arith))
