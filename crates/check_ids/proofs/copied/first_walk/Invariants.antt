-- `check_ids::copied::first_walk` meets its contract: no code before p is bad, and the escapes before p have theirs up to `good`. Assumes nothing.
use Rattle.check_ids.specs.Copying.{id_columns}
use Rattle.check_ids.proofs.Walking.{Walk}
use Rattle.check_ids.proofs.copied.first_walk.Given as goal

abbrev pub invariant-loop-p : goal.invariant-loop-p
invariant-loop-p l = Walk (id_columns l.codes l.escape_places l.escape_ids l.base) l.p l.rows l.good
