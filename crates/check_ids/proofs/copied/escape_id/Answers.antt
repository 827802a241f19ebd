-- `check_ids::copied::escape_id` meets its contract: by whether the row is there. Assumes nothing.
use mathlib.Core.Path.{sym, ◌∙◌}
use native.Mathlib.Omega.{arith}
use Rattle.check_ids.proofs.Walking.{row_within}
use Rattle.check_ids.proofs.copied.escape_id.Goals as goal

pub offset_bounds-escape_ids-k : goal.offset_bounds-escape_ids-k
offset_bounds-escape_ids-k c = omega (arith, row_within _ _ _ (sym c.has_row.ensures ∙ c.if-has_row.true))

pub bounds-escape_ids-k : goal.bounds-escape_ids-k
bounds-escape_ids-k c = omega (arith, row_within _ _ _ (sym c.has_row.ensures ∙ c.if-has_row.true))
