-- `ask_late::behind_escape` meets its contract: the row of an escaped element has an element's label. Assumes nothing.
use mathlib.Core.Path.{sym, ◌∙◌}
use Rattle.ask_late.proofs.Steps.{escape_element, behind-row}
use Rattle.ask_late.proofs.behind_escape.Goals as goal

pub overflow_sub-row : goal.overflow_sub-row
overflow_sub-row c = escape_element _ _ _ _ (sym c.in_ok-row.ensures)

pub returns : goal.returns
returns c = let says = sym c.in_ok-row.ensures in
    c.element.ensures ∙ behind-row c.args.steps (escape_element _ _ _ _ says) says
