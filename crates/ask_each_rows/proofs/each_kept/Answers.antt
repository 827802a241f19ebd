-- `ask_each_rows::each_kept` meets its contract: by the answer. Assumes nothing.
use mathlib.Core.Path.{◌∙◌}
use Rattle.rules.proofs.Types.{list_kept}
use Rattle.ask_each_rows.proofs.each_kept.Goals as goal

pub returns : goal.returns
returns c = c.unwrap_or.ensures ∙ list_kept c.args.answer
