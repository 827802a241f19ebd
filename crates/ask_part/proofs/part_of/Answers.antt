-- `ask_part::part_of` meets its contract: by the span, and whether it lies in the column. Assumes nothing.
use mathlib.Core.Path.{sym, ap, ◌∙◌}
use Rattle.rules.specs.Types.{span_says}
use Rattle.rules.proofs.Types.{read_refuses}
use Rattle.ask_part.specs.Part.{span_part}
use Rattle.ask_part.proofs.Parts.{part_none, part_falls, part_past, part_is}
use Rattle.ask_part.proofs.part_of.Goals as goal

pub returns-in_default : goal.returns-in_default
returns-in_default g c = sym (ap (λ s. span_part (span_says s) c.args.column.now) c.in_default.is ∙ part_none _ _ (read_refuses c.in_default.field-0))

pub returns-then-end-start : goal.returns-then-end-start
returns-then-end-start g c = sym (ap (λ s. span_part (span_says s) c.args.column.now) c.in-Ok.is ∙ part_falls _ _ _ c.if-end-start.true)

pub returns-then-column-end : goal.returns-then-column-end
returns-then-column-end g c = sym (ap (λ s. span_part (span_says s) c.args.column.now) c.in-Ok.is ∙ part_past _ _ _ c.if-end-start.false c.if-column-end.true)

pub returns : goal.returns
returns g c = sym (ap (λ s. span_part (span_says s) c.args.column.now) c.in-Ok.is ∙ part_is _ _ _ c.if-end-start.false c.if-column-end.false)
