-- `ask_each::codes::by_codes` meets its contract: by the span told, and by what was sought. Assumes nothing.
use mathlib.Core.Path.{refl, sym, ap, ◌∙◌}
use mathlib.Core.Bool.{false≢true}
use native.Mathlib.Omega.{arith}
use Rattle.columns.specs.Columns.{accepts}
use Rattle.ask_span.specs.Graph.{strong_in}
use Rattle.ask_span.proofs.Spans.{span_inside}
use Rattle.ask_short.specs.Lean.{leanly}
use Rattle.ask_short.proofs.Whole.{no_columns}
use Rattle.ask_each.proofs.Single.{quick_within, codes-found}
use Rattle.ask_each.proofs.codes.by_codes.Goals as goal

pub returns-then-count-ge255 : goal.returns-then-count-ge255
returns-then-count-ge255 c = λ ok. absurd (false≢true (sym (no_columns _) ∙ ok))

pub seek-sought-requires : goal.seek-sought-requires
seek-sought-requires c = record { count_in_bounds = (span_inside _ _ _ _ (c.requires.few_told c.if-count-ge255.false)).coded; sole = c.requires.sole }

pub sought_answer-requires : goal.sought_answer-requires
sought_answer-requires c = λ k h. omega (arith, (span_inside _ _ _ _ (c.requires.few_told c.if-count-ge255.false)).targeted, quick_within _ _ _ _ h c.seek-sought.ensures)

pub returns : goal.returns
returns c = let a = c.args in
    λ ok. c.sought_answer.ensures
    ∙ codes-found (leanly (strong_in a.graph)) a.object a.label a.start a.count (c.requires.few_told c.if-count-ge255.false) refl c.seek-sought.ensures
    (sym (ap accepts c.sought_answer.ensures) ∙ ok)
