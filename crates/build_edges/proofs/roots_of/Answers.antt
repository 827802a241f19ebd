-- `build_edges::roots_of` meets its contract. Of a refused input nothing is asked. Assumes nothing.
use mathlib.Core.Path.{sym, ◌∙◌}
use mathlib.Core.Bool.{true≢false}
use Rattle.build_edges.proofs.roots_of.Goals as goal

pub returns-then-not-passed : goal.returns-then-not-passed
returns-then-not-passed c = λ ok. absurd (true≢false (sym ok ∙ (sym c.passed.ensures ∙ c.if-not-passed.true)))

pub collect_roots-requires : goal.collect_roots-requires
collect_roots-requires c = let h = c.requires (sym c.passed.ensures ∙ c.if-not-passed.false) in record { below = (h.0, h.1); class_marks = h.2 }

pub returns : goal.returns
returns c = λ ok. c.collect_roots.ensures
