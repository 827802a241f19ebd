-- `ask_reader::own::settle` meets its contract: both columns are cleared behind what the answer keeps. Assumes nothing.
use mathlib.Core.Path.{refl, ap, ◌∙◌}
use Prim.Native.Nat.{ℕ}
use Rattle.columns.specs.Columns.{cleared}
use Rattle.ask_reader.proofs.own.settle.Goals as goal

pub returns : goal.returns
returns c = let a = c.args in
    let end = c.edges_kept-end.ensures in
    record {
      answer = refl;
      targets = c.zero.ensures ∙ ap (λ (k : ℕ). cleared k a.own_targets.now) end;
      labels = c.zero-2.ensures ∙ ap (λ (k : ℕ). cleared k a.own_labels.now) end;
    }
