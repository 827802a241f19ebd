-- `build_finish::finish` meets its contract. The fronts are cut at what there is, coded, and then comes the end. Assumes nothing.
use Prim.Native.Nat.{◌+◌, min}
use native.Mathlib.Omega.{arith}
use mathlib.Core.Path.{◌≡◌}
use lib.ListN.{length}
use Rattle.rules.specs.Types.{built_says}
use Rattle.columns.specs.Columns.{kept}
use Rattle.build_finish.proofs.Fronts.{take_least, ready_used, hands_used}
use Rattle.build_finish.proofs.finish.Goals as goal

pub code_parts-r-requires : goal.code_parts-r-requires
code_parts-r-requires c = let a = c.args in
    let few : c.min-n.result ≡ min (a.objects + 1) (length a.working.now) = omega (arith, c.min-n.ensures, c.saturating_add.ensures) in
    let used : c.min-m.result ≡ min (kept 1 (built_says a.v)) (length a.labels.now) = omega (arith, c.min-m.ensures, c.edges_kept.ensures) in
    λ ok. ready_used a.working.now a.labels.now c.min-n.result (a.objects + 1) c.min-m.result (kept 1 (built_says a.v)) (take_least a.working.now (a.objects + 1) few)
    (take_least a.labels.now (kept 1 (built_says a.v)) used) (c.requires ok)

pub returns : goal.returns
returns c = let a = c.args in
    let few : c.min-n.result ≡ min (a.objects + 1) (length a.working.now) = omega (arith, c.min-n.ensures, c.saturating_add.ensures) in
    let used : c.min-m.result ≡ min (kept 1 (built_says a.v)) (length a.labels.now) = omega (arith, c.min-m.ensures, c.edges_kept.ensures) in
    record {
      coded = λ schema parts h.
          c.code_parts-r.ensures schema parts
          (hands_used a.working.now a.labels.now c.min-n.result (a.objects + 1) c.min-m.result (kept 1 (built_says a.v)) (take_least a.working.now (a.objects + 1) few)
          (take_least a.labels.now (kept 1 (built_says a.v)) used) h);
      settled = c.settle.ensures;
    }
