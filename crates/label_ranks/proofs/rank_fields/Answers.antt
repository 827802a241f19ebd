-- `label_ranks::rank_fields` meets its contract: the uses are counted, the keys written and sorted, and the labels of the first ones written. Assumes nothing.
use mathlib.Core.Path.{ap, ◌∙◌}
use mathlib.Core.List.{List, []}
use Prim.Native.Nat.{ℕ}
use native.Mathlib.Omega.{arith}
use Rattle.columns.specs.Columns.{over}
use Rattle.columns.proofs.Written.{zeroed_own}
use Rattle.label_ranks.proofs.Ranks.{counted_few, counted, used_within, first_used, first-labels}
use Rattle.label_ranks.proofs.rank_fields.Goals as goal

pub count_uses-requires : goal.count_uses-requires
count_uses-requires c = let a = c.args in
    (record { few = c.requires.0.few; long = omega (arith, c.requires.0.long) }, zeroed_own a.counting.now c.zero.ensures)

pub write_keys-used-requires : goal.write_keys-used-requires
write_keys-used-requires c = let a = c.args in (
  record { few = c.requires.0.few; long = omega (arith, c.requires.0.long) },
  c.requires.1,
  counted_few a.names a.labels.now a.counting.now c.zero.ensures c.count_uses.ensures c.requires.2,
)

pub slice_bounds-sort-end : goal.slice_bounds-sort-end
slice_bounds-sort-end c = used_within c.write_keys-used.ensures

pub write_ranked-requires : goal.write_ranked-requires
write_ranked-requires c = let a = c.args in
    let at = counted a.names a.labels.now a.counting.now c.zero.ensures c.count_uses.ensures c.requires.0.few c.requires.0.long in
    let n = first_used a.names a.labels.now c.requires.0.few c.requires.2 at c.write_keys-used.ensures _ [] c.sort.ensures 32767
    c.coded_of-n.result c.coded_of-n.ensures in
    (omega (arith, used_within c.write_keys-used.ensures, c.coded_of-n.ensures), omega (arith, n, c.requires.3))

pub returns : goal.returns
returns c = let a = c.args in
    let at = counted a.names a.labels.now a.counting.now c.zero.ensures c.count_uses.ensures c.requires.0.few c.requires.0.long in
    record {
      used = first_used a.names a.labels.now c.requires.0.few c.requires.2 at c.write_keys-used.ensures _ [] c.sort.ensures 32767
          c.coded_of-n.result c.coded_of-n.ensures;
      front = c.write_ranked.ensures ∙ ap (λ (z : List ℕ). over z a.fields.now)
          (first-labels a.names a.labels.now c.requires.0.few c.requires.2 at c.write_keys-used.ensures _ _ c.sort.ensures 32767
          c.coded_of-n.result c.coded_of-n.ensures);
    }
