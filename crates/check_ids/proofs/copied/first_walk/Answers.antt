-- `check_ids::copied::first_walk` meets its contract: no code before p is bad, and the escapes before p have theirs up to `good`. Assumes nothing.
use mathlib.Core.Path.{◌∙◌}
use native.Mathlib.Omega.{arith}
use Rattle.check_ids.proofs.Walking.{walk_start, walk_more, walk_hit, walk_bad, walk_escape, walk_clean}
use Prim.Native.Nat.{◌≤◌}
use Rattle.columns.proofs.Sums.{one_few}
use Rattle.columns.proofs.Ranks.{rank_within}
use Rattle.check_ids.proofs.copied.first_walk.Goals as goal

pub loop-p-init : goal.loop-p-init
loop-p-init c = walk_start _ c.requires.rises c.requires.escape_ids_len

pub returns-then-code_fault : goal.returns-then-code_fault
returns-then-code_fault c = let r = c.requires in
    walk_hit _ r.rises r.escape_ids_len c.loop-p.invariant c.loop-p-test.true
    (walk_bad _ r.rises r.escape_ids_len c.loop-p.invariant c.loop-p-test.true (omega (arith, c.type_inv.escape_ids c.loop-p.rows)) c.escape_id.ensures c.code_fault.ensures
    ∙ c.if-code_fault.true)

pub loop-p-preserved : goal.loop-p-preserved
loop-p-preserved c = let r = c.requires in
    rw (c.good_on-good.ensures, c.from-rows.ensures, c.has_row-row.ensures)
    (walk_more _ r.rises r.escape_ids_len c.loop-p.invariant c.loop-p-test.true
    (walk_bad _ r.rises r.escape_ids_len c.loop-p.invariant c.loop-p-test.true (omega (arith, c.type_inv.escape_ids c.loop-p.rows)) c.escape_id.ensures c.code_fault.ensures
    ∙ c.if-code_fault.false))

pub overflow_add-rows : goal.overflow_add-rows
overflow_add-rows c =
    let few : c.from-rows.result ≤ 1 = rw c.from-rows.ensures (one_few c.has_row-row.result) in
    omega (arith, c.loop-p.invariant.passed, rank_within c.args.escape_places.now c.loop-p.p)

pub returns-then-good-escape_places : goal.returns-then-good-escape_places
returns-then-good-escape_places c = let r = c.requires in
    walk_escape _ r.rises r.escape_ids_len c.loop-p.invariant c.loop-p-test.false c.if-good-escape_places.true

pub returns : goal.returns
returns c = let r = c.requires in
    walk_clean _ r.rises r.escape_ids_len c.loop-p.invariant c.loop-p-test.false c.if-good-escape_places.false
