-- `need_escapes::count_uncoded` meets its contract: rows is what the layers up to this one come to. Assumes nothing.
use Prim.Native.Nat.{◌≤◌, ◌<◌}
use Rattle.need_escapes.proofs.Uncoded.{layers_more, layer_few, not_last}
use native.Mathlib.Omega.{arith}
use Rattle.need_escapes.proofs.count_uncoded.Goals as goal

pub overflow_add-rows : goal.overflow_add-rows
overflow_add-rows c =
    let within : (c.loop-n.times < 65534) × (c.loop-n.n ≤ 2147483648) =
    let a = c.args in
    let w = c.loop-n.invariant in
    let p = c.requires in
    (not_last a.names a.table.now c.loop-n.times w.1 (omega arith) w.0 p.1, omega (arith, w.1, layer_few a.names a.table.now c.loop-n.times, p.0.few)) in
    omega (arith, within)

pub loop-n-preserved : goal.loop-n-preserved
loop-n-preserved c =
    let within : (c.loop-n.times < 65534) × (c.loop-n.n ≤ 2147483648) =
    let a = c.args in
    let w = c.loop-n.invariant in
    let p = c.requires in
    (not_last a.names a.table.now c.loop-n.times w.1 (omega arith) w.0 p.1, omega (arith, w.1, layer_few a.names a.table.now c.loop-n.times, p.0.few)) in
    let a = c.args in
    let w = c.loop-n.invariant in
    (omega (arith, within), c.used_more-n-in-loop-n.ensures, layers_more 32767 a.names a.table.now c.loop-n.times w.2 w.1, omega (arith, within, w.3))
