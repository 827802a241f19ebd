-- `label_fields::fields::write_table` meets its contract: the fields from place k on have their codes. Assumes nothing.
use mathlib.Core.Path.{◌≡◌}
use Prim.Native.Nat.{suc, ◌-◌}
use native.Mathlib.Omega.{arith}
use Rattle.label_fields.proofs.Tabling.{tabling_none, tabling_field, tabling_end}
use Rattle.label_fields.proofs.fields.write_table.Goals as goal

pub loop-k-init : goal.loop-k-init
loop-k-init c = let a = c.args in
    tabling_none a.names a.fields.now _ (omega arith) a.table.now c.clear_table.ensures

pub loop-k-preserved : goal.loop-k-preserved
loop-k-preserved c = let a = c.args in
    let k = c.loop-k.k in
    let e : k ≡ suc (k - 1) = omega arith in
    let w = rw e at c.loop-k.invariant in
    rw c.slot_of.ensures (tabling_field a.names a.fields.now _ (omega arith) _ (k - 1) c.requires.room.0.few (omega arith) (c.requires.named (k - 1) (omega arith)) w)

pub returns : goal.returns
returns c = let a = c.args in
    let e : c.loop-k.k ≡ 0 = omega arith in
    tabling_end a.names a.fields.now _ (omega arith) a.table.now _ c.clear_table.ensures (rw e at c.loop-k.invariant)
