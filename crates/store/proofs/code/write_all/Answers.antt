-- `store::code::write_all` meets its contract: each column is written over its front, and cleared behind. Assumes nothing.
use mathlib.Core.Path.{sym, ◌∙◌}
use native.Mathlib.Omega.{arith}
use lib.ListN.{length-map}
use Rattle.columns.specs.Lists.{◌!◌}
use Rattle.columns.proofs.Lists.{tab-length}
use Rattle.columns.proofs.Written.{written_padded}
use Rattle.store.specs.Blocked.{blocked, long_at_to}
use Rattle.store.proofs.code.write_all.Goals as goal

pub returns : goal.returns
unfolding blocked
returns c = let a = c.args in
    let ok = c.requires.accepted in
    let e = c.requires.rows_value in
    record {
      bases = written_padded _ a.bases.now _ c.write_bases.ensures c.zero.ensures (tab-length _ _) ok.room_bases;
      short = written_padded _ a.short.now _ c.write_short.ensures c.zero-2.ensures (tab-length _ _) ok.room_short;
      long_at = written_padded _ a.long_at.now _ c.write_long.ensures.long_at c.zero-3.ensures (sym e) (omega (arith, ok.room_at));
      long_value = written_padded _ a.long_value.now _ c.write_long.ensures.long_value c.zero-4.ensures
          (length-map (long_at_to a.values.now _) (λ i. a.values.now ! i) ∙ sym e) (omega (arith, ok.room_value));
    }
