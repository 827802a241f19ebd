-- `index::code::write_all` meets its contract: each column is written over its front, and cleared behind. Assumes nothing.
use mathlib.Core.Path.{sym, ◌∙◌}
use native.Mathlib.Omega.{arith}
use lib.ListN.{length-map}
use Rattle.columns.specs.Lists.{◌!◌}
use Rattle.columns.proofs.Lists.{tab-length}
use Rattle.columns.proofs.Written.{written_padded}
use Rattle.index.specs.Copied.{copied_of, escapes_to}
use Rattle.index.proofs.code.write_all.Goals as goal

pub returns : goal.returns
unfolding copied_of
returns c = let a = c.args in
    let e = c.requires.rows_value in
    let ok = c.requires.ids_accepted in
    record {
      codes = written_padded _ a.codes.now _ c.write.ensures.codes c.zero.ensures (tab-length _ _) ok.room_codes;
      places = written_padded _ a.escape_places.now _ c.write.ensures.places c.zero-2.ensures (sym e) (omega (arith, ok.room_places));
      escaped = written_padded _ a.escape_ids.now _ c.write.ensures.escaped c.zero-3.ensures
          (length-map (escapes_to a.base a.ids.now _) (λ i. a.ids.now ! i) ∙ sym e) (omega (arith, ok.room_ids));
    }
