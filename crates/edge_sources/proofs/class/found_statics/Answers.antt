-- `edge_sources::class::found_statics` meets its contract: the class's row says which statics. Assumes nothing.
use Prim.Native.Nat.{◌<◌}
use native.Mathlib.Omega.{arith}
use Rattle.edge_append.proofs.Reading.{statics_none, statics_some}
use Rattle.edge_append.proofs.Appending.{appended_none}
use Rattle.edge_sources.proofs.class.found_statics.Goals as goal

pub returns-then-mark-eq0 : goal.returns-then-mark-eq0
returns-then-mark-eq0 c = let a = c.args in
    rw (← statics_none a.static_starts.now a.static_ends.now a.static_names.now a.static_types.now a.static_values.now a.mark c.if-mark-eq0.true) appended_none

pub statics-requires : goal.statics-requires
statics-requires c = let a = c.args in
    let f = c.requires.statics_in in
    let z : 0 < a.mark = omega arith in
    let e = c.index-first.ensures in
    let g = c.index.ensures in record {
      count_in_bounds = (omega (arith, e, g, f.ordered z, f.names_in z), omega (arith, e, g, f.ordered z, f.types_in z), omega (arith, e, g, f.ordered z, f.values_in z));
      edge_room = rw
          (statics_some a.static_starts.now a.static_ends.now a.static_names.now a.static_types.now a.static_values.now a.mark c.if-mark-eq0.false
          c.index-first.ensures c.index.ensures) c.requires.edge_room;
    }

pub returns : goal.returns
returns c = let a = c.args in
    rw (← statics_some a.static_starts.now a.static_ends.now a.static_names.now a.static_types.now a.static_values.now a.mark c.if-mark-eq0.false
    c.index-first.ensures c.index.ensures) c.statics.ensures
