-- `edge_sources::copied::object_elements` meets its contract: by the kind. Assumes nothing.
use native.Mathlib.Omega.{arith}
use Rattle.index.specs.Copied.{ids_of}
use Rattle.edge_append.proofs.Reading.{elements_none, elements_some}
use Rattle.edge_append.proofs.Appending.{appended_none}
use Rattle.edge_sources.proofs.Inside.{copied-elements}
use Rattle.edge_sources.proofs.copied.object_elements.Goals as goal

pub returns-then-kind : goal.returns-then-kind
returns-then-kind c = let a = c.args in
    rw (← elements_none (ids_of a.codes.now a.escape_places.now a.escape_ids.now a.base) a.start a.kind a.count c.if-kind.true) appended_none

pub elements-requires : goal.elements-requires
elements-requires c = let a = c.args in
    let held = ids_of a.codes.now a.escape_places.now a.escape_ids.now a.base in
    let b = c.requires.count_bound c.if-kind.false in record {
      count_bound = b.0;
      can_read = λ k l. (c.requires.rises, omega (arith, b.1));
      edge_room = rw (← copied-elements held a.start a.count, elements_some held a.start a.kind a.count c.if-kind.false) c.requires.edge_room;
    }

pub returns : goal.returns
returns c = let a = c.args in
    let held = ids_of a.codes.now a.escape_places.now a.escape_ids.now a.base in
    rw (← elements_some held a.start a.kind a.count c.if-kind.false, copied-elements held a.start a.count) c.elements.ensures
