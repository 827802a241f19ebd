-- `edge_sources::raw::object_elements` meets its contract: by the kind. Assumes nothing.
use native.Mathlib.Omega.{arith}
use Rattle.edge_append.proofs.Bytes.{element-ends, no_elements, some_elements}
use Rattle.edge_append.proofs.Appending.{appended_none}
use Rattle.edge_sources.proofs.Inside.{raw-elements}
use Rattle.edge_sources.proofs.raw.object_elements.Goals as goal

pub returns-then-kind : goal.returns-then-kind
returns-then-kind c = let a = c.args in
    rw (← no_elements a.bytes.now a.size a.start a.kind a.count c.if-kind.true) appended_none

pub elements-requires : goal.elements-requires
elements-requires c = let a = c.args in
    let b = c.requires.count_bound c.if-kind.false in record {
      count_bound = b.0;
      can_read = λ k l. (b.1, omega (arith, b.2, element-ends k a.count a.size l));
      edge_room = rw (← raw-elements a.bytes.now a.size a.start a.count, some_elements a.bytes.now a.size a.start a.kind a.count c.if-kind.false) c.requires.edge_room;
    }

pub returns : goal.returns
returns c = let a = c.args in
    rw (← some_elements a.bytes.now a.size a.start a.kind a.count c.if-kind.false, raw-elements a.bytes.now a.size a.start a.count) c.elements.ensures
