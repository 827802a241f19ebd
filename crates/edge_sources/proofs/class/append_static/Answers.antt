-- `edge_sources::class::append_static` meets its contract: by the type. Assumes nothing.
use Rattle.edge_append.proofs.Reading.{static_object, static_skipped}
use Rattle.edge_append.proofs.Appending.{appended_none}
use Rattle.edge_sources.proofs.class.append_static.Goals as goal

pub returns-then-static_types-place-ne-OBJECT : goal.returns-then-static_types-place-ne-OBJECT
returns-then-static_types-place-ne-OBJECT c = let a = c.args in
    rw (← static_skipped a.static_names.now a.static_types.now a.static_values.now a.place c.if-static_types-place-ne-OBJECT.true) appended_none

pub append-requires : goal.append-requires
append-requires c = let a = c.args in
    rw (static_object a.static_names.now a.static_types.now a.static_values.now a.place c.if-static_types-place-ne-OBJECT.false c.field-label.ensures) c.requires.edge_room

pub returns : goal.returns
returns c = let a = c.args in
    rw (← static_object a.static_names.now a.static_types.now a.static_values.now a.place c.if-static_types-place-ne-OBJECT.false c.field-label.ensures) c.append.ensures
