-- `edge_sources::class::found_loader` meets its contract: by the mark. Assumes nothing.
use Rattle.edge_append.proofs.Reading.{loader_none, loader_some}
use Rattle.edge_append.proofs.Appending.{appended_none}
use Rattle.edge_sources.proofs.class.found_loader.Goals as goal

pub returns-then-mark-eq0 : goal.returns-then-mark-eq0
returns-then-mark-eq0 c = let a = c.args in
    rw (← loader_none a.loaders.now a.mark c.if-mark-eq0.true) appended_none

pub append-requires : goal.append-requires
append-requires c = rw (loader_some c.args.loaders.now c.args.mark c.if-mark-eq0.false c.loader-label.ensures) c.requires.edge_room

pub returns : goal.returns
returns c = let a = c.args in
    rw (← loader_some a.loaders.now a.mark c.if-mark-eq0.false c.loader-label.ensures) c.append.ensures
