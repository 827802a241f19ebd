-- `edge_sources::held::RawElements` reads the id of an element. Assumes nothing.
use Rattle.edge_append.specs.Raw.{bytes_id}
use Rattle.edge_sources.proofs.held.RawElementsIds.id.Goals as goal

pub returns-clause-id : goal.returns-clause-id
unfolding bytes_id
returns-clause-id c = c.id_at_bytes.ensures
