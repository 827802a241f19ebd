-- `edge_append::append::append_element` meets its contract: the label is the element's. Assumes nothing.
use Rattle.edge_append.proofs.Reading.{element-read}
use Rattle.edge_append.proofs.append.append_element.Goals as goal

pub append-requires : goal.append-requires
append-requires c = rw (element-read c.args.k c.args.id c.requires.k_bound c.narrow.ensures c.element-label.ensures) c.requires.edge_room

pub returns : goal.returns
returns c = rw (← element-read c.args.k c.args.id c.requires.k_bound c.narrow.ensures c.element-label.ensures) c.append.ensures
