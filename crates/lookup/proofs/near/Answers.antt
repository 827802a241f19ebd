-- `lookup::near` meets its contract: the id at the guess says on which side the rank is. Assumes nothing.
use native.Mathlib.Omega.{arith}
use Rattle.lookup.proofs.Search.{held_all, held_up, held_down, ranked-at}
use Rattle.lookup.proofs.near.Goals as goal

pub down-requires : goal.down-requires
down-requires c = held_all _ _

pub returns-then-at-id : goal.returns-then-at-id
returns-then-at-id c = ranked-at _ _ _ c.if-ids-guess.false c.if-at-id.true

pub up-requires : goal.up-requires
up-requires c = held_up (held_all _ _) _ c.if-ids-guess.false c.if-at-id-2.true

pub down-requires-2 : goal.down-requires-2
down-requires-2 c = held_down (held_all _ _) _ (omega arith) (omega arith) c.if-at-id-2.false
