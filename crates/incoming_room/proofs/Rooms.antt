-- What can be said before the entries are laid, of columns that cannot be read back, and of entries that find no room. Assumes nothing.
use Rattle.std.proofs.Common.{◌≡◌, ℕ, ◌<◌, ◌≤◌, [], ◌∷◌}
use borrow.Author.Tests.{lt-ltb, le-ltb}
use Rattle.columns.specs.Lists.{any_of}
use Rattle.rules.specs.Incoming.{InRooms}
use Rattle.incoming_room.specs.Room.{early_says}

pub early-columns : (bad objects entries : ℕ) (r : InRooms) → bad < objects → early_says bad objects entries r ≡ 12 ∷ bad ∷ []
unfolding early_says
early-columns bad objects entries r l = rw (lt-ltb bad objects l)

pub early_sources : (bad objects entries : ℕ) (r : InRooms) → objects ≤ bad → r.sources < entries → early_says bad objects entries r ≡ 9 ∷ 10 ∷ []
unfolding early_says any_of
early_sources bad objects entries r read l = rw (le-ltb bad objects read, lt-ltb r.sources entries l)
