-- `edge_sources::escape::is_escaped` meets its contract: test by test. Assumes nothing.
use mathlib.Core.Path.{◌≡◌, refl}
use mathlib.Core.Bool.{Bool, true, false}
use mathlib.Core.List.{[], ◌∷◌}
use borrow.Author.Tests.{lt-ltb, le-ltb}
use Rattle.columns.specs.Lists.{all_of}
use Rattle.edge_sources.proofs.escape.is_escaped.Goals as goal

alone : (b : Bool) → b ≡ all_of (true ∷ b ∷ [])
unfolding all_of
alone true = refl
alone false = refl

pub returns-then-place-codes : goal.returns-then-place-codes
returns-then-place-codes c = rw (lt-ltb _ _ c.if-place-codes.true) (alone _)

pub returns-else-place-codes : goal.returns-else-place-codes
unfolding all_of
returns-else-place-codes c = simp (le-ltb _ _ c.if-place-codes.false)
