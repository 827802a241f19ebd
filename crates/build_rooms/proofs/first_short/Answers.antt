-- `build_rooms::first_short` meets its contract: test by test. Assumes nothing.
use mathlib.Core.Path.{◌∙◌}
use borrow.Author.Tests.{lt-ltb, le-ltb}
use Rattle.build_rooms.specs.Stages.{short_early, first_short}
use Rattle.build_rooms.proofs.Tests.{single, pair_short, pair_enough, offsets_short, offsets_enough}
use Rattle.build_rooms.proofs.first_short.Goals as goal

pub returns-then-targets-places : goal.returns-then-targets-places
unfolding first_short short_early
returns-then-targets-places c = rw (pair_short c.then-targets-places.either)

pub returns-then-weak_from-weak : goal.returns-then-weak_from-weak
unfolding first_short short_early
returns-then-weak_from-weak c = rw (pair_enough c.if-targets-places.false c.if-labels-places.false, pair_short c.then-weak_from-weak.either)

pub returns-then-roots_out-roots : goal.returns-then-roots_out-roots
unfolding first_short short_early
returns-then-roots_out-roots c = rw (
  pair_enough c.if-targets-places.false c.if-labels-places.false,
  pair_enough c.if-weak_from-weak.false c.if-weak_to-weak.false,
  single _ ∙ lt-ltb c.args.roots_out c.args.roots c.if-roots_out-roots.true,
)

pub returns-then-bases-objects : goal.returns-then-bases-objects
unfolding first_short short_early
returns-then-bases-objects c = rw (
  pair_enough c.if-targets-places.false c.if-labels-places.false,
  pair_enough c.if-weak_from-weak.false c.if-weak_to-weak.false,
  single _ ∙ le-ltb c.args.roots_out c.args.roots c.if-roots_out-roots.false,
  offsets_short c.then-bases-objects.either,
)

pub returns : goal.returns
unfolding first_short short_early
returns c = rw (
  pair_enough c.if-targets-places.false c.if-labels-places.false,
  pair_enough c.if-weak_from-weak.false c.if-weak_to-weak.false,
  single _ ∙ le-ltb c.args.roots_out c.args.roots c.if-roots_out-roots.false,
  offsets_enough c.if-bases-objects.false c.if-short-objects.false c.if-working-objects.false,
)
