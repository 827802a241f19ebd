-- What is counted here is the need of buffer 3. Assumes nothing.
use mathlib.Core.Path.{◌≡◌, refl, ap}
use lib.ListN.{length}
use Rattle.rules.specs.Input.{Input}
use Rattle.rules.specs.Edges.{graph, distinct_roots}
use Rattle.rules.specs.Needs.{need_roots}
use Rattle.need_roots.specs.Roots.{distinct_of}

pub roots_are : (x : Input) → (graph x).roots ≡ distinct_of x.roots
unfolding graph distinct_roots
roots_are x = refl

pub roots_need : (x : Input) → need_roots x ≡ length (distinct_of x.roots)
unfolding need_roots
roots_need x = ap length (roots_are x)
