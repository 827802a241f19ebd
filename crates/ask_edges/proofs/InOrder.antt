-- The reader: an object's parts hold its edges in order, each with its target and its code, and then the end. Assumes nothing.
use Prim.Native.Nat.{ℕ, ◌+◌, ◌-◌, ◌≤◌, ◌<◌}
use mathlib.Core.Path.{◌≡◌}
use mathlib.Core.List.{List, [], ◌∷◌}
use Rattle.std.specs.Prelude.{None}
use lib.ListN.{length}
use borrow.Author.Tests.{lt-ltb, le-ltb}
use Rattle.columns.specs.Lists.{◌!◌, part}
use Rattle.columns.proofs.Sums.{part_at, part_length_lem}
use Rattle.rules.specs.Questions.{Columns}
use Rattle.ask_span.specs.Reading.{span_part}
use Rattle.ask_span.specs.Graph.{span_in}
use Rattle.ask_span.proofs.Spans.{Inside, span_inside, part_is}
use Rattle.ask_reader.specs.Read.{stored}
use Rattle.ask_edges.specs.Read.{step_at, stands_in}

-- the parts from a up to b
module _ (ts cs : List ℕ) (a b k : ℕ) (targeted : b ≤ length ts) (coded : b ≤ length cs) where
  pub stands_edge : k < b - a → step_at (part ts a b) (part cs a b) k ≡ stored (ts ! (a + k)) (cs ! (a + k))
  unfolding step_at
  stands_edge l = rw (part_length_lem ts a b targeted, part_length_lem cs a b coded, lt-ltb k (b - a) l, part_at ts a b k l, part_at cs a b k l)

  pub stands_end : b - a ≤ k → step_at (part ts a b) (part cs a b) k ≡ None
  unfolding step_at
  stands_end l = rw (part_length_lem ts a b targeted, le-ltb k (b - a) l)

-- Of an object whose span is answered, on any columns.
module _ (c : Columns) (o : ℕ) {e z : ℕ} (at : span_in c o ≡ 0 ∷ e ∷ z ∷ []) where
  inside : Inside (length c.labels.codes) (length c.targets) e z
  inside = span_inside c.offsets (length c.labels.codes) (length c.targets) o at

  pub targets_are : span_part (span_in c o) c.targets ≡ part c.targets e z
  targets_are = rw at (part_is c.targets e z inside.ordered inside.targeted)

  pub codes_are : span_part (span_in c o) c.labels.codes ≡ part c.labels.codes e z
  codes_are = rw at (part_is c.labels.codes e z inside.ordered inside.coded)

  pub edge_in_order : (k : ℕ) → k < z - e → stands_in c o k ≡ stored (c.targets ! (e + k)) (c.labels.codes ! (e + k))
  edge_in_order k l = rw (targets_are, codes_are) (stands_edge c.targets c.labels.codes e z k inside.targeted inside.coded l)

  pub end_in_order : (k : ℕ) → z - e ≤ k → stands_in c o k ≡ None
  end_in_order k l = rw (targets_are, codes_are) (stands_end c.targets c.labels.codes e z k inside.targeted inside.coded l)
