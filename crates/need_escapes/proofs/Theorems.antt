-- What is counted here is the need of buffer 7. Assumes nothing.
use Prim.Native.Nat.{ℕ, ◌-◌, ◌<◌}
use mathlib.Core.Path.{◌≡◌, ap}
use mathlib.Core.List.{List}
use lib.ListN.{length}
use Rattle.rules.specs.Input.{Schema}
use Rattle.rules.specs.Edges.{Parts}
use Rattle.rules.specs.Labels.{named, listed, coded}
use Rattle.rules.specs.Needs.{need_escapes, fields_for, label_columns}
use Rattle.labels.specs.Fields.{first}
use Rattle.labels.proofs.Listed.{fields-ranked}

pub escapes_need : (s : Schema) (p : Parts) → 32767 < length (listed s.names (named s))
    → need_escapes s p ≡ length (coded (first s.names p.labels) p.offsets p.labels (length p.offsets - 1)).escape_at
unfolding need_escapes label_columns fields_for
escapes_need s p h = ap (λ (fields : List ℕ). length (coded fields p.offsets p.labels (length p.offsets - 1)).escape_at) (fields-ranked s.names (named s) p.labels h)
