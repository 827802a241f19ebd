-- The lowest object that cannot be read back, and the counts of the targets. Assumes nothing.
use Rattle.std.specs.Prelude.{ℕ, ◌-◌, ◌≤◌, ◌≡◌, Bool, true, not, List, [], ◌∷◌, leb, length}
use Rattle.columns.specs.Lists.{any, all_of}
use Rattle.rules.specs.Labels.{Coded}
use Rattle.rules.specs.Questions.{Columns, objects_in, offset_at}
use Rattle.inverse.specs.Inverse.{tallied}
use Rattle.incoming_read.specs.Unread.{first_unread, lists_rise, span_reads, is_narrow, codes_plain}

-- The lowest object that cannot be read back, or how many there are. Where all can be read, the targets of all edges are counted, one place up.
pub record Judged (c : Columns) (w₀ : List ℕ) (r : ℕ) (w : List ℕ) : Type 0 where
  pub place : r ≡ first_unread c
  pub counts : r ≡ objects_in c → w ≡ tallied c.targets (offset_at c 0) (offset_at c (objects_in c) - offset_at c 0) w₀

-- What counting asks: there is an object, all spans read, and these are the edges from the first one's start up to the last one's end.
pub record Counted (c : Columns) (all-narrow : Bool) (a b : ℕ) : Type 0 where
  pub some : 2 ≤ length c.offsets.short
  pub good : not (any (λ o. not (span_reads c.offsets (length c.labels.codes) (length c.targets) o)) (objects_in c)) ≡ true
  pub narrow : all-narrow ≡ not (any (λ o. not (is_narrow c.offsets o)) (objects_in c))
  pub start : a ≡ offset_at c 0
  pub end : b ≡ offset_at c (objects_in c)

-- No edge is in doubt: counting stopped at the end, the spans are narrow, the lists rise, and the codes from one place up to another ask for no row.
unfoldable pub no_doubt : Bool → List ℕ → List ℕ → Coded → ℕ → ℕ → ℕ → Bool
no_doubt narrow long_at long_value d from to stop =
    all_of (leb to stop ∷ narrow ∷ lists_rise long_at long_value d.escape_at d.escape_label ∷ codes_plain d from to ∷ [])
