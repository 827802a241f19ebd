-- The listed fields by steps over the code table: a table without codes, and names that are marked in it. Where those of a list were marked in a cleared table
-- they are the rule `listed` of `rules/specs/Labels.antt`. Assumes nothing.
use Rattle.std.specs.Prelude.{ℕ, ◌+◌, Bool, eqb, set}
use mathlib.Core.List.{List, map, foldl}
use Rattle.columns.specs.Lists.{◌!◌, tab, places}
use Rattle.labels.specs.Coding.{table_place}
use Rattle.labels.specs.Fields.{table_label}

-- "32,767 where there is none": a table of n places without codes
abbrev pub uncoded : ℕ → List ℕ
uncoded n = tab (λ i. 32767) n

-- The table marked with 1 at a label's place, and at the places of a list's labels.
abbrev pub mark_label : ℕ → List ℕ → ℕ → List ℕ
mark_label names t l = set t (table_place names l) 1

abbrev pub mark_labels : ℕ → List ℕ → List ℕ → List ℕ
mark_labels names t ls = foldl (mark_label names) t ls

-- The labels whose places are marked: names rising, then the loader. Where those of a list were marked in a cleared table they are the rule `listed`, by
-- the laws `marked_cleared` and `marked_listed`.
abbrev pub is_marked : List ℕ → ℕ → Bool
is_marked table i = eqb (table ! i) 1

unfoldable pub marked_labels : ℕ → List ℕ → List ℕ
marked_labels names table = map (table_label names) (places (is_marked table) (names + 1))
