-- The ranking by steps over columns: uses that are counted, keys that are sorted. Assumes nothing.
use Rattle.std.specs.Prelude.{ℕ, ◌+◌, ◌-◌, ◌*◌, ◌%◌, ◌≤◌, ◌<◌, ◌≡◌, Bool, ltb, length, set}
use mathlib.Core.List.{List, map, foldl}
use Rattle.columns.specs.Lists.{◌!◌, tab, places}
use Rattle.columns.specs.Columns.{over}
use Rattle.labels.specs.Coding.{table_place}
use Rattle.labels.specs.Fields.{table_label}

-- How often each label is used (law `counted`): 1 more at a label's place, and at the places of a list's labels.
abbrev pub tally_label : ℕ → List ℕ → ℕ → List ℕ
tally_label names t l = set t (table_place names l) (t ! table_place names l + 1)

abbrev pub uses : ℕ → List ℕ → List ℕ → List ℕ
uses names t ls = foldl (tally_label names) t ls

-- "Ranked by use, ties by smaller label": keys rise where use falls, and with the label where it is the same. The labels of the sorted keys are the rule
-- `ranked`, by the law `is_ranked`.
abbrev pub key_of : ℕ → ℕ → ℕ
key_of n l = (4294967295 - n) * 4294967296 + l

abbrev pub is_used : List ℕ → ℕ → Bool
is_used counts i = ltb 0 (counts ! i)

abbrev pub key_at : ℕ → List ℕ → ℕ → ℕ
key_at names counts i = key_of (counts ! i) (table_label names i)

unfoldable pub keys_of : ℕ → List ℕ → List ℕ
keys_of names counts = map (key_at names counts) (places (is_used counts) (names + 1))

-- the label of a key
abbrev pub key_label : ℕ → ℕ
key_label key = key % 4294967296

abbrev pub key_labels : List ℕ → ℕ → List ℕ
key_labels keys n = tab (λ i. key_label (keys ! i)) n

-- What `write_keys` leaves.
pub record Keyed (names : ℕ) (counts k₀ : List ℕ) (r : ℕ) (k : List ℕ) : Type 0 where
  pub used : r ≡ length (keys_of names counts)
  pub keys : k ≡ over (keys_of names counts) k₀

-- numbers of 32 bits
abbrev pub Of32Bits : List ℕ → Type 0
Of32Bits counts = (i : ℕ) → i < length counts → counts ! i ≤ 4294967295
