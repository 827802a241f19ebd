-- The uses of labels that have no code, counted in the code table by layers. Assumes nothing.
use Rattle.std.specs.Prelude.{ℕ, ◌+◌, ◌-◌, ◌≤◌, ◌<◌, ◌*◌, min, ◌≡◌, ◌⊎◌, Bool, ltb, length, set}
use mathlib.Core.List.{List, foldl}
use Rattle.columns.specs.Lists.{◌!◌, places, total}
use Rattle.columns.specs.Columns.{zeros}
use Rattle.rules.specs.Types.{loader_label, array_element_label}
use Rattle.rules.specs.Labels.{Coded}
use Rattle.labels.specs.Coding.{table_place}

-- "Labels below the name count, `LOADER` or elements."
abbrev pub KnownLabels : ℕ → List ℕ → Type 0
KnownLabels names labels = (e : ℕ) → e < length labels → (labels ! e < names) ⊎ ((labels ! e ≡ loader_label) ⊎ (array_element_label ≤ labels ! e))

-- How often each label is used, up to 65,535: 1 more at a label's place, and at the places of a list's labels.
abbrev pub cap : ℕ → List ℕ → ℕ → List ℕ
cap names t l = set t (table_place names l) (min 65535 (t ! table_place names l + 1))

abbrev pub capped : ℕ → List ℕ → List ℕ → List ℕ
capped names t ls = foldl (cap names) t ls

-- how many names, and the loader, are used more often than that
abbrev pub is_more : List ℕ → ℕ → ℕ → Bool
is_more table times i = ltb times (table ! i)

unfoldable pub used_more : ℕ → List ℕ → ℕ → ℕ
used_more names table times = length (places (is_more table times) (names + 1))

-- the rows of the first layers: in each, the labels used so often that are more than have codes
abbrev pub layers : ℕ → ℕ → List ℕ → ℕ → ℕ
layers k names table n = total (λ t. used_more names table t - k) n

-- What `count_uncoded` answers: the rows of all layers up to one that has no more labels than have codes.
pub record Layered (names : ℕ) (table : List ℕ) (r : ℕ) : Type 0 where
  pub last : ℕ
  pub low : last ≤ 65534
  pub ends : used_more names table last ≤ 32767
  pub rows : r ≡ layers 32767 names table last
  pub few : r ≤ last * 2147483648

-- What `slow_escapes` answers and leaves: the need of buffer 7 of these label columns, and a table of zeros.
pub record Escaped (d : Coded) (t₀ : List ℕ) (r : ℕ) (t : List ℕ) : Type 0 where
  pub need : r ≡ length d.escape_at
  pub left : t ≡ zeros (length t₀)
