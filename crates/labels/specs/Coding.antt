-- Codes by the code table: the place of a label in it, the codes of labels, and the escapes among codes. Assumes nothing.
use Rattle.std.specs.Prelude.{ℕ, suc, ◌+◌, ◌-◌, ◌≤◌, ◌<◌, min, ◌≡◌, cond, List, map, eqb, ltb, length, take}
use Rattle.columns.specs.Lists.{◌!◌, collect, tab, places, sum, one}
use Rattle.columns.specs.Columns.{over}
use Rattle.rules.specs.Types.{loader_label, array_element_label, is_element}
use Rattle.rules.specs.Labels.{expected, is_escaped, code_table, Coded, coded, own}

-- "A code table of names + 2 (each name, the loader, any other label)": where a label stands in it.
unfoldable pub table_place : ℕ → ℕ → ℕ
table_place names l = cond (eqb l loader_label) names (cond (ltb l names) l (names + 1))

-- names are fewer than the loader's label, and the table has room for them
pub record Room (names : ℕ) (table : List ℕ) : Type 0 where
  pub few : names ≤ loader_label
  pub long : names + 2 ≤ length table

-- "Element: 0x8000 + gap": the gap as it is stored, where n is expected
abbrev pub gap_of : ℕ → ℕ → ℕ
gap_of n index = min (index - n) 32767

-- a label's code by the table, where n is expected; the codes of one object's labels, and of all objects'
unfoldable pub code_by : ℕ → List ℕ → ℕ → ℕ → ℕ
code_by names table n l = cond (is_element l) (32768 + gap_of n (l - array_element_label)) (table ! table_place names l)

abbrev pub code_in : ℕ → List ℕ → List ℕ → ℕ → ℕ
code_in names table ls k = code_by names table (expected ls k) (ls ! k)

unfoldable pub codes_by : ℕ → List ℕ → List ℕ → List ℕ
codes_by names table ls = tab (code_in names table ls) (length ls)

unfoldable pub all_by : ℕ → List ℕ → List ℕ → List ℕ → ℕ → List ℕ
all_by names table offsets labels m = collect (λ o. codes_by names table (own offsets labels o)) m

-- "Offsets start at 0, never fall, end at the label count."
pub record LaidOut (offsets : List ℕ) (edges : ℕ) : Type 0 where
  pub some : 0 < length offsets
  pub starts : offsets ! 0 ≡ 0
  pub rises : (o : ℕ) → suc o < length offsets → offsets ! o ≤ offsets ! suc o
  pub ends : offsets ! (length offsets - 1) ≡ edges

-- how many codes are escaped, the edges of the first n whose codes are, and their labels
unfoldable pub escapes_in : List ℕ → ℕ
escapes_in codes = sum (λ c. one (is_escaped c)) codes

unfoldable pub escaped_to : List ℕ → ℕ → List ℕ
escaped_to codes n = places (λ e. is_escaped (codes ! e)) n

unfoldable pub labels_to : List ℕ → List ℕ → ℕ → List ℕ
labels_to labels codes n = map (λ e. labels ! e) (escaped_to codes n)

pub record RoomFor (rows : ℕ) (a l : List ℕ) : Type 0 where
  pub at : rows ≤ length a
  pub label : rows ≤ length l

-- the escapes among codes, written over the fronts of two columns; r is how many they are
pub record Escapes (codes labels a₀ l₀ : List ℕ) (r : ℕ) (a l : List ℕ) : Type 0 where
  pub rows : r ≡ length (escaped_to codes (length labels))
  pub escape_at : a ≡ over (escaped_to codes (length labels)) a₀
  pub escape_label : l ≡ over (labels_to labels codes (length labels)) l₀

-- the table holds the codes of these fields
pub record TableOf (names : ℕ) (fields table : List ℕ) : Type 0 where
  pub named : (k : ℕ) → k < length fields → table_place names (fields ! k) ≤ names
  pub front : take (names + 2) table ≡ code_table names fields

-- What `count_escapes` answers: the need of buffer 7, whatever fields the table is of.
pub record EscapesCounted (names : ℕ) (table offsets labels : List ℕ) (r : ℕ) : Type 0 where
  pub rows : r ≡ escapes_in (all_by names table offsets labels (length offsets - 1))
  pub need : (fields : List ℕ) → TableOf names fields table → r ≡ length (coded fields offsets labels (length offsets - 1)).escape_at

-- What coding all objects leaves, whatever fields the table is of: the coded columns over the fronts of those that it is lent; r is the number of escapes.
pub record LabelsLaid (d : Coded) (c₀ a₀ l₀ : List ℕ) (r : ℕ) (c a l : List ℕ) : Type 0 where
  pub rows : r ≡ length d.escape_at
  pub codes : c ≡ over d.codes c₀
  pub escape_at : a ≡ over d.escape_at a₀
  pub escape_label : l ≡ over d.escape_label l₀

abbrev pub CodesLaid : ℕ → List ℕ → List ℕ → List ℕ → List ℕ → List ℕ → List ℕ → ℕ → List ℕ → List ℕ → List ℕ → Type 0
CodesLaid names table offsets labels c₀ a₀ l₀ r c a l =
    (fields : List ℕ) → TableOf names fields table → LabelsLaid (coded fields offsets labels (length offsets - 1)) c₀ a₀ l₀ r c a l
