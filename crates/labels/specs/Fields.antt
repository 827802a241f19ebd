-- The fields that have codes, over columns. They restate `named` and `fields_of` of `rules/specs/Labels.antt`; each comment names the law of
-- `proofs/Listed.antt` that ties the two. Assumes nothing.
use Rattle.std.specs.Prelude.{ℕ, ◌+◌, ◌-◌, ◌≤◌, ◌<◌, ◌≡◌, Bool, cond, List, ◌++◌, map, eqb, length, take}
use Rattle.columns.specs.Lists.{◌!◌, collect, tab, places}
use Rattle.columns.specs.Columns.{over}
use Rattle.rules.specs.Types.{loader_label}
use Rattle.rules.specs.Labels.{ranked}
use Rattle.labels.specs.Coding.{table_place}

-- the label whose place in the table is i: a name, or behind all names the loader
abbrev pub table_label : ℕ → ℕ → ℕ
table_label names i = cond (eqb i names) loader_label i

-- fields that are names or the loader
abbrev pub Named : ℕ → List ℕ → Type 0
Named names fields = (k : ℕ) → k < length fields → table_place names (fields ! k) ≤ names

-- "Every slot label and object static name of any class": of one class's slots, of its statics, and of the first m classes.
abbrev pub slots_named : List ℕ → ℕ → ℕ → List ℕ
slots_named labels from n = tab (λ k. labels ! (from + k)) n

abbrev pub is_object : List ℕ → ℕ → ℕ → Bool
is_object types from k = eqb (types ! (from + k)) 2

abbrev pub statics_named : List ℕ → List ℕ → ℕ → ℕ → List ℕ
statics_named names types from n = map (λ k. names ! (from + k)) (places (is_object types from) n)

-- the columns of slots and statics that naming reads
pub record Naming : Type 0 where
  pub slot_start : List ℕ
  pub slot_end : List ℕ
  pub static_start : List ℕ
  pub static_end : List ℕ
  pub labels : List ℕ
  pub names : List ℕ
  pub types : List ℕ

abbrev pub naming : List ℕ → List ℕ → List ℕ → List ℕ → List ℕ → List ℕ → List ℕ → Naming
naming ss se ts te ls ns ty = record { slot_start = ss; slot_end = se; static_start = ts; static_end = te; labels = ls; names = ns; types = ty }

-- the same, of columns that a clause names: `read` is `now`, `entry` or `exit`
abbrev pub name_columns : {A : Type 0} → (A → List ℕ) → A → A → A → A → A → A → A → Naming
name_columns read slot_start slot_end static_start static_end labels names types =
    naming (read slot_start) (read slot_end) (read static_start) (read static_end) (read labels) (read names) (read types)

-- The rule `named`, by the law `named_by_lem`.
unfoldable pub named_by : Naming → ℕ → List ℕ
named_by s m =
    collect
    (λ c. slots_named s.labels (s.slot_start ! c) (s.slot_end ! c - s.slot_start ! c)
    ++ statics_named s.names s.types (s.static_start ! c) (s.static_end ! c - s.static_start ! c))
    m

-- ranges inside the columns
pub record Ranges (s : Naming) (m : ℕ) : Type 0 where
  pub slot_starts : m ≤ length s.slot_start
  pub slot_ends : m ≤ length s.slot_end
  pub static_starts : m ≤ length s.static_start
  pub static_ends : m ≤ length s.static_end
  pub slots : (c : ℕ) → c < m → (s.slot_start ! c ≤ s.slot_end ! c) × (s.slot_end ! c ≤ length s.labels)
  pub statics : (c : ℕ) → c < m → (s.static_start ! c ≤ s.static_end ! c) × (s.static_end ! c ≤ length s.names)
  pub types : length s.types ≡ length s.names

-- "The first 32,767 get codes": the rule `fields_of` where more are listed, by the laws `first-labels` and `fields-ranked`; else it is `listed`, by the law
-- `fields-listed`.
unfoldable pub first_ranked : ℕ → ℕ → List ℕ → List ℕ
first_ranked k names labels = take k (ranked names labels)

abbrev pub first : ℕ → List ℕ → List ℕ
first names labels = first_ranked 32767 names labels

-- What `rank_fields` and `write_fields` leave: these fields over the front of the column; r is how many they are.
pub record Chosen (fields f₀ : List ℕ) (r : ℕ) (f : List ℕ) : Type 0 where
  pub used : r ≡ length fields
  pub front : f ≡ over fields f₀
