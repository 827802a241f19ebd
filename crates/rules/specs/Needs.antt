-- "ROOM buffers and needs" of document 01: what each buffer needs, of the input alone, and which buffers are short. Assumes nothing.
use Rattle.std.specs.Prelude.{ℕ, ◌+◌, ◌-◌, ◌≤◌, ◌≡◌, ◌⊎◌, Bool, cond, List, [], ◌∷◌, ◌++◌, ltb, length}
use Rattle.columns.specs.Lists.{any_of}
use Rattle.store.specs.Blocked.{blocks_of, long_rows}
use Rattle.rules.specs.Input.{Input, Schema}
use Rattle.rules.specs.Edges.{Parts, graph}
use Rattle.rules.specs.Places.{place_count}
use Rattle.rules.specs.Labels.{Coded, coded, fields_of, named}

-- how many objects plain columns lay out
abbrev pub objects_of : Parts → ℕ
objects_of p = length p.offsets - 1

-- the fields that have codes, and the label columns
unfoldable pub fields_for : Schema → Parts → List ℕ
fields_for s p = fields_of s.names (named s) p.labels

unfoldable pub label_columns : Schema → Parts → Coded
label_columns s p = coded (fields_for s p) p.offsets p.labels (objects_of p)

-- "1 targets and work labels, the places; 2 weak pairs; 3 distinct roots."
abbrev pub need_places : Input → ℕ
need_places x = place_count x

unfoldable pub need_weak : Input → ℕ
need_weak x = length (graph x).weak_from

unfoldable pub need_roots : Input → ℕ
need_roots x = length (graph x).roots

-- "4 block bases, (objects + 1) / 256 rounded up, with objects + 1 short offsets and objects + 1 working offsets; 5 long offsets."
abbrev pub need_offsets : Parts → ℕ
need_offsets p = length p.offsets

abbrev pub need_bases : Parts → ℕ
need_bases p = blocks_of (need_offsets p)

unfoldable pub need_long : Parts → ℕ
need_long p = long_rows p.offsets

-- "6 coded fields, and a code table of names + 2; 7 label escapes; 8 codes, one per final edge; 9 counting and ranking space, names + 2 each."
unfoldable pub need_fields : Schema → Parts → ℕ
need_fields s p = length (fields_for s p)

abbrev pub need_table : Schema → ℕ
need_table s = s.names + 2

unfoldable pub need_escapes : Schema → Parts → ℕ
need_escapes s p = length (label_columns s p).escape_at

abbrev pub need_codes : Parts → ℕ
need_codes p = length p.labels

-- The lengths of the columns lent for coding, buffers 4 to 9 without the working offsets: all that `from_parts` is lent.
pub record Lent : Type 0 where
  pub bases : ℕ
  pub short : ℕ
  pub long_at : ℕ
  pub long_value : ℕ
  pub fields : ℕ
  pub table : ℕ
  pub escape_at : ℕ
  pub escape_label : ℕ
  pub codes : ℕ
  pub counting : ℕ
  pub ranking : ℕ

-- The lengths of the seventeen columns that a build is lent.
pub record Rooms : Type 0 where
  pub targets : ℕ
  pub labels : ℕ
  pub weak_from : ℕ
  pub weak_to : ℕ
  pub roots : ℕ
  pub working : ℕ
  pub coded : Lent

-- "ROOM: a buffer is smaller than its need": one of its columns is, so that a pair has the room of the shorter.
abbrev pub buffer : ℕ → List Bool → List ℕ
buffer k short = cond (any_of short) (k ∷ []) []

-- the short ones of buffers 5 to 9
unfoldable pub short_later : Schema → Parts → Lent → List ℕ
short_later s p l =
    buffer 5 (ltb l.long_at (need_long p) ∷ ltb l.long_value (need_long p) ∷ [])
    ++ buffer 6 (ltb l.fields (need_fields s p) ∷ ltb l.table (need_table s) ∷ [])
    ++ buffer 7 (ltb l.escape_at (need_escapes s p) ∷ ltb l.escape_label (need_escapes s p) ∷ [])
    ++ buffer 8 (ltb l.codes (need_codes p) ∷ [])
    ++ buffer 9 (ltb l.counting (need_table s) ∷ ltb l.ranking (need_table s) ∷ [])

-- the short ones of a build, and of `from_parts`: "then ROOM for buffers 4 to 9"
unfoldable pub short_of_build : Input → Rooms → List ℕ
short_of_build x r =
    let p = graph x in
    buffer 1 (ltb r.targets (need_places x) ∷ ltb r.labels (need_places x) ∷ [])
    ++ buffer 2 (ltb r.weak_from (need_weak x) ∷ ltb r.weak_to (need_weak x) ∷ [])
    ++ buffer 3 (ltb r.roots (need_roots x) ∷ [])
    ++ buffer 4 (ltb r.coded.bases (need_bases p) ∷ ltb r.coded.short (need_offsets p) ∷ ltb r.working (need_offsets p) ∷ [])
    ++ short_later x.schema p r.coded

unfoldable pub short_of_parts : Schema → Parts → Lent → List ℕ
short_of_parts s p l = buffer 4 (ltb l.bases (need_bases p) ∷ ltb l.short (need_offsets p) ∷ []) ++ short_later s p l

-- A number in the place of a need, where only so much room matters: it is the need, or both fit.
unfoldable pub Fits : ℕ → ℕ → ℕ → Type 0
Fits room need n = (n ≡ need) ⊎ ((need ≤ room) × (n ≤ room))
