-- What each stage of coding answers, from the answer before it, and what it leaves in its columns where it accepts. Assumes nothing.
use Rattle.std.specs.Prelude.{ℕ, ◌+◌, ◌-◌, ◌≤◌, ◌≡◌, Bool, true, cond, List, [], ◌∷◌, ltb, length, set}
use Rattle.columns.specs.Lists.{any_of}
use Rattle.columns.specs.Columns.{accepts, Begins}
use Rattle.columns.specs.Ranks.{Climbs}
use Rattle.store.specs.Blocked.{blocks_of, long_rows, Filled}
use Rattle.rules.specs.Labels.{fields_of, code_table, coded}
use Rattle.labels.specs.Coding.{LaidOut, Room, all_by, escapes_in, CodesLaid}
use Rattle.labels.specs.Fields.{Naming, named_by, Ranges}
use Rattle.need_escapes.specs.Uncoded.{KnownLabels}

-- a stage that is handed a refusal hands it on
unfoldable pub hand_on : List ℕ → List ℕ → List ℕ
hand_on before rest = cond (accepts before) rest before

-- "9 ROOM: a buffer is smaller than its need": one of its columns is; else the rest
abbrev pub unless_short : ℕ → List Bool → List ℕ → List ℕ
unless_short k short rest = cond (any_of short) (9 ∷ k ∷ []) rest

-- the fields that have codes, by the columns that name them
abbrev pub fields_by : Naming → ℕ → ℕ → List ℕ → List ℕ
fields_by g classes names labels = fields_of names (named_by g classes) labels

-- how many labels are escaped where these fields have codes
unfoldable pub escapes_of : List ℕ → List ℕ → List ℕ → ℕ
escapes_of fields offsets labels = length (coded fields offsets labels (length offsets - 1)).escape_at

-- What the checks of a build and of `from_parts` have found of the columns that coding reads.
pub record Ready (g : Naming) (classes names : ℕ) (offsets labels : List ℕ) : Type 0 where
  pub ranges : Ranges g classes
  pub few_names : names ≤ 16777216
  pub few_offsets : length offsets ≤ 67108865
  pub few_labels : length labels ≤ 268435456
  pub laid : LaidOut offsets (length labels)
  pub known : KnownLabels names labels

-- where an answer accepts
abbrev pub Where : List ℕ → Type 0 → Type 0
Where says P = accepts says ≡ true → P

-- What each stage needs of that.
pub record OffsetsReady (offsets : List ℕ) : Type 0 where
  pub few_offsets : length offsets ≤ 67108865
  pub climbs : Climbs offsets

pub record NamesReady (g : Naming) (classes names : ℕ) : Type 0 where
  pub ranges : Ranges g classes
  pub few_names : names ≤ 16777216

pub record SpaceReady (g : Naming) (classes names : ℕ) (offsets labels : List ℕ) (nf nt : ℕ) : Type 0 where
  pub all : Ready g classes names offsets labels
  pub room_fields : length (fields_by g classes names labels) ≤ nf
  pub room_table : names + 2 ≤ nt

pub record RankReady (g : Naming) (classes names : ℕ) (labels : List ℕ) (nf nt nu nk : ℕ) : Type 0 where
  pub name : NamesReady g classes names
  pub few_labels : length labels ≤ 268435456
  pub room_fields : length (fields_by g classes names labels) ≤ nf
  pub room_table : names + 2 ≤ nt
  pub room_counting : names + 2 ≤ nu
  pub room_ranking : names + 2 ≤ nk

pub record CodesReady (names : ℕ) (table offsets labels : List ℕ) : Type 0 where
  pub room : Room names table
  pub laid : LaidOut offsets (length labels)

-- "4 block bases .. with objects + 1 short offsets; 5 long offsets": nb, ns, na and nv are the lengths lent.
unfoldable pub offsets_says : List ℕ → List ℕ → ℕ → ℕ → ℕ → ℕ → List ℕ
offsets_says before offsets nb ns na nv =
    hand_on before
    (unless_short 4 (ltb nb (blocks_of (length offsets)) ∷ ltb ns (length offsets) ∷ [])
    (unless_short 5 (ltb na (long_rows offsets) ∷ ltb nv (long_rows offsets) ∷ []) (set before 4 (long_rows offsets))))

pub record OffsetsCoded (before offsets : List ℕ) (nb ns na nv : ℕ) (says b s a v : List ℕ) : Type 0 where
  pub answer : says ≡ offsets_says before offsets nb ns na nv
  pub filled : Where says (Filled offsets nb ns na nv b s a v)

-- "6 coded fields, and a code table of names + 2": nf and nt are the lengths lent.
unfoldable pub fields_says : List ℕ → ℕ → ℕ → ℕ → ℕ → List ℕ
fields_says before need names nf nt = hand_on before (unless_short 6 (ltb nf need ∷ ltb nt (names + 2) ∷ []) (set before 5 need))

-- "7 label escapes; 8 codes, one per final edge": na, nl and nc are the lengths lent.
abbrev pub label_room : ℕ → ℕ → ℕ → ℕ → ℕ → List ℕ → List ℕ
label_room escapes edges na nl nc rest = unless_short 7 (ltb na escapes ∷ ltb nl escapes ∷ []) (unless_short 8 (ltb nc edges ∷ []) rest)

-- "9 counting and ranking space, names + 2 each": where it is short 7 and 8 come before it.
abbrev pub space_short : ℕ → ℕ → ℕ → List Bool
space_short names nu nk = ltb nu (names + 2) ∷ ltb nk (names + 2) ∷ []

unfoldable pub space_says : List ℕ → ℕ → ℕ → ℕ → ℕ → ℕ → ℕ → ℕ → ℕ → List ℕ
space_says before escapes edges names na nl nc nu nk =
    hand_on before (cond (any_of (space_short names nu nk)) (label_room escapes edges na nl nc (9 ∷ 9 ∷ [])) before)

-- The fields and the code table, each over the front of its column.
pub record FieldsWritten (names : ℕ) (fields f t : List ℕ) : Type 0 where
  pub listed : Begins fields f
  pub tabled : Begins (code_table names fields) t

unfoldable pub codes_says : List ℕ → ℕ → ℕ → ℕ → ℕ → ℕ → List ℕ
codes_says before escapes edges na nl nc = hand_on before (label_room escapes edges na nl nc (set before 6 escapes))

-- the codes by the table, of all objects
abbrev pub codes_all : ℕ → List ℕ → List ℕ → List ℕ → List ℕ
codes_all names table offsets labels = all_by names table offsets labels (length offsets - 1)

pub record CodesCoded (before : List ℕ) (names : ℕ) (table offsets labels c₀ a₀ l₀ says c a l : List ℕ) : Type 0 where
  pub answer : says ≡ codes_says before (escapes_in (codes_all names table offsets labels)) (length labels) (length a₀) (length l₀) (length c₀)
  pub laid : Where says (CodesLaid names table offsets labels c₀ a₀ l₀ (escapes_in (codes_all names table offsets labels)) c a l)
