-- What `field` and `referent` answer, from the columns that they read. Assumes nothing.
use Rattle.std.specs.Prelude.{ℕ, ◌≡◌, ◌+◌, ◌-◌, ◌≤◌, ◌<◌, Bool, true, cond, List, [], ◌∷◌, Option, None, Some, Result, Ok, Err, eqb, ltb, leb, length}
use Rattle.columns.specs.Lists.{◌!◌, first_place, all_of}
use Rattle.columns.specs.Columns.{accepts}
use Rattle.rules.specs.Types.{array_element_label, is_element}
use Rattle.rules.specs.declared.Label.{Label}
use Rattle.rules.specs.Labels.{Coded}
use Rattle.rules.specs.Questions.{Columns}
use Rattle.labels.specs.declared.Unread.{Unread}
use Rattle.labels.specs.Reading.{read_says, coded_of, coarse_back}
use Rattle.ask_span.specs.Reading.{weak_rows_of}
use Rattle.ask_span.specs.Graph.{span_in}

-- The first edge that matches, if there is one; unread where an edge before it cannot be read.
abbrev pub Sought : Type 0
Sought = Result (Option ℕ) Unread

abbrev pub unread : Sought
unread = Err (record {})

-- The first of n edges at which a test holds, if there is one.
unfoldable pub first_sought : (ℕ → Bool) → ℕ → Option ℕ
first_sought t n = cond (ltb (first_place t n) n) (Some (first_place t n)) None

-- "Asked `ARRAY_ELEMENT`, the first element": an edge whose code is an element's.
abbrev pub element_at : Coded → ℕ → ℕ → Bool
element_at d e k = leb 32768 (d.codes ! (e + k))

-- The rows of the escapes, which some questions do not look into, and the columns of labels with them.
pub record Rows : Type 0 where
  pub at : List ℕ
  pub label : List ℕ

abbrev pub with_rows : List ℕ → List ℕ → Rows → Coded
with_rows codes fields rows = coded_of codes fields rows.at rows.label

-- An edge whose code says no label by itself: it is no element's, and no field's by one look into the fields.
pub record Unsaid (codes fields : List ℕ) (e : ℕ) : Type 0 where
  pub within : e < length codes
  pub no_element : codes ! e < 32768
  pub no_field : codes ! e < 32767 → length fields ≤ codes ! e

-- Of such an edge, what is read is what its code says by the rows.
abbrev pub Reads : (ℕ → Result Label Unread → Type 0) → List ℕ → List ℕ → Rows → Type 0
Reads post codes fields rows = (e : ℕ) (r : Result Label Unread) → Unsaid codes fields e → post e r → read_says r ≡ coarse_back (with_rows codes fields rows) e

-- Asked a field: edge by edge, up to the first that has the label, or that cannot be read.
abbrev pub stops_at : ℕ → List ℕ → Bool
stops_at l [] = true
stops_at l (a ∷ ls) = eqb a l

abbrev pub stops : Coded → ℕ → ℕ → ℕ → Bool
stops d e l k = stops_at l (coarse_back d (e + k))

abbrev pub if_read : List ℕ → ℕ → Sought
if_read [] k = unread
if_read (a ∷ ls) k = Ok (Some k)

unfoldable pub decoded : Coded → ℕ → ℕ → ℕ → Sought
decoded d e n l = cond (ltb (first_place (stops d e l) n) n) (if_read (coarse_back d (e + first_place (stops d e l) n)) (first_place (stops d e l) n)) (Ok None)

-- "`field` gives the first target whose coarse label matches: .. asked any other element label, nothing."
unfoldable pub sought_in : Coded → ℕ → ℕ → ℕ → Sought
sought_in d e n l = cond (eqb l array_element_label) (Ok (first_sought (element_at d e) n)) (cond (is_element l) (Ok None) (decoded d e n l))

abbrev pub sought_target : List ℕ → ℕ → ℕ → Sought → List ℕ
sought_target ts e o (Ok (Some k)) = 0 ∷ ts ! (e + k) ∷ []
sought_target ts e o (Ok None) = 0 ∷ []
sought_target ts e o (Err u) = 12 ∷ o ∷ []

unfoldable pub field_found : Columns → ℕ → ℕ → List ℕ
field_found c o l =
    let s = span_in c o in
    cond (accepts s) (sought_target c.targets (s ! 1) o (sought_in c.labels (s ! 1) (s ! 2 - s ! 1) l)) s

-- "`referent` tries the field, then the smallest weak target": of sorted pairs, that of the first row.
unfoldable pub first_weak : List ℕ → List ℕ → List ℕ
first_weak says to = cond (accepts says) (cond (ltb (says ! 1) (says ! 2)) (0 ∷ to ! (says ! 1) ∷ []) (0 ∷ [])) says

abbrev pub or_weak : List ℕ → List ℕ → List ℕ
or_weak field weak = cond (all_of (accepts field ∷ eqb (length field) 1 ∷ [])) weak field

unfoldable pub referent_found : Columns → ℕ → ℕ → List ℕ
referent_found c o l = or_weak (field_found c o l) (first_weak (weak_rows_of (length c.offsets.short) c.weak_from c.weak_to o) c.weak_to)
