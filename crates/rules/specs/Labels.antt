-- "Blocks and labels" of document 01, the labels: which fields have codes, the two-byte code of each label, escapes, and reading. Assumes nothing.
use Rattle.std.specs.Prelude.{ℕ, zero, suc, ◌+◌, ◌-◌, ◌%◌, min, Bool, cond, List, [], ◌∷◌, ◌++◌, map, eqb, leb, length, take}
use Rattle.columns.specs.Lists.{◌!◌, collect, tab, places, lookup, find, found, or_else, count, sort, part}
use Rattle.rules.specs.Types.{loader_label, array_element_label, is_element}
use Rattle.rules.specs.Input.{Schema, class_count, slot_total, slot_place, static_total, static_place, is_object_static}

-- "Every slot label and object static name of any class."
unfoldable pub named : Schema → List ℕ
named s =
    collect
    (λ c. tab (λ k. s.slots.labels ! slot_place s c k) (slot_total s c)
    ++ map (λ k. s.statics.names ! static_place s c k) (places (is_object_static s c) (static_total s c)))
    (class_count s)

-- of the names below n, then LOADER, those that occur in ls
unfoldable pub occurring : ℕ → List ℕ → List ℕ
occurring n ls = places (λ l. found (find ls l)) n ++ cond (found (find ls loader_label)) (loader_label ∷ []) []

-- "Listed fields: .. rising, then `LOADER`."
unfoldable pub listed : ℕ → List ℕ → List ℕ
listed n names = occurring n (loader_label ∷ names)

-- "All field labels that occur on edges are ranked by use, ties by smaller label."
unfoldable pub ranked : ℕ → List ℕ → List ℕ
ranked n labels = sort (λ a b. leb (count b labels) (count a labels)) (occurring n labels)

-- "Up to 32,767 fields, `LOADER` counted, all have codes. With more, .. the first 32,767 get codes." The code of a field is its place here.
unfoldable pub fields_of : ℕ → List ℕ → List ℕ → List ℕ
fields_of n names labels = cond (leb (length (listed n names)) 32767) (listed n names) (take 32767 (ranked n labels))

-- "A label on an edge without a code is 0x7FFF."
unfoldable pub field_code : List ℕ → ℕ → ℕ
field_code fields l = or_else 32767 (find fields l)

-- "A code table of names + 2 (each name, the loader, any other label; 32,767 where there is none)."
unfoldable pub code_table : ℕ → List ℕ → List ℕ
code_table n fields = tab (field_code fields) n ++ (field_code fields loader_label ∷ 32767 ∷ [])

-- "The previous element index of this object + 1", 0 before the first: after a label, and after the first k labels of one object.
-- "Field labels between elements do not reset the previous index."
abbrev pub after : ℕ → ℕ → ℕ
after n l = cond (is_element l) (l - array_element_label + 1) n

abbrev pub expected : List ℕ → ℕ → ℕ
expected ls zero = 0
expected ls (suc k) = after (expected ls k) (ls ! k)

-- "Element: 0x8000 + gap .. 32,767 and over is 0xFFFF": a label's code where n is expected.
abbrev pub label_code : List ℕ → ℕ → ℕ → ℕ
label_code fields n l = cond (is_element l) (32768 + min (l - array_element_label - n) 32767) (field_code fields l)

-- the labels of object o; the codes of one object's labels, and of all objects'
abbrev pub own : List ℕ → List ℕ → ℕ → List ℕ
own offsets labels o = part labels (offsets ! o) (offsets ! suc o)

unfoldable pub codes_of : List ℕ → List ℕ → List ℕ
codes_of fields ls = tab (λ k. label_code fields (expected ls k) (ls ! k)) (length ls)

unfoldable pub codes_for : List ℕ → List ℕ → List ℕ → ℕ → List ℕ
codes_for fields offsets labels m = collect (λ o. codes_of fields (own offsets labels o)) m

-- 0x7FFF and 0xFFFF are escaped: the label stands whole in a row, by the edge's place.
abbrev pub is_escaped : ℕ → Bool
is_escaped c = eqb (c % 32768) 32767

-- The label columns of m objects.
pub record Coded : Type 0 where
  pub codes : List ℕ
  pub fields : List ℕ
  pub escape_at : List ℕ
  pub escape_label : List ℕ

unfoldable pub coded : List ℕ → List ℕ → List ℕ → ℕ → Coded
coded fields offsets labels m =
    let codes = codes_for fields offsets labels m in
    let escape_at = places (λ e. is_escaped (codes ! e)) (length codes) in
    record { codes = codes; fields = fields; escape_at = escape_at; escape_label = map (λ e. labels ! e) escape_at }

-- Reading: the label of edge e with code c, where n is expected.
unfoldable pub read_label : Coded → ℕ → ℕ → ℕ → ℕ
read_label d e n c =
    cond (is_escaped c) (lookup d.escape_at d.escape_label e) (cond (leb 32768 c) (array_element_label + (n + (c - 32768))) (d.fields ! c))

-- what is expected after the first k edges of the object whose edges begin at e, and its k-th label
unfoldable pub expected_at : Coded → ℕ → ℕ → ℕ
expected_at d e zero = 0
expected_at d e (suc k) = after (expected_at d e k) (read_label d (e + k) (expected_at d e k) (d.codes ! (e + k)))

unfoldable pub exact_label : Coded → ℕ → ℕ → ℕ
exact_label d e k = read_label d (e + k) (expected_at d e k) (d.codes ! (e + k))

-- "`coarse` gives every element the label `ARRAY_ELEMENT`": no gaps to add up.
unfoldable pub coarse_label : Coded → ℕ → ℕ → ℕ
coarse_label d e k =
    let c = d.codes ! (e + k) in
    cond (leb 32768 c) array_element_label (cond (eqb c 32767) (lookup d.escape_at d.escape_label (e + k)) (d.fields ! c))
