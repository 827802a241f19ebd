-- "Questions" of document 01: when an object reads back, the questions on a list of edges, and what each call answers over columns. Assumes nothing.
use Rattle.std.specs.Prelude.{ℕ, suc, ◌+◌, ◌-◌, min, ◌≡◌, Bool, true, false, cond, not, List, [], ◌∷◌, map, eqb, leb, ltb, length}
use Rattle.std.specs.Bool.{beq}
use Rattle.std.proofs.Math.Option.{Option, none, some}
use Rattle.columns.specs.Lists.{◌!◌, tab, any, find, found, lookup, part, all_of, any_of}
use Rattle.columns.specs.Columns.{accepts, leaves}
use Rattle.columns.specs.Ranks.{rank}
use Rattle.store.specs.Blocked.{Blocked, blocked, read_back}
use Rattle.rules.specs.Types.{array_element_label, is_element}
use Rattle.rules.specs.Input.{Schema}
use Rattle.rules.specs.Edges.{Parts, Edge}
use Rattle.rules.specs.Labels.{Coded, is_escaped, expected_at, exact_label}
use Rattle.rules.specs.Needs.{label_columns}
use Rattle.rules.specs.Verdict.{falls}
use Rattle.rules.specs.Parts.{degree, no_object, unsorted}

-- On a list of edges. "`coarse` gives every element the label `ARRAY_ELEMENT`."
abbrev pub coarse : ℕ → ℕ
coarse l = cond (is_element l) array_element_label l

abbrev pub first_edge : (Edge → Bool) → List Edge → Option Edge
first_edge t [] = none
first_edge t (e ∷ es) = cond (t e) (some e) (first_edge t es)

-- the exact and the coarse label of edge k: "a query's .. edge of an object does not exist" is INDEX
unfoldable pub label_at : (ℕ → ℕ) → List Edge → ℕ → List ℕ
label_at f es k = cond (ltb k (length es)) (0 ∷ f (map (λ (e : Edge). e.label) es ! k) ∷ []) (11 ∷ k ∷ [])

abbrev pub exact_in : List Edge → ℕ → List ℕ
exact_in es k = label_at (λ l. l) es k

abbrev pub coarse_in : List Edge → ℕ → List ℕ
coarse_in es k = label_at coarse es k

-- "`label_of` gives the exact label of the first edge to a target": the label, or nothing.
abbrev pub labels_of : Option Edge → List ℕ
labels_of none = []
labels_of (some e) = e.label ∷ []

unfoldable pub label_in : List Edge → ℕ → List ℕ
label_in es t = labels_of (first_edge (λ e. eqb e.target t) es)

-- "`field` gives the first target whose coarse label matches."
abbrev pub targets_of : Option Edge → List ℕ
targets_of none = []
targets_of (some e) = e.target ∷ []

unfoldable pub field_in : List Edge → ℕ → List ℕ
field_in es l = targets_of (first_edge (λ e. eqb (coarse e.label) l) es)

-- "`referent` tries the field, then the smallest weak target."
abbrev pub smaller : ℕ → List ℕ → List ℕ
smaller a [] = a ∷ []
smaller a (b ∷ bs) = min a b ∷ []

abbrev pub smallest : List ℕ → List ℕ
smallest [] = []
smallest (a ∷ xs) = smaller a (smallest xs)

abbrev pub or_smallest : List ℕ → List ℕ → List ℕ
or_smallest [] ws = smallest ws
or_smallest (t ∷ ts) ws = t ∷ []

abbrev pub referent_in : List Edge → List ℕ → ℕ → List ℕ
referent_in es ws l = or_smallest (field_in es l) ws

-- One object's edges, all of them, into two lent columns of a and b numbers (added, docs/DECISIONS.md): how many they are, or ROOM 23 where a column is shorter.
unfoldable pub into_says : List Edge → ℕ → ℕ → List ℕ
into_says es a b = cond (any_of (ltb a (length es) ∷ ltb b (length es) ∷ [])) (9 ∷ 23 ∷ []) (0 ∷ length es ∷ [])

-- What such an answer leaves: the targets and the exact labels, and zeros behind them; zeros after a refusal.
pub record EdgesLeft : Type 0 where
  pub says : List ℕ
  pub targets : List ℕ
  pub labels : List ℕ

unfoldable pub edges_into : List ℕ → List Edge → ℕ → ℕ → EdgesLeft
edges_into says es a b =
    record { says = says; targets = leaves says (map (λ (e : Edge). e.target) es) a; labels = leaves says (map (λ (e : Edge). e.label) es) b }

-- In plain columns: the edges of object o, the targets of its weak pairs, and an answer where the object exists.
unfoldable pub edges_at : Parts → ℕ → List Edge
edges_at p o = tab (λ k. record { target = p.targets ! (p.offsets ! o + k); label = p.labels ! (p.offsets ! o + k) }) (degree p.offsets o)

abbrev pub weak_in : List ℕ → List ℕ → ℕ → List ℕ
weak_in [] to o = []
weak_in (f ∷ from) [] o = []
weak_in (f ∷ from) (t ∷ to) o = cond (eqb f o) (t ∷ weak_in from to o) (weak_in from to o)

abbrev pub plainly : ℕ → ℕ → List ℕ → List ℕ
plainly objects o answer = cond (ltb o objects) answer (11 ∷ o ∷ [])

unfoldable pub plain_edges : ℕ → ℕ → List Edge → ℕ → ℕ → EdgesLeft
plain_edges objects o es a b = edges_into (plainly objects o (into_says es a b)) es a b

-- Over columns: "queries take the used parts, at the lengths a build returns."
pub record Columns : Type 0 where
  pub offsets : Blocked
  pub targets : List ℕ
  pub labels : Coded
  pub weak_from : List ℕ
  pub weak_to : List ℕ

-- the columns of a plain graph, its offsets and labels coded
unfoldable pub columns_of : Schema → Parts → Columns
columns_of s p = record { offsets = blocked p.offsets; targets = p.targets; labels = label_columns s p; weak_from = p.weak_from; weak_to = p.weak_to }

-- There is one offset more than objects; object o's edges are from its own offset up to the next.
abbrev pub objects_in : Columns → ℕ
objects_in c = length c.offsets.short - 1

abbrev pub offset_at : Columns → ℕ → ℕ
offset_at c o = read_back c.offsets o ! 1

abbrev pub edges_in : Columns → ℕ → ℕ
edges_in c o = offset_at c (suc o) - offset_at c o

-- "Its targets are a part of the target column": one edge, and all edges of o as they are read.
abbrev pub edge_at : Columns → ℕ → ℕ → Edge
edge_at c o k = record { target = c.targets ! (offset_at c o + k); label = exact_label c.labels (offset_at c o) k }

unfoldable pub edges_read : Columns → ℕ → List Edge
edges_read c o = tab (edge_at c o) (edges_in c o)

-- "The long and escape lists strictly rise."
unfoldable pub rises : List ℕ → Bool
rises xs = not (any (falls xs) (length xs))

-- "Every .. 0x7FFF and 0xFFFF has its row (.. with a field's and an element's label), and every other code a field or an index under 2,147,483,648."
-- What stands among the fields with an element's label is no field.
unfoldable pub label_reads : Coded → ℕ → ℕ → Bool
label_reads d e k =
    let c = d.codes ! (e + k) in
    cond (is_escaped c)
    (all_of (found (find d.escape_at (e + k)) ∷ beq (is_element (lookup d.escape_at d.escape_label (e + k))) (leb 32768 c) ∷ []))
    (cond (leb 32768 c) (ltb (expected_at d e k + (c - 32768)) array_element_label) (all_of (ltb c (length d.fields) ∷ not (is_element (d.fields ! c)) ∷ [])))

-- "An object reads back when": the lists rise, and are columns of one table each; its offsets read, "do not fall and end within codes and targets";
-- "its targets are objects"; its labels read.
unfoldable pub reads_back : Columns → ℕ → Bool
reads_back c o =
    let e = offset_at c o in
    all_of
    (rises c.offsets.long_at ∷ eqb (length c.offsets.long_at) (length c.offsets.long_value)
    ∷ rises c.labels.escape_at ∷ eqb (length c.labels.escape_at) (length c.labels.escape_label)
    ∷ accepts (read_back c.offsets o) ∷ accepts (read_back c.offsets (suc o))
    ∷ leb e (offset_at c (suc o)) ∷ leb (offset_at c (suc o)) (length c.labels.codes) ∷ leb (offset_at c (suc o)) (length c.targets)
    ∷ not (any (λ k. no_object (objects_in c) c.targets (e + k)) (edges_in c o))
    ∷ not (any (λ k. not (label_reads c.labels e k)) (edges_in c o))
    ∷ [])

-- The weak pairs of o are the rows from the first that is not before o to the first behind o. They read where the pairs are sorted.
abbrev pub weak_start : Columns → ℕ → ℕ
weak_start c o = rank c.weak_from o

unfoldable pub weak_read : Columns → ℕ → List ℕ
weak_read c o = part c.weak_to (weak_start c o) (weak_start c (suc o))

unfoldable pub weak_reads : Columns → Bool
weak_reads c = all_of (eqb (length c.weak_from) (length c.weak_to) ∷ not (any (unsorted c.weak_from c.weak_to) (length c.weak_from)) ∷ [])

-- The order of the answers: INDEX of the object, then COLUMNS, then the answer.
unfoldable pub asked : Columns → ℕ → Bool → List ℕ → List ℕ
asked c o reads answer = cond (ltb o (objects_in c)) (cond reads answer (12 ∷ o ∷ [])) (11 ∷ o ∷ [])

-- What each call answers.
unfoldable pub span : Columns → ℕ → List ℕ
span c o = asked c o (reads_back c o) (0 ∷ offset_at c o ∷ offset_at c (suc o) ∷ [])

unfoldable pub edge_count : Columns → ℕ → List ℕ
edge_count c o = asked c o (reads_back c o) (0 ∷ length (edges_read c o) ∷ [])

unfoldable pub exact_of : Columns → ℕ → ℕ → List ℕ
exact_of c o k = asked c o (reads_back c o) (exact_in (edges_read c o) k)

unfoldable pub coarse_of : Columns → ℕ → ℕ → List ℕ
coarse_of c o k = asked c o (reads_back c o) (coarse_in (edges_read c o) k)

unfoldable pub label_of : Columns → ℕ → ℕ → List ℕ
label_of c o t = asked c o (reads_back c o) (0 ∷ label_in (edges_read c o) t)

unfoldable pub field : Columns → ℕ → ℕ → List ℕ
field c o l = asked c o (reads_back c o) (0 ∷ field_in (edges_read c o) l)

unfoldable pub weak_referents : Columns → ℕ → List ℕ
weak_referents c o = asked c o (weak_reads c) (0 ∷ weak_start c o ∷ weak_start c (suc o) ∷ [])

unfoldable pub referent : Columns → ℕ → ℕ → List ℕ
referent c o l = asked c o (all_of (reads_back c o ∷ weak_reads c ∷ [])) (0 ∷ referent_in (edges_read c o) (weak_read c o) l)

unfoldable pub object_edges : Columns → ℕ → ℕ → ℕ → EdgesLeft
object_edges c o a b = edges_into (asked c o (reads_back c o) (into_says (edges_read c o) a b)) (edges_read c o) a b

-- What a call promises over any columns: the answer wherever that is not COLUMNS, INDEX included; and COLUMNS at the object only.
-- "Over other columns a query may give 12 or an answer."
pub record Promised (o : ℕ) (says answer : List ℕ) : Type 0 where
  pub answered : eqb (answer ! 0) 12 ≡ false → says ≡ answer
  pub columns : eqb (says ! 0) 12 ≡ true → says ≡ 12 ∷ o ∷ []
