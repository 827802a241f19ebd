-- "Edges" of document 01: each object's references in order, what becomes of each, and the plain columns that follow. Assumes nothing.
use Rattle.std.specs.Prelude.{ℕ, suc, ◌+◌, Bool, true, false, cond, ◌&&◌, ◌||◌, List, [], ◌∷◌, ◌++◌, map, eqb, leb, ltb, length}
use Rattle.std.proofs.Math.Option.{Option, none, some}
use Rattle.columns.specs.Lists.{◌!◌, collect, tab, total, flat, sum, find, sort, distinct}
use Rattle.rules.specs.Types.{loader_label, array_element_label}
use Rattle.rules.specs.Input.{Input, Schema, object_count, read_slots, element_count, slot_id, element_id, slot_kept, slot_of, static_total, static_place}
use Rattle.rules.specs.Input.{is_object_static, classes_at}

-- The four kinds of references.
pub data Kind : Type 0 where
  slot element static loader : Kind

-- One reference: its kind, the label of its edge, whether it is kept, and the id that it holds.
pub record Ref : Type 0 where
  pub kind : Kind
  pub label : ℕ
  pub kept : Bool
  pub id : ℕ

unfoldable pub slot_ref : Input → ℕ → ℕ → Ref
slot_ref x o k = record { kind = slot; label = x.schema.slots.labels ! slot_of x o k; kept = slot_kept x o k; id = slot_id x o k }

-- "Array: element i gives label `ARRAY_ELEMENT` + i."
unfoldable pub element_ref : Input → ℕ → ℕ → Ref
element_ref x o k = record { kind = element; label = array_element_label + k; kept = true; id = element_id x o k }

-- "Its object statics in order, label the name": none where the k-th is no object.
unfoldable pub static_ref : Schema → ℕ → ℕ → Ref
static_ref s c k = record { kind = static; label = s.statics.names ! static_place s c k; kept = true; id = s.statics.values ! static_place s c k }

unfoldable pub static_refs : Schema → ℕ → ℕ → List Ref
static_refs s c k = cond (is_object_static s c k) (static_ref s c k ∷ []) []

unfoldable pub loader_ref : Schema → ℕ → Ref
loader_ref s c = record { kind = loader; label = loader_label; kept = true; id = s.classes.loaders ! c }

-- ".. then the loader."
unfoldable pub class_refs : Schema → ℕ → List Ref
class_refs s c = collect (static_refs s c) (static_total s c) ++ (loader_ref s c ∷ [])

-- "Instance: slots in order." An instance has no elements, an array no slots, and a class is found at objects of kind 3 only.
unfoldable pub slot_refs : Input → ℕ → List Ref
slot_refs x o = tab (slot_ref x o) (read_slots x o)

unfoldable pub other_refs : Input → ℕ → List Ref
other_refs x o = tab (element_ref x o) (element_count x o) ++ flat (class_refs x.schema) (classes_at x o)

-- The references of object o, in order.
unfoldable pub refs : Input → ℕ → List Ref
refs x o = slot_refs x o ++ other_refs x o

-- What becomes of a reference.
pub data Outcome : Type 0 where
  edge : ℕ → Outcome
  weak : ℕ → Outcome
  missing : Outcome
  nothing : Outcome

-- "A missing static is dangling; a missing loader is not."
abbrev pub absent : Kind → Outcome
absent slot = missing
absent element = missing
absent static = missing
absent loader = nothing

-- "Found and kept: an edge with the slot's label. Found, not kept: a weak pair. Not found: dangling, kept or not."
abbrev pub settled : Kind → Bool → Option ℕ → Outcome
settled k kept none = absent k
settled k true (some t) = edge t
settled k false (some t) = weak t

-- "Id 0 gives nothing, here and below."
unfoldable pub outcome : List ℕ → Ref → Outcome
outcome ids r = cond (eqb r.id 0) nothing (settled r.kind r.kept (find ids r.id))

pub record Edge : Type 0 where
  pub target : ℕ
  pub label : ℕ

-- What an outcome adds to the edges, to the weak targets, and to the missing.
abbrev pub edge_of : ℕ → Outcome → List Edge
edge_of l (edge t) = record { target = t; label = l } ∷ []
edge_of l (weak t) = []
edge_of l missing = []
edge_of l nothing = []

abbrev pub weak_of : Outcome → List ℕ
weak_of (edge t) = []
weak_of (weak t) = t ∷ []
weak_of missing = []
weak_of nothing = []

abbrev pub missing_of : Outcome → ℕ
missing_of (edge t) = 0
missing_of (weak t) = 0
missing_of missing = 1
missing_of nothing = 0

abbrev pub ref_edge : List ℕ → Ref → List Edge
ref_edge ids r = edge_of r.label (outcome ids r)

abbrev pub ref_weak : List ℕ → Ref → List ℕ
ref_weak ids r = weak_of (outcome ids r)

abbrev pub ref_missing : List ℕ → Ref → ℕ
ref_missing ids r = missing_of (outcome ids r)

-- One object's edges, weak targets, and missing ids.
unfoldable pub edges_of : Input → ℕ → List Edge
edges_of x o = flat (ref_edge x.objects.ids) (refs x o)

unfoldable pub weak_targets : Input → ℕ → List ℕ
weak_targets x o = flat (ref_weak x.objects.ids) (refs x o)

unfoldable pub missing_at : Input → ℕ → ℕ
missing_at x o = sum (ref_missing x.objects.ids) (refs x o)

-- All edges, and where object o's begin.
unfoldable pub edges : Input → List Edge
edges x = collect (edges_of x) (object_count x)

unfoldable pub offset : Input → ℕ → ℕ
offset x o = total (λ i. length (edges_of x i)) o

-- "Weak pairs sort by object, then target, repeats kept."
pub record Pair : Type 0 where
  pub object : ℕ
  pub target : ℕ

abbrev pub pair_le : Pair → Pair → Bool
pair_le p q = ltb p.object q.object || (eqb p.object q.object && leb p.target q.target)

abbrev pub pairs_of : Input → ℕ → List Pair
pairs_of x o = map (λ t. record { object = o; target = t }) (weak_targets x o)

unfoldable pub weak_pairs : Input → List Pair
weak_pairs x = sort pair_le (collect (pairs_of x) (object_count x))

-- "Roots sort, repeats dropped."
unfoldable pub distinct_roots : Input → List ℕ
distinct_roots x = distinct (sort leb x.roots)

-- A graph in plain columns: what a build comes to before its offsets and labels are coded, and what `from_parts` is handed.
pub record Parts : Type 0 where
  pub offsets : List ℕ
  pub labels : List ℕ
  pub targets : List ℕ
  pub weak_from : List ℕ
  pub weak_to : List ℕ
  pub roots : List ℕ
  pub dangling : ℕ

unfoldable pub graph : Input → Parts
graph x = record {
  offsets = tab (offset x) (suc (object_count x));
  labels = map (λ (e : Edge). e.label) (edges x);
  targets = map (λ (e : Edge). e.target) (edges x);
  weak_from = map (λ (p : Pair). p.object) (weak_pairs x);
  weak_to = map (λ (p : Pair). p.target) (weak_pairs x);
  roots = distinct_roots x;
  dangling = total (missing_at x) (object_count x);
}
