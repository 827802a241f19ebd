-- The references of one object, over the columns that hold them: `slot_refs`, `element_ref`, `class_refs` of `rules/specs/Edges.antt` restated on flat
-- columns. Each comment names the law of `edge_pass/proofs/Bridge.antt` that ties the two; together they are the rule `refs`, by the law `copied-refs`.
-- Assumes nothing.
use Rattle.std.specs.Prelude.{ℕ, zero, suc, ◌+◌, ◌-◌, ◌^◌, ◌≤◌, ◌<◌, ◌≡◌, Bool, true, cond, List, [], ◌∷◌, eqb, length}
use Rattle.columns.specs.Lists.{◌!◌, tab, collect}
use Rattle.index.specs.Copied.{Ids}
use Rattle.rules.specs.Types.{loader_label, array_element_label, keeps}
use Rattle.rules.specs.declared.ReferencePolicy.{ReferencePolicy}
use Rattle.rules.specs.Input.{copied_id}
use Rattle.rules.specs.Edges.{Ref}
use Rattle.edge_append.specs.Append.{ref_of}
-- whether a slot is kept
unfoldable pub use Rattle.edge_weak.specs.Weak.{kept_of}

-- the slot at a place of the slot columns, where it holds an id: the rule `slot_ref`, law `slot_same`
unfoldable pub slot_with : List ℕ → List ℕ → Bool → ℕ → ℕ → Ref
slot_with labels weak keeps place id = ref_of 0 (labels ! place) (kept_of (weak ! place) keeps) id

-- "Element i gives label `ARRAY_ELEMENT` + i": the rule `element_ref`, law `element-same`.
unfoldable pub element_with : ℕ → ℕ → Ref
element_with k id = ref_of 1 (array_element_label + k) true id

-- Copied: the ids stand from `start` on, in order; the slots from `first` on. The rules `slot_ref` and `element_ref`, laws `slot_same` and `element-same`.
unfoldable pub copied_slot : Ids → ℕ → List ℕ → List ℕ → Bool → ℕ → ℕ → Ref
copied_slot c start labels weak keeps first k = slot_with labels weak keeps (first + k) (copied_id c (start + k))

unfoldable pub copied_element : Ids → ℕ → ℕ → Ref
copied_element c start k = element_with k (copied_id c (start + k))

-- The class's range of slots stands in the columns of slots, and the ids have places; asked only of instances.
pub record SlotsIn (kinds starts ends : List ℕ) (labels weak kind class start : ℕ) : Type 0 where
  pub kind_in : kind ≡ 0 → class < length kinds
  pub start_in : kind ≡ 0 → class < length starts
  pub end_in : kind ≡ 0 → class < length ends
  pub ordered : kind ≡ 0 → starts ! class ≤ ends ! class
  pub labels_in : kind ≡ 0 → ends ! class ≤ labels
  pub weak_in : kind ≡ 0 → ends ! class ≤ weak
  pub held : kind ≡ 0 → start + (ends ! class - starts ! class) < 2 ^ 64

-- "Class is read for instances only": the slots of an object of any kind, the rule `slot_refs`, law `slots_same`.
unfoldable pub copied_slots : Ids → ℕ → List ℕ → List ℕ → List ℕ → List ℕ → List ℕ → ReferencePolicy → ℕ → ℕ → List Ref
copied_slots c start kinds starts ends labels weak policy kind class =
    tab (copied_slot c start labels weak (keeps policy (kinds ! class)) (starts ! class)) (cond (eqb kind 0) (ends ! class - starts ! class) 0)

-- its elements, the rule `element_ref` as often as `element_count` says, law `elements_same`
unfoldable pub copied_elements : Ids → ℕ → ℕ → ℕ → List Ref
copied_elements c start kind count = tab (copied_element c start) (cond (eqb kind 1) count 0)

-- "Type 2 is an object; 4 to 11 are skipped": the static at a place of the static columns, the rule `static_refs`, law `classes-same`.
unfoldable pub static_ref_at : List ℕ → List ℕ → List ℕ → ℕ → List Ref
static_ref_at names types values place = cond (eqb (types ! place) 2) (ref_of 2 (names ! place) true (values ! place) ∷ []) []

unfoldable pub static_from : List ℕ → List ℕ → List ℕ → ℕ → ℕ → List Ref
static_from names types values first k = static_ref_at names types values (first + k)

-- The class found at an object, by its mark: the class and one, 0 for none. Its object statics in order, and its loader: the rule `class_refs`, law
-- `classes-same`.
unfoldable pub statics_at : List ℕ → List ℕ → List ℕ → List ℕ → List ℕ → ℕ → List Ref
statics_at starts ends names types values zero = []
statics_at starts ends names types values (suc c) = collect (static_from names types values (starts ! c)) (ends ! c - starts ! c)

unfoldable pub loader_at : List ℕ → ℕ → List Ref
loader_at loaders zero = []
loader_at loaders (suc c) = ref_of 3 loader_label true (loaders ! c) ∷ []

-- The statics of a marked class stand in columns of these lengths.
pub record StaticsIn (starts ends : List ℕ) (names types values mark : ℕ) : Type 0 where
  pub start_in : 0 < mark → mark ≤ length starts
  pub end_in : 0 < mark → mark ≤ length ends
  pub ordered : 0 < mark → starts ! (mark - 1) ≤ ends ! (mark - 1)
  pub names_in : 0 < mark → ends ! (mark - 1) ≤ names
  pub types_in : 0 < mark → ends ! (mark - 1) ≤ types
  pub values_in : 0 < mark → ends ! (mark - 1) ≤ values
