-- Places, by the columns that counting them reads: `place_count` of `rules/specs/Places.antt` restated on flat columns. Each comment names the law of
-- `proofs/Routes.antt`, `proofs/Placed.antt` or `proofs/Bound.antt` that ties the two. Assumes nothing.
use Rattle.std.specs.Prelude.{ℕ, ◌+◌, ◌-◌, ◌≤◌, ◌<◌, ◌≡◌, Bool, true, false, cond, not, List, [], ◌∷◌, eqb, ltb, length}
use Rattle.columns.specs.Lists.{◌!◌, one, total, find, found, all_of, any_of}
use Rattle.columns.specs.Ranks.{Rises}
use Rattle.rules.specs.declared.ReferencePolicy.{ReferencePolicy}
use Rattle.rules.specs.Types.{keeps}
use Rattle.check_ids.specs.Spans.{part_length}
use Rattle.check_tables.specs.Found.{place_for}
-- "Raw counts every slot, every element", "copied counts kept non-zero slots, non-zero elements": of one object, slot or element; what counting parts asks
pub use Rattle.check_place_steps.specs.Place.{part_at, one_code, codes_in, PartTables, PartsIn}
unfoldable pub use Rattle.check_place_steps.specs.Place.{slot_held}

-- the slots of an instance
abbrev pub one_slot : List ℕ → List ℕ → Bool → ℕ → ℕ → ℕ → ℕ
one_slot codes weak kept start first k = one (slot_held kept (weak ! (first + k)) (codes ! (start + k)))

-- The places of an object's own slots and elements in the rule `places_of`: law `copied-own`.
unfoldable pub object_places : List ℕ → List ℕ → List ℕ → List ℕ → List ℕ → ReferencePolicy → ℕ → ℕ → ℕ → ℕ → ℕ
object_places classKinds slot_start slot_end weak codes policy kind class len start =
    cond (eqb kind 0) (total (one_slot codes weak (keeps policy (classKinds ! class)) start (slot_start ! class)) (slot_end ! class - slot_start ! class)) 0
    + cond (eqb kind 1) (total (one_code codes start) len) 0

abbrev pub held_at : List ℕ → List ℕ → List ℕ → List ℕ → List ℕ → List ℕ → List ℕ → List ℕ → List ℕ → ReferencePolicy → ℕ → ℕ
held_at kinds classes lengths classKinds slot_start slot_end weak codes starts policy o =
    object_places classKinds slot_start slot_end weak codes policy (kinds ! o) (classes ! o) (lengths ! o) (starts ! o)

-- Raw counts "every object static and one loader per found class", copied "found statics and found loaders": the rule `has_place`, by the laws
-- `static_held_lem` and `loader_held`.
unfoldable pub is_held : Bool → List ℕ → ℕ → Bool
is_held every ids id = any_of (every ∷ all_of (not (eqb id 0) ∷ found (find ids id) ∷ []) ∷ [])

unfoldable pub static_held : Bool → List ℕ → ℕ → ℕ → Bool
static_held every ids type value = all_of (eqb type 2 ∷ is_held every ids value ∷ [])

abbrev pub one_static : Bool → List ℕ → List ℕ → List ℕ → ℕ → ℕ → ℕ
one_static every ids types values from k = one (static_held every ids (types ! (from + k)) (values ! (from + k)))

-- those of class c, if it is found: the rule `class_refs`, by the laws `static_sum` and `class_sum`
unfoldable pub class_places : Bool → List ℕ → List ℕ → List ℕ → List ℕ → List ℕ → List ℕ → List ℕ → List ℕ → ℕ → ℕ
class_places every ids classIds loaders dumped static_start static_end types values c =
    cond (ltb (place_for ids (classIds ! c) (dumped ! c)) (length ids))
    (total (one_static every ids types values (static_start ! c)) (static_end ! c - static_start ! c) + one (is_held every ids (loaders ! c))) 0

-- The rule `place_count` by the raw route, law `raw-placed`, and by the copied route, law `copied_placed`.
unfoldable pub raw_places : List ℕ → List ℕ → List ℕ → List ℕ → List ℕ → List ℕ → List ℕ → List ℕ → List ℕ → List ℕ → List ℕ → List ℕ → List ℕ → ℕ
raw_places ids kinds classes lengths classIds loaders dumped slot_start slot_end static_start static_end types values =
    total (part_at kinds classes lengths slot_start slot_end) (length kinds)
    + total (class_places true ids classIds loaders dumped static_start static_end types values) (length classIds)

unfoldable pub copied_places : List ℕ → List ℕ → List ℕ → List ℕ → List ℕ → List ℕ → List ℕ → List ℕ → List ℕ → List ℕ → List ℕ → List ℕ
    → List ℕ → List ℕ → List ℕ → List ℕ → List ℕ → ReferencePolicy → ℕ
copied_places ids kinds classes lengths classIds loaders dumped classKinds slot_start slot_end static_start static_end weak types values codes starts policy =
    total (held_at kinds classes lengths classKinds slot_start slot_end weak codes starts policy) (length kinds)
    + total (class_places false ids classIds loaders dumped static_start static_end types values) (length classIds)

-- No more than these, which no rule names: the codes that are not 0 of an object's part (`codes_in`), and of each class that is found every object static and its
-- loader. The law `places_most` says that they bound `copied_places`.
unfoldable pub most_places : List ℕ → List ℕ → List ℕ → List ℕ → List ℕ → List ℕ → List ℕ → List ℕ → List ℕ → List ℕ → List ℕ → List ℕ
    → List ℕ → List ℕ → List ℕ → ℕ
most_places ids kinds classes lengths classIds loaders dumped slot_start slot_end static_start static_end types values codes starts =
    total (codes_in kinds classes lengths slot_start slot_end codes starts) (length kinds)
    + total (class_places true ids classIds loaders dumped static_start static_end types values) (length classIds)

-- the range of each class stands in a column of n
abbrev pub RangesIn : List ℕ → List ℕ → ℕ → Type 0
RangesIn starts ends n = (c : ℕ) → c < length starts → (starts ! c ≤ ends ! c) × (ends ! c ≤ n)

-- What counting asks of the columns, all of which an input has that passed the tests before: of the classes,
pub record ClassTables (ids classIds loaders dumped static_start static_end types values : List ℕ) : Type 0 where
  pub rising : Rises ids
  pub loaders_long : length loaders ≡ length classIds
  pub dumped_long : length dumped ≡ length classIds
  pub starts_long : length static_start ≡ length classIds
  pub ends_long : length static_end ≡ length classIds
  pub values_long : length values ≡ length types
  pub ranges : RangesIn static_start static_end (length types)
  pub few : length classIds ≤ 67108864

-- of one object on the copied route, and of all. Of the objects on the raw route: `PartTables`.
pub record PartStands (classKinds slot_start slot_end weak codes : List ℕ) (kind class len start : ℕ) : Type 0 where
  pub kinds_long : length classKinds ≡ length slot_start
  pub ends_long : length slot_end ≡ length slot_start
  pub ranges : RangesIn slot_start slot_end (length weak)
  pub class_in : kind ≡ 0 → class < length slot_start
  pub span : kind < 2 → start + part_length kind class len slot_start slot_end ≤ length codes

pub record CodeTables (kinds classes lengths classKinds slot_start slot_end weak codes starts : List ℕ) : Type 0 where
  pub classes_long : length classes ≡ length kinds
  pub lengths_long : length lengths ≡ length kinds
  pub starts_long : length starts ≡ length kinds
  pub stands : (o : ℕ) → o < length kinds → PartStands classKinds slot_start slot_end weak codes (kinds ! o) (classes ! o) (lengths ! o) (starts ! o)
  pub few : length kinds ≤ 67108864
