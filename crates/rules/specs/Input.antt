-- "What comes in" of document 01: the tables, the two routes to an object's ids, and what of them is read. Assumes nothing.
use Rattle.std.specs.Prelude.{ℕ, ◌+◌, ◌-◌, ◌*◌, Bool, true, cond, not, ◌||◌, List, [], ◌∷◌, eqb, leb, length}
use Rattle.columns.specs.Lists.{◌!◌, leading, places, part, all_of}
use Rattle.columns.specs.Columns.{accepts}
use Rattle.index.specs.Copied.{Ids, id_back}
use Rattle.rules.specs.declared.ReferencePolicy.{ReferencePolicy}
use Rattle.rules.specs.Types.{keeps}

-- "Objects: id, kind (0 instance, 1 object array, 2 primitive array, 3 class), class, length."
pub record Objects : Type 0 where
  pub ids : List ℕ
  pub kinds : List ℕ
  pub classes : List ℕ
  pub lengths : List ℕ

-- "Classes: id, loader, dumped flag (0 or 1), reference kind (0 none, 1 soft, 2 weak, 3 phantom, 4 final), a range of slots, a range of statics."
pub record Classes : Type 0 where
  pub ids : List ℕ
  pub loaders : List ℕ
  pub dumped : List ℕ
  pub kinds : List ℕ
  pub slot_start : List ℕ
  pub slot_end : List ℕ
  pub static_start : List ℕ
  pub static_end : List ℕ

-- "Slots: offset, label, weak flag."
pub record Slots : Type 0 where
  pub offsets : List ℕ
  pub labels : List ℕ
  pub weak : List ℕ

-- "Statics: name, type, value. Type 2 is an object; 4 to 11 are skipped."
pub record Statics : Type 0 where
  pub names : List ℕ
  pub types : List ℕ
  pub values : List ℕ

-- the tables of the classes, with the name count: all of them that `from_parts` is handed too
pub record Schema : Type 0 where
  pub classes : Classes
  pub slots : Slots
  pub statics : Statics
  pub names : ℕ

-- "Copied: codes, escapes (place, id), base, and a start per object."
pub record Copied : Type 0 where
  pub ids : Ids
  pub starts : List ℕ

-- "Raw: a byte slice, id size 4 or 8, and a start and length per object."
pub record Raw : Type 0 where
  pub bytes : List ℕ
  pub size : ℕ
  pub starts : List ℕ
  pub lengths : List ℕ

pub data Route : Type 0 where
  copied : Copied → Route
  raw : Raw → Route

pub record Input : Type 0 where
  pub objects : Objects
  pub schema : Schema
  pub roots : List ℕ
  pub route : Route
  pub policy : ReferencePolicy

abbrev pub object_count : Input → ℕ
object_count x = length x.objects.ids

abbrev pub class_count : Schema → ℕ
class_count s = length s.classes.ids

-- Class c: how many slots and statics it has, and the places of its k-th.
abbrev pub slot_total : Schema → ℕ → ℕ
slot_total s c = s.classes.slot_end ! c - s.classes.slot_start ! c

abbrev pub slot_place : Schema → ℕ → ℕ → ℕ
slot_place s c k = s.classes.slot_start ! c + k

abbrev pub static_total : Schema → ℕ → ℕ
static_total s c = s.classes.static_end ! c - s.classes.static_start ! c

abbrev pub static_place : Schema → ℕ → ℕ → ℕ
static_place s c k = s.classes.static_start ! c + k

abbrev pub is_object_static : Schema → ℕ → ℕ → Bool
is_object_static s c k = eqb (s.statics.types ! static_place s c k) 2

-- "Class is read for instances only."
abbrev pub class_of : Input → ℕ → ℕ
class_of x o = x.objects.classes ! o

unfoldable pub slot_count : Input → ℕ → ℕ
slot_count x o = cond (eqb (x.objects.kinds ! o) 0) (slot_total x.schema (class_of x o)) 0

-- the place of the k-th slot of o's class
abbrev pub slot_of : Input → ℕ → ℕ → ℕ
slot_of x o k = slot_place x.schema (class_of x o) k

unfoldable pub element_count : Input → ℕ → ℕ
element_count x o = cond (eqb (x.objects.kinds ! o) 1) (x.objects.lengths ! o) 0

-- A copied id is what reads back at its place; 0 where nothing does, which no accepted input meets.
unfoldable pub copied_id : Ids → ℕ → ℕ
copied_id c p = cond (accepts (id_back c p)) (id_back c p ! 1) 0

-- A raw id is the number that its bytes write, highest byte first, over the id size.
abbrev pub big_endian : ℕ → List ℕ → ℕ
big_endian high [] = high
big_endian high (b ∷ bs) = big_endian (high * 256 + b) bs

unfoldable pub raw_id : Raw → ℕ → ℕ
raw_id r p = big_endian 0 (part r.bytes p (p + r.size))

-- The k-th id of object o, which in a raw body stands at byte `spot`.
unfoldable pub id_at : Route → ℕ → ℕ → ℕ → ℕ
id_at (copied c) o k spot = copied_id c.ids (c.starts ! o + k)
id_at (raw r) o k spot = raw_id r (r.starts ! o + spot)

unfoldable pub slot_id : Input → ℕ → ℕ → ℕ
slot_id x o k = id_at x.route o k (x.schema.slots.offsets ! slot_of x o k)

-- element k of a raw body stands behind k ids
unfoldable pub element_spot : Route → ℕ → ℕ
element_spot (copied c) k = 0
element_spot (raw r) k = k * r.size

unfoldable pub element_id : Input → ℕ → ℕ → ℕ
element_id x o k = id_at x.route o k (element_spot x.route k)

-- "Raw: reading stops at the first slot that ends past the body." "Every slot of the copied route counts as fitting."
unfoldable pub fits : Route → ℕ → ℕ → Bool
fits (copied c) o spot = true
fits (raw r) o spot = leb (spot + r.size) (r.lengths ! o)

unfoldable pub slot_fits : Input → ℕ → ℕ → Bool
slot_fits x o k = fits x.route o (x.schema.slots.offsets ! slot_of x o k)

unfoldable pub read_slots : Input → ℕ → ℕ
read_slots x o = leading (slot_fits x o) (slot_count x o)

-- "A slot is kept if it isn't weak or its class's kind is kept."
unfoldable pub slot_kept : Input → ℕ → ℕ → Bool
slot_kept x o k = not (eqb (x.schema.slots.weak ! slot_of x o k) 1) || keeps x.policy (x.schema.classes.kinds ! class_of x o)

-- "A dumped class found among the objects": found at o, where o has its id. At most one is, in an accepted input.
unfoldable pub found_at : Input → ℕ → ℕ → Bool
found_at x o c = all_of (eqb (x.schema.classes.dumped ! c) 1 ∷ eqb (x.schema.classes.ids ! c) (x.objects.ids ! o) ∷ [])

unfoldable pub classes_at : Input → ℕ → List ℕ
classes_at x o = places (found_at x o) (class_count x.schema)
