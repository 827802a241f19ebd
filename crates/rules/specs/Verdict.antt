-- "Refusal numbers, in the order tested" of document 01: every fault of an input as a list, of which the first is the answer. Assumes nothing.
use Rattle.std.specs.Prelude.{ℕ, pred, ◌+◌, ◌*◌, Bool, true, false, not, List, [], ◌∷◌, ◌++◌, map, eqb, leb, ltb, length}
use Rattle.std.proofs.Math.Option.{Option, none, some}
use Rattle.columns.specs.Lists.{◌!◌, places, any, find, all_of, any_of}
use Rattle.columns.specs.Columns.{accepts}
use Rattle.index.specs.Copied.{Ids, escaped_code, id_back}
use Rattle.rules.specs.Input.{Input, Schema, Route, Route.copied, Route.raw, object_count, class_count, slot_count, element_count, slot_total, slot_place}
use Rattle.rules.specs.Input.{static_total, static_place, found_at}
use Rattle.rules.specs.Edges.{Parts, graph}
use Rattle.rules.specs.Places.{place_count}
use Rattle.rules.specs.Needs.{Rooms, short_of_build, need_long, need_fields, need_escapes}

-- "The first number that applies is returned, at its lowest place": a fault is its number and place, and the first decides.
abbrev pub first_of : List (List ℕ) → List ℕ → List ℕ
first_of [] done = done
first_of (f ∷ fs) done = f

unfoldable pub at : ℕ → List ℕ → List (List ℕ)
at number ps = map (λ p. number ∷ p ∷ []) ps

-- the one place of a number that has place 0
abbrev pub once : Bool → List ℕ
once true = 0 ∷ []
once false = []

-- some length differs from n; some number is over n; number i does not rise above the one before it
abbrev pub differs : ℕ → List ℕ → Bool
differs n xs = any_of (map (λ a. not (eqb a n)) xs)

abbrev pub exceeds : ℕ → List ℕ → Bool
exceeds n xs = any_of (map (ltb n) xs)

abbrev pub falls : List ℕ → ℕ → Bool
falls xs i = all_of (ltb 0 i ∷ leb (xs ! i) (xs ! pred i) ∷ [])

-- 1 LENGTHS: "columns of one table differ in length." Starts, and raw lengths, are columns of the objects; escape places and ids are one table.
unfoldable pub schema_lengths : Schema → Bool
schema_lengths s =
    let c = s.classes in
    any_of
    (differs (length c.ids) (length c.loaders ∷ length c.dumped ∷ length c.kinds ∷ [])
    ∷ differs (length c.ids) (length c.slot_start ∷ length c.slot_end ∷ length c.static_start ∷ length c.static_end ∷ [])
    ∷ differs (length s.slots.offsets) (length s.slots.labels ∷ length s.slots.weak ∷ [])
    ∷ differs (length s.statics.names) (length s.statics.types ∷ length s.statics.values ∷ [])
    ∷ [])

unfoldable pub route_lengths : ℕ → Route → Bool
route_lengths n (copied c) = any_of (differs (length c.ids.places) (length c.ids.ids ∷ []) ∷ differs n (length c.starts ∷ []) ∷ [])
route_lengths n (raw r) = differs n (length r.starts ∷ length r.lengths ∷ [])

unfoldable pub bad_lengths : Input → Bool
bad_lengths x =
    any_of
    (differs (object_count x) (length x.objects.kinds ∷ length x.objects.classes ∷ length x.objects.lengths ∷ [])
    ∷ schema_lengths x.schema
    ∷ route_lengths (object_count x) x.route
    ∷ [])

-- 2 LIMIT: "objects, classes, names, slots or statics over the limit, or raw id size not 4 or 8."
unfoldable pub limits : ℕ → ℕ → ℕ → ℕ → ℕ → Bool
limits objects classes names slots statics =
    any_of (exceeds 67108864 (objects ∷ classes ∷ []) ∷ ltb 16777216 names ∷ exceeds 268435456 (slots ∷ statics ∷ []) ∷ [])

unfoldable pub over_limit : ℕ → Schema → Bool
over_limit objects s = limits objects (class_count s) s.names (length s.slots.offsets) (length s.statics.names)

unfoldable pub bad_size : Route → Bool
bad_size (copied c) = false
bad_size (raw r) = not (any_of (eqb r.size 4 ∷ eqb r.size 8 ∷ []))

unfoldable pub bad_limit : Input → Bool
bad_limit x = any_of (over_limit (object_count x) x.schema ∷ bad_size x.route ∷ [])

-- 3 OBJECT: "a zero or not rising id, kind over 3, instance class outside the classes, object array over the length limit."
unfoldable pub bad_object : Input → ℕ → Bool
bad_object x o =
    let b = x.objects in
    any_of
    (eqb (b.ids ! o) 0
    ∷ falls b.ids o
    ∷ ltb 3 (b.kinds ! o)
    ∷ all_of (eqb (b.kinds ! o) 0 ∷ leb (class_count x.schema) (b.classes ! o) ∷ [])
    ∷ all_of (eqb (b.kinds ! o) 1 ∷ ltb 268435456 (b.lengths ! o) ∷ [])
    ∷ [])

-- 4 CLASS: "flag, reference kind, range, slot label or static name not below the name count, offset order or static type is wrong": the k-th slot
-- (a weak flag over 1 is a wrong flag),
unfoldable pub bad_slot : Schema → ℕ → ℕ → Bool
bad_slot s c k =
    let p = slot_place s c k in
    any_of
    (leb s.names (s.slots.labels ! p)
    ∷ ltb 1 (s.slots.weak ! p)
    ∷ all_of (ltb 0 k ∷ leb (s.slots.offsets ! p) (s.slots.offsets ! pred p) ∷ [])
    ∷ [])

-- the k-th static,
unfoldable pub bad_static : Schema → ℕ → ℕ → Bool
bad_static s c k =
    let p = static_place s c k in
    let t = s.statics.types ! p in
    any_of (leb s.names (s.statics.names ! p) ∷ not (any_of (eqb t 2 ∷ all_of (leb 4 t ∷ leb t 11 ∷ []) ∷ [])) ∷ [])

-- and class c. "The class check stops at the first faulty slot of the first faulty class": the place is the class.
unfoldable pub bad_class : Schema → ℕ → Bool
bad_class s c =
    let k = s.classes in
    any_of
    (ltb 1 (k.dumped ! c)
    ∷ ltb 4 (k.kinds ! c)
    ∷ ltb (k.slot_end ! c) (k.slot_start ! c)
    ∷ ltb (length s.slots.offsets) (k.slot_end ! c)
    ∷ ltb (k.static_end ! c) (k.static_start ! c)
    ∷ ltb (length s.statics.names) (k.static_end ! c)
    ∷ any (bad_slot s c) (slot_total s c)
    ∷ any (bad_static s c) (static_total s c)
    ∷ [])

-- "A dumped id found at an object of kind 0 to 2; or found where an earlier dumped class was found."
abbrev pub found_badly : Input → ℕ → Option ℕ → Bool
found_badly x c none = false
found_badly x c (some o) = any_of (ltb (x.objects.kinds ! o) 3 ∷ any (found_at x o) c ∷ [])

unfoldable pub bad_find : Input → ℕ → Bool
bad_find x c = all_of (eqb (x.schema.classes.dumped ! c) 1 ∷ found_badly x c (find x.objects.ids (x.schema.classes.ids ! c)) ∷ [])

unfoldable pub bad_dumped : Input → ℕ → Bool
bad_dumped x c = any_of (bad_class x.schema c ∷ bad_find x c ∷ [])

-- 5 COPIED: "escape places not strictly rising, an escape without code 4,294,967,295 or the reverse, a non-zero code whose id is 0 or passes 64 bits";
-- "first escape not rising, else first bad code position, else first bad escape position." A code is bad where no id reads back.
unfoldable pub bad_code : Ids → ℕ → Bool
bad_code c p = not (accepts (id_back c p))

unfoldable pub bad_escape : Ids → ℕ → Bool
bad_escape c i = not (eqb (c.codes ! (c.places ! i)) escaped_code)

unfoldable pub bad_copied : Route → List ℕ
bad_copied (raw r) = []
bad_copied (copied c) =
    let n = length c.ids.places in
    places (falls c.ids.places) n ++ places (bad_code c.ids) (length c.ids.codes) ++ places (bad_escape c.ids) n

-- 6 SPAN: "an instance's or array's part, empty too, ends past its column or bytes; a raw array body is not length × id size."
unfoldable pub bad_part : Input → Route → ℕ → Bool
bad_part x (copied c) o = ltb (length c.ids.codes) (c.starts ! o + (slot_count x o + element_count x o))
bad_part x (raw r) o =
    any_of
    (ltb (length r.bytes) (r.starts ! o + r.lengths ! o)
    ∷ all_of (eqb (x.objects.kinds ! o) 1 ∷ not (eqb (r.lengths ! o) (x.objects.lengths ! o * r.size)) ∷ [])
    ∷ [])

unfoldable pub bad_span : Input → ℕ → Bool
bad_span x o = all_of (ltb (x.objects.kinds ! o) 2 ∷ bad_part x x.route o ∷ [])

-- 7 ROOT: "a root not below the object count." 8 PLACES: "total places over the limit."
abbrev pub bad_root : ℕ → List ℕ → ℕ → Bool
bad_root objects roots i = leb objects (roots ! i)

abbrev pub over_places : ℕ → Bool
over_places n = ltb 268435456 n

unfoldable pub faults : Input → List (List ℕ)
faults x =
    at 1 (once (bad_lengths x))
    ++ at 2 (once (bad_limit x))
    ++ at 3 (places (bad_object x) (object_count x))
    ++ at 4 (places (bad_dumped x) (class_count x.schema))
    ++ at 5 (bad_copied x.route)
    ++ at 6 (places (bad_span x) (object_count x))
    ++ at 7 (places (bad_root (object_count x) x.roots) (length x.roots))
    ++ at 8 (once (over_places (place_count x)))

-- What the checks answer: the places, or the first fault.
unfoldable pub check_says : Input → List ℕ
check_says x = first_of (faults x) (0 ∷ place_count x ∷ [])

-- What an accepted build returns: 0, the used lengths, and the dangling count.
unfoldable pub counts : Schema → Parts → List ℕ
counts s p = 0 ∷ length p.targets ∷ length p.weak_from ∷ length p.roots ∷ need_long p ∷ need_fields s p ∷ need_escapes s p ∷ p.dangling ∷ []

-- 9 ROOM comes last. What a build answers.
unfoldable pub build_says : Input → Rooms → List ℕ
build_says x r = first_of (faults x ++ at 9 (short_of_build x r)) (counts x.schema (graph x))

-- the answer of plain columns that are laid, with nothing coded yet
abbrev pub plain_counts : Parts → List ℕ
plain_counts p = 0 ∷ length p.targets ∷ length p.weak_from ∷ length p.roots ∷ 0 ∷ 0 ∷ 0 ∷ p.dangling ∷ []
