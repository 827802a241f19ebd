-- The objects of a range of an input, by both routes, and what a pass asks of each. Assumes nothing.
use Rattle.std.specs.Prelude.{ℕ, ◌+◌, ◌*◌, ◌^◌, ◌≤◌, ◌<◌, ◌≡◌, List, length}
use Rattle.columns.specs.Lists.{◌!◌}
use Rattle.rules.specs.Input.{Input, Copied, Raw, Route, Route.copied, Route.raw}
use Rattle.edge_append.specs.Held.{SlotsIn, StaticsIn}
use Rattle.edge_append.specs.Raw.{BodyIn}
use Rattle.edge_append.specs.Object.{RefParts, copied_parts_of, raw_parts_of}

unfoldable pub ref_parts_of : Input → Route → ℕ → ℕ → RefParts
ref_parts_of x (copied c) o mark = copied_parts_of x c o mark
ref_parts_of x (raw r) o mark = raw_parts_of x r o mark

-- The objects from `first` on: working offset o + 1 holds the mark of the class that is found at object o.
unfoldable pub parts_from : Input → List ℕ → ℕ → ℕ → RefParts
parts_from x working first i = ref_parts_of x x.route (first + i) (working ! (first + i + 1))

-- The slots of an instance stand in their columns, and its ids have places from `start` on.
abbrev pub SlotsFrom : Input → ℕ → ℕ → Type 0
SlotsFrom x o start =
    let k = x.schema.classes in
    let s = x.schema.slots in
    SlotsIn k.kinds k.slot_start k.slot_end (length s.labels) (length s.weak) (x.objects.kinds ! o) (x.objects.classes ! o) start

-- By the copied route, object o's ids stand among the codes.
pub record CopiedIn (x : Input) (c : Copied) (o : ℕ) : Type 0 where
  pub start : o < length c.starts
  pub slots : SlotsFrom x o (c.starts ! o)
  pub elements : x.objects.kinds ! o ≡ 1 → (x.objects.lengths ! o ≤ 2 ^ 31) × (c.starts ! o + x.objects.lengths ! o < 2 ^ 64)

-- By the raw route, its body stands among the bytes.
pub record RawIn (x : Input) (r : Raw) (o : ℕ) : Type 0 where
  pub start : o < length r.starts
  pub body : o < length r.lengths
  pub slots : SlotsFrom x o 0
  pub offsets : length x.schema.slots.offsets ≡ length x.schema.slots.labels
  pub fields : x.objects.kinds ! o ≡ 0 → BodyIn (length r.bytes) r.size (r.starts ! o) (r.lengths ! o)
  pub elements : x.objects.kinds ! o ≡ 1 → (x.objects.lengths ! o ≤ 2 ^ 31) × (r.size ≤ 8) × (r.starts ! o + x.objects.lengths ! o * r.size ≤ length r.bytes)

abbrev pub PartIn : Input → Route → ℕ → Type 0
PartIn x (copied c) o = CopiedIn x c o
PartIn x (raw r) o = RawIn x r o

-- Object o has its row, its working offset, its part, and the class that its mark names.
pub record ObjectIn (x : Input) (working : List ℕ) (o : ℕ) : Type 0 where
  pub few : o < 2 ^ 32
  pub kind : o < length x.objects.kinds
  pub class : o < length x.objects.classes
  pub count : o < length x.objects.lengths
  pub offset : o + 1 < length working
  pub part : PartIn x x.route o
  pub statics : StaticsIn x.schema.classes.static_start x.schema.classes.static_end
      (length x.schema.statics.names) (length x.schema.statics.types) (length x.schema.statics.values) (working ! (o + 1))
  pub loader : 0 < working ! (o + 1) → working ! (o + 1) ≤ length x.schema.classes.loaders
