-- What a pass over a range of objects reads of an input, by table, and what it asks. Assumes nothing.
use Rattle.std.specs.Prelude.{ℕ, ◌+◌, ◌<◌, List, []}
use Rattle.rules.specs.declared.ReferencePolicy.{ReferencePolicy}
use Rattle.rules.specs.Input.{Input, Objects, Classes, Slots, Statics, Route, Route.copied, Route.raw}
use Rattle.edge_append.specs.declared.Pass.{Pass}
use Rattle.rules.specs.Tables.{schema_of, input_of}
use Rattle.edge_pass.specs.Range.{parts_from, ObjectIn}
use Rattle.edge_pass.specs.Walk.{WalkRoom}

-- A pass reads neither the ids of the classes nor which are dumped, and by the copied route no offsets of slots; and no names and no roots.
module _ {A : Type 0} (read : A → List ℕ) where
  abbrev pub pass_classes : A → A → A → A → A → A → Classes
  pass_classes loaders kinds slot_start slot_end static_start static_end = record {
    ids = [];
    loaders = read loaders;
    dumped = [];
    kinds = read kinds;
    slot_start = read slot_start;
    slot_end = read slot_end;
    static_start = read static_start;
    static_end = read static_end;
  }

  abbrev pub pass_slots : A → A → Slots
  pass_slots labels weak = record { offsets = []; labels = read labels; weak = read weak }

abbrev pub pass_input : Objects → Classes → Slots → Statics → Route → ReferencePolicy → Input
pass_input objects classes slots statics route policy = input_of objects (schema_of classes slots statics 0) route [] policy

-- What a pass reads of a whole input: the offsets of slots stand beside, since only the raw route reads them.
abbrev pub narrow_to : Input → List ℕ → Input
narrow_to x offsets =
    let k = x.schema.classes in
    let s = x.schema.slots in
    pass_input x.objects
    (pass_classes (λ (l : List ℕ). l) k.loaders k.kinds k.slot_start k.slot_end k.static_start k.static_end)
    (record { offsets = offsets; labels = s.labels; weak = s.weak })
    x.schema.statics x.route x.policy

abbrev pub offsets_for : Input → Route → List ℕ
offsets_for x (copied c) = []
offsets_for x (raw r) = x.schema.slots.offsets

abbrev pub narrow : Input → Input
narrow x = narrow_to x (offsets_for x x.route)

-- Each object of the range has what a pass reads of it, and there is room for what it appends.
pub record Passable (x : Input) (working : List ℕ) (first count : ℕ) (s : Pass) (nt nl nf nw : ℕ) : Type 0 where
  pub objects : (i : ℕ) → i < count → ObjectIn x working (first + i)
  pub room : WalkRoom x.objects.ids (parts_from x working first) count s nt nl nf nw
