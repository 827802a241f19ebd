-- The tables of document 01, of columns that a clause names: `read` is `now`, `entry` or `exit`. Assumes nothing.
use Rattle.std.specs.Prelude.{ℕ, List, length}
use Rattle.store.specs.Blocked.{Blocked}
use Rattle.rules.specs.declared.ReferencePolicy.{ReferencePolicy}
use Rattle.rules.specs.Input.{Objects, Classes, Slots, Statics, Schema, Route, Route.copied, Route.raw, Input}
use Rattle.rules.specs.Needs.{Lent, Rooms}
use Rattle.rules.specs.Built.{CodedLeft, BuildLeft}

-- What comes in.
module _ {A : Type 0} (read : A → List ℕ) where
  abbrev pub object_table : A → A → A → A → Objects
  object_table ids kinds classes lengths = record { ids = read ids; kinds = read kinds; classes = read classes; lengths = read lengths }

  abbrev pub class_table : A → A → A → A → A → A → A → A → Classes
  class_table ids loaders dumped kinds slot_start slot_end static_start static_end = record {
    ids = read ids;
    loaders = read loaders;
    dumped = read dumped;
    kinds = read kinds;
    slot_start = read slot_start;
    slot_end = read slot_end;
    static_start = read static_start;
    static_end = read static_end;
  }

  abbrev pub slot_table : A → A → A → Slots
  slot_table offsets labels weak = record { offsets = read offsets; labels = read labels; weak = read weak }

  abbrev pub static_table : A → A → A → Statics
  static_table names types values = record { names = read names; types = read types; values = read values }

  abbrev pub copied_route : A → A → A → ℕ → A → Route
  copied_route codes places ids base starts =
      copied (record { ids = record { codes = read codes; places = read places; ids = read ids; base = base }; starts = read starts })

  abbrev pub raw_route : A → ℕ → A → A → Route
  raw_route bytes size starts bodies = raw (record { bytes = read bytes; size = size; starts = read starts; lengths = read bodies })

abbrev pub schema_of : Classes → Slots → Statics → ℕ → Schema
schema_of classes slots statics names = record { classes = classes; slots = slots; statics = statics; names = names }

abbrev pub input_of : Objects → Schema → Route → List ℕ → ReferencePolicy → Input
input_of objects schema route roots policy = record { objects = objects; schema = schema; roots = roots; route = route; policy = policy }

-- What is lent for writing: the four offset columns, the room of the others, and what is left in them.
module _ {A : Type 0} (read : A → List ℕ) where
  abbrev pub offset_columns : A → A → A → A → Blocked
  offset_columns bases short long_at long_value = record { bases = read bases; short = read short; long_at = read long_at; long_value = read long_value }

  -- buffers 4 to 9, without the working offsets
  abbrev pub coding_room : A → A → A → A → A → A → A → A → A → A → A → Lent
  coding_room bases short long_at long_value fields table escape_at escape_label codes counting ranking = record {
    bases = length (read bases);
    short = length (read short);
    long_at = length (read long_at);
    long_value = length (read long_value);
    fields = length (read fields);
    table = length (read table);
    escape_at = length (read escape_at);
    escape_label = length (read escape_label);
    codes = length (read codes);
    counting = length (read counting);
    ranking = length (read ranking);
  }

  abbrev pub coding_left : A → A → A → A → A → A → A → A → A → A → A → CodedLeft
  coding_left bases short long_at long_value fields table escape_at escape_label codes counting ranking = record {
    bases = read bases;
    short = read short;
    long_at = read long_at;
    long_value = read long_value;
    fields = read fields;
    table = read table;
    escape_at = read escape_at;
    escape_label = read escape_label;
    codes = read codes;
    counting = read counting;
    ranking = read ranking;
  }

  -- buffers 1 to 4 and the rest
  abbrev pub room_of : A → A → A → A → A → A → Lent → Rooms
  room_of targets labels weak_from weak_to roots working coded = record {
    targets = length (read targets);
    labels = length (read labels);
    weak_from = length (read weak_from);
    weak_to = length (read weak_to);
    roots = length (read roots);
    working = length (read working);
    coded = coded;
  }

  abbrev pub left_in : List ℕ → A → A → A → A → A → A → CodedLeft → List (List ℕ) → BuildLeft
  left_in says targets labels weak_from weak_to roots working coded account = record {
    says = says;
    targets = read targets;
    labels = read labels;
    weak_from = read weak_from;
    weak_to = read weak_to;
    roots = read roots;
    working = read working;
    coded = coded;
    account = account;
  }
