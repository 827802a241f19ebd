-- What coding answers and leaves in the eleven columns that it is lent, over the schema and the plain columns that it is handed. Assumes nothing.
use Rattle.std.specs.Prelude.{ℕ, ◌≡◌, List}
use Rattle.rules.specs.Input.{Schema, class_count}
use Rattle.rules.specs.Edges.{Parts}
use Rattle.rules.specs.Needs.{Lent, short_of_parts}
use Rattle.rules.specs.Verdict.{first_of, at, counts, plain_counts}
use Rattle.rules.specs.Built.{CodedLeft, coded_left}
use Rattle.labels.specs.Fields.{Naming, naming}
use Rattle.code_stages.specs.Stages.{hand_on, Where}

abbrev pub naming_of : Schema → Naming
naming_of s =
    naming s.classes.slot_start s.classes.slot_end s.classes.static_start s.classes.static_end s.slots.labels s.statics.names
    s.statics.types

-- A schema and plain columns that the columns handed over are of, and what the answer before has counted of them.
pub record Hands (s : Schema) (p : Parts) (before : List ℕ) (g : Naming) (classes names : ℕ) (offsets labels : List ℕ) : Type 0 where
  pub named : naming_of s ≡ g
  pub class_count : class_count s ≡ classes
  pub name_count : s.names ≡ names
  pub laid_out : p.offsets ≡ offsets
  pub labelled : p.labels ≡ labels
  pub told : Where before (before ≡ plain_counts p)

-- A refusal is handed on; else "ROOM for buffers 4 to 9" decides. "After acceptance the unused end of every output column and all work space is zero;
-- after any refusal of a build everything lent for writing is zero."
pub record Finished (s : Schema) (p : Parts) (before : List ℕ) (l : Lent) (says : List ℕ) (left : CodedLeft) : Type 0 where
  pub answer : says ≡ hand_on before (first_of (at 9 (short_of_parts s p l)) (counts s p))
  pub columns : left ≡ coded_left says s p l

-- What `code_parts` promises, whatever schema and plain columns it is handed the columns of.
abbrev pub PartsCoding : Naming → ℕ → ℕ → List ℕ → List ℕ → List ℕ → Lent → List ℕ → CodedLeft → Type 0
PartsCoding g classes names offsets labels before l says left =
    (s : Schema) (p : Parts) → Hands s p before g classes names offsets labels → Finished s p before l says left
