-- What an exported call leaves: what the call that it is named after leaves, with the answer as numbers. Assumes nothing.
use Rattle.std.specs.Prelude.{ℕ, ◌≡◌, Bool, List, Option, Result}
use Rattle.rules.specs.declared.ReferencePolicy.{ReferencePolicy}
use Rattle.rules.specs.declared.Label.{Label}
use Rattle.store_read.specs.declared.ReadError.{ReadError}
use Rattle.rules.specs.Types.{exact_says, label_of_says}
use Rattle.rules.specs.Built.{CodedLeft, BuildLeft, PartsLeft, SlotsLeft}
use Rattle.rules.specs.Questions.{Columns, EdgesLeft}
use Rattle.rules.specs.Incoming.{InLeft}
use Rattle.rules.specs.Each.{EachLeft}
use Rattle.build_rooms.specs.Stages.{left_of}
use Rattle.from_parts.specs.Parts.{left_as}
use Rattle.ask_label.specs.Labelled.{ExactAt, LabelTo}
use Rattle.answer_numbers.specs.Told.{told}

-- "policy (keep soft, keep weak)"
abbrev pub policy_of : Bool → Bool → ReferencePolicy
policy_of soft weak = record { soft = soft; weak = weak }

-- A build, told: its answer as numbers, and every column as it left them.
pub record BuildTold (left : BuildLeft) (answer ts ls fs ws rs wk : List ℕ) (coded : CodedLeft) (a : List (List ℕ)) : Type 0 where
  pub told_as : answer ≡ told 9 left.says
  pub columns : left_of left.says ts ls fs ws rs wk coded a ≡ left

-- `from_parts`, told likewise.
pub record PartsTold (left : PartsLeft) (answer : List ℕ) (coded : CodedLeft) : Type 0 where
  pub told_as : answer ≡ told 9 left.says
  pub columns : left_as left.says coded ≡ left

-- Filling from slot rows, told likewise.
pub record SlotsTold (left : SlotsLeft) (answer o l w : List ℕ) : Type 0 where
  pub told_as : answer ≡ told 4 left.says
  pub offsets : o ≡ left.offsets
  pub labels : l ≡ left.labels
  pub weak : w ≡ left.weak

-- One object's edges, told likewise.
pub record EdgesTold (left : EdgesLeft) (answer t l : List ℕ) : Type 0 where
  pub told_as : answer ≡ told 4 left.says
  pub targets : t ≡ left.targets
  pub labels : l ≡ left.labels

-- A field of each object of a list, told likewise.
pub record EachTold (left : EachLeft) (answer t m : List ℕ) : Type 0 where
  pub told_as : answer ≡ told 4 left.says
  pub targets : t ≡ left.targets
  pub found : m ≡ left.found

-- Inverting, told likewise.
pub record InvertTold (left : InLeft) (answer : List ℕ) (found : InLeft) : Type 0 where
  pub told_as : answer ≡ told 4 left.says
  pub columns : found ≡ left

-- An exact label, told: an answer that meets the contract of `exact_label`, as numbers; and likewise one of `label_of`.
pub record ExactTold (c : Columns) (o k : ℕ) (answer : List ℕ) : Type 0 where
  pub given : Result Label ReadError
  pub told_as : answer ≡ told 4 (exact_says given)
  pub meets : ExactAt c o k (exact_says given)

pub record LabelTold (c : Columns) (o t : ℕ) (answer : List ℕ) : Type 0 where
  pub given : Result (Option Label) ReadError
  pub told_as : answer ≡ told 4 (label_of_says given)
  pub meets : LabelTo c o t (label_of_says given)
