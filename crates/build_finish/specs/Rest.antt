-- What the second half of a build leaves, from what the first half left: the coded columns, and the end. Assumes nothing.
use Rattle.std.specs.Prelude.{ℕ, ◌+◌, List, take}
use Rattle.columns.specs.Columns.{kept}
use Rattle.rules.specs.Needs.{Lent}
use Rattle.rules.specs.Built.{CodedLeft}
use Rattle.labels.specs.Fields.{Naming}
use Rattle.code_columns.specs.Stages.{Ready, Where}
use Rattle.code_columns.specs.Finished.{PartsCoding}
use Rattle.build_rooms.specs.Stages.{Settled}

-- the offsets of so many objects, and the labels of so many edges as an answer says, at the fronts of the work columns
abbrev pub offsets_used : ℕ → List ℕ → List ℕ
offsets_used objects wk = take (objects + 1) wk

abbrev pub labels_used : List ℕ → List ℕ → List ℕ
labels_used says ls = take (kept 1 says) ls

-- what coding asks of them, where the first half accepts
abbrev pub Asked : Naming → ℕ → ℕ → ℕ → List ℕ → List ℕ → List ℕ → Type 0
Asked g classes names objects before ls wk = Where before (Ready g classes names (offsets_used objects wk) (labels_used before ls))

pub record Rest
    (g : Naming) (classes names objects : ℕ)
    (before ts ls fs ws rs wk : List ℕ) (a : List (List ℕ)) (l : Lent)
    (says ts' ls' fs' ws' rs' wk' : List ℕ) (a' : List (List ℕ)) (d : CodedLeft)
    : Type 0 where
  pub coded : PartsCoding g classes names (offsets_used objects wk) (labels_used before ls) before l says d
  pub settled : Settled says ts ls fs ws rs wk a ts' ls' fs' ws' rs' wk' a'
