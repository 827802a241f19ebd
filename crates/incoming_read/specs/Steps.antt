-- What the steps answer: of one object, its targets, and its labels in order; of all codes, and of the fields. Assumes nothing.
use Rattle.std.specs.Prelude.{ℕ, ◌+◌, Bool, true, false, cond, not, List, [], ◌∷◌, leb, length}
use Rattle.columns.specs.Lists.{◌!◌, any}
use Rattle.rules.specs.Types.{is_element}
use Rattle.rules.specs.Labels.{Coded}
use Rattle.rules.specs.Parts.{no_object}
use Rattle.labels.specs.Reading.{next_back}

-- the n targets from one place on are objects
unfoldable pub objects_only : ℕ → List ℕ → ℕ → ℕ → Bool
objects_only objects targets from n = not (any (λ k. no_object objects targets (from + k)) n)

-- there is something in a list: a label was read
abbrev pub something : List ℕ → Bool
something [] = false
something (a ∷ xs) = true

-- a walk of the edges that begin at e gets past n labels
unfoldable pub walks_past : Coded → ℕ → ℕ → Bool
walks_past d e n = something (next_back d e n)

-- A code that is not plain, by the places of fields that codes can name; each of a list's codes is plain.
unfoldable pub is_odd : ℕ → ℕ → Bool
is_odd limit code = cond (leb 32768 code) (leb 65535 code) (leb limit code)

unfoldable pub plain_only : ℕ → List ℕ → Bool
plain_only limit codes = not (any (λ k. is_odd limit (codes ! k)) (length codes))

-- no field has an element's label
unfoldable pub fields_only : List ℕ → Bool
fields_only fields = not (any (λ i. is_element (fields ! i)) (length fields))
