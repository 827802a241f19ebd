-- The test of one label as a walk makes it. Assumes nothing.
use Rattle.std.specs.Prelude.{ℕ, ◌-◌, Bool, not, [], ◌∷◌, ltb}
use Rattle.columns.specs.Lists.{all_of, any_of}
use Rattle.rules.specs.Types.{array_element_label, is_element}
use Rattle.rules.specs.Parts.{is_named}

-- "Labels below the name count, `LOADER` or elements; elements strictly rise within an object": label l, where an element's index is to be at least n.
unfoldable pub label_fault : ℕ → ℕ → ℕ → Bool
label_fault names n l = any_of (not (is_named names l) ∷ all_of (is_element l ∷ ltb (l - array_element_label) n ∷ []) ∷ [])
