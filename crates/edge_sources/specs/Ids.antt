-- The references whose ids a reader holds: the id of each place in order, until one does not stand inside. Assumes nothing.
use Rattle.std.specs.Prelude.{ℕ, ◌+◌, Bool, List}
use Rattle.columns.specs.Lists.{tab, leading}
use Rattle.rules.specs.Edges.{Ref}
use Rattle.edge_append.specs.Held.{slot_with, element_with}

-- The slots from `first` on, and the elements of an array.
unfoldable pub held_slot : (ℕ → ℕ) → List ℕ → List ℕ → Bool → ℕ → ℕ → Ref
held_slot id_at labels weak keeps first k = slot_with labels weak keeps (first + k) (id_at k)

unfoldable pub held_element : (ℕ → ℕ) → ℕ → Ref
held_element id_at k = element_with k (id_at k)

-- "Reading stops at the first slot that ends past the body": of `count` references those before the first that does not stand inside.
unfoldable pub read_of : (ℕ → Ref) → (ℕ → Bool) → ℕ → List Ref
read_of ref inside count = tab ref (leading inside count)
