-- What demand 3 counts, from the input alone: the ids that an object holds, and those of them that no object has. Assumes nothing.
use Rattle.std.specs.Prelude.{ℕ, ◌+◌, cond, not, List, [], ◌∷◌, eqb}
use Rattle.columns.specs.Lists.{◌!◌, total, sum, one, find, found, all_of}
use Rattle.rules.specs.Input.{Input, Schema, slot_count, slot_fits, slot_id, element_count, element_id, static_total, static_place, is_object_static, classes_at}

-- f of each object static of class c, and g of its loader
unfoldable pub tally_class : (ℕ → ℕ) → (ℕ → ℕ) → Schema → ℕ → ℕ
tally_class f g s c = total (λ k. cond (is_object_static s c k) (f (s.statics.values ! static_place s c k)) 0) (static_total s c) + g (s.classes.loaders ! c)

-- f of each id in the slots of o that fit, in its elements, and in the object statics of the class found at o; g of that class's loader. Every slot of
-- the class is asked whether it fits: where reading stops is not used here.
unfoldable pub tally : (ℕ → ℕ) → (ℕ → ℕ) → Input → ℕ → ℕ
tally f g x o =
    total (λ k. cond (slot_fits x o k) (f (slot_id x o k)) 0) (slot_count x o)
    + (total (λ k. f (element_id x o k)) (element_count x o) + sum (tally_class f g x.schema) (classes_at x o))

-- an id that is not 0; one that an object has; one that is not 0 and that no object has
abbrev pub non_zero : ℕ → ℕ
non_zero v = one (not (eqb v 0))

abbrev pub is_there : List ℕ → ℕ → ℕ
is_there ids v = one (found (find ids v))

unfoldable pub is_lost : List ℕ → ℕ → ℕ
is_lost ids v = one (all_of (not (eqb v 0) ∷ not (found (find ids v)) ∷ []))

abbrev pub never : ℕ → ℕ
never v = 0

-- Non-zero ids that object o holds; a loader is counted if an object has it.
unfoldable pub held : Input → ℕ → ℕ
held x o = tally non_zero (is_there x.objects.ids) x o

-- Those that no object has; a loader is not among them.
unfoldable pub lost : Input → ℕ → ℕ
lost x o = tally (is_lost x.objects.ids) never x o
