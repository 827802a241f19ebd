-- The weak pairs of an input, counted by both routes over the columns that tell of them: `need_weak` of `rules/specs/Needs.antt` restated on flat columns.
-- A pair has no label, so none is read. Each comment names the law of `proofs/Theorems.antt` or `proofs/Bound.antt` that ties the two. Assumes nothing.
use Rattle.std.specs.Prelude.{ℕ, ◌+◌, ◌-◌, ◌≤◌, ◌≡◌, Bool, false, cond, not, List, [], ◌∷◌, eqb, leb, ltb, length}
use Rattle.columns.specs.Lists.{◌!◌, one, total, all_of, any_of}
use Rattle.columns.specs.Ranks.{Rises}
use Rattle.index.specs.Copied.{Ids}
use Rattle.rules.specs.declared.ReferencePolicy.{ReferencePolicy}
use Rattle.rules.specs.Types.{keeps}
use Rattle.rules.specs.Edges.{Ref, ref_weak}
use Rattle.edge_append.specs.Append.{ref_of, weak_among}
use Rattle.edge_append.specs.Held.{copied_slots}
use Rattle.edge_append.specs.Raw.{raw_slots}

-- "Found, not kept: a weak pair": how many a slot gives that is not kept, by the id that it holds. The rule `ref_weak`, by definition.
unfoldable pub pair_to : List ℕ → ℕ → ℕ
pair_to ids id = length (ref_weak ids (ref_of 0 0 false id))

-- how many weak pairs references give: the rule `weak_targets` of an object's references, law `slots_alone`
unfoldable pub pairs_in : List ℕ → List Ref → ℕ
pairs_in ids rs = length (weak_among ids rs)

-- a count, and no more than so many
pub record Few (count most r : ℕ) : Type 0 where
  pub is : r ≡ count
  pub few : r ≤ most

-- The pairs of one object, from its slots, and of the first n objects: of all of them the rule `need_weak`, by the copied route (law `weak-copied`),
unfoldable pub copied_pairs : List ℕ → Ids → ℕ → List ℕ → List ℕ → List ℕ → List ℕ → ReferencePolicy → ℕ → ℕ → ℕ
copied_pairs ids c start classKinds slot_start slot_end weak policy kind class = pairs_in ids (copied_slots c start classKinds slot_start slot_end [] weak policy kind class)

unfoldable pub copied_total : List ℕ → List ℕ → List ℕ → List ℕ → Ids → List ℕ → List ℕ → List ℕ → List ℕ → ReferencePolicy → ℕ → ℕ
copied_total ids kinds classes starts c classKinds slot_start slot_end weak policy n =
    total (λ o. copied_pairs ids c (starts ! o) classKinds slot_start slot_end weak policy (kinds ! o) (classes ! o)) n

-- and by the raw route (law `weak-raw`).
unfoldable pub raw_pairs : List ℕ → List ℕ → ℕ → ℕ → ℕ → List ℕ → List ℕ → List ℕ → List ℕ → List ℕ → ReferencePolicy → ℕ → ℕ → ℕ
raw_pairs ids bytes size start body classKinds slot_start slot_end offsets weak policy kind class =
    pairs_in ids (raw_slots bytes size start body classKinds slot_start slot_end offsets [] weak policy kind class)

unfoldable pub raw_total : List ℕ → List ℕ → List ℕ → List ℕ → List ℕ → List ℕ → ℕ → List ℕ → List ℕ → List ℕ → List ℕ → List ℕ
    → ReferencePolicy → ℕ → ℕ
raw_total ids kinds classes starts bodies bytes size classKinds slot_start slot_end offsets weak policy n =
    total (λ o. raw_pairs ids bytes size (starts ! o) (bodies ! o) classKinds slot_start slot_end offsets weak policy (kinds ! o) (classes ! o)) n

-- No more than these by either route, which no rule names: the slots that are weak and not kept, whatever ids they hold. Laws `copied_most` and `raw_most`.
abbrev pub weak_at : List ℕ → ℕ → ℕ → ℕ
weak_at weak first k = one (eqb (weak ! (first + k)) 1)

unfoldable pub most_pairs : List ℕ → List ℕ → List ℕ → List ℕ → ReferencePolicy → ℕ → ℕ → ℕ
most_pairs classKinds slot_start slot_end weak policy kind class =
    cond (all_of (eqb kind 0 ∷ not (keeps policy (classKinds ! class)) ∷ [])) (total (weak_at weak (slot_start ! class)) (slot_end ! class - slot_start ! class)) 0

unfoldable pub most_weak : List ℕ → List ℕ → List ℕ → List ℕ → List ℕ → List ℕ → ReferencePolicy → ℕ → ℕ
most_weak kinds classes classKinds slot_start slot_end weak policy n = total (λ o. most_pairs classKinds slot_start slot_end weak policy (kinds ! o) (classes ! o)) n

-- A class is of kind none and may have a weak slot: it has one, or no range of slots inside the table. Where no class is such a one, instances of classes of kind none add nothing.
unfoldable pub plain_weak : List ℕ → List ℕ → List ℕ → List ℕ → ℕ → Bool
plain_weak classKinds slot_start slot_end weak class =
    cond (eqb (classKinds ! class) 0)
    (any_of
    (leb (length slot_start) class
    ∷ leb (length slot_end) class
    ∷ ltb (slot_end ! class) (slot_start ! class)
    ∷ ltb (length weak) (slot_end ! class)
    ∷ ltb 0 (total (weak_at weak (slot_start ! class)) (slot_end ! class - slot_start ! class))
    ∷ []))
    false

-- Ids that rise, and for each a kind, a class and a start.
pub record ObjectsIn (ids kinds classes starts : List ℕ) : Type 0 where
  pub rising : Rises ids
  pub few : length ids ≤ 67108864
  pub kind : length ids ≤ length kinds
  pub class : length ids ≤ length classes
  pub start : length ids ≤ length starts
