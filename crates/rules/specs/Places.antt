-- Places of document 01, as the original lays them out, squeezing, and the passes over object ranges. Assumes nothing.
use Rattle.std.specs.Prelude.{ℕ, zero, suc, ◌+◌, ◌-◌, Bool, true, cond, not, ◌&&◌, List, [], ◌∷◌, ◌++◌, eqb, length, replicate}
use Rattle.std.proofs.Math.Option.{Option, none, some}
use Rattle.columns.specs.Lists.{total, flat, find, found}
use Rattle.rules.specs.Input.{Input, Route, Route.copied, Route.raw, object_count, slot_count, read_slots}
use Rattle.rules.specs.Edges.{Kind, slot, element, static, loader, Ref, Outcome, edge, weak, missing, nothing, outcome, Edge, Pair, slot_refs, other_refs}
use Rattle.rules.specs.Edges.{edges_of, pairs_of, missing_at}

-- A place holds an edge or is a hole.
abbrev pub place_of : ℕ → Outcome → Option Edge
place_of l (edge t) = some (record { target = t; label = l })
place_of l (weak t) = none
place_of l missing = none
place_of l nothing = none

-- "Copied counts kept non_zero slots, non_zero elements, found statics and found loaders."
abbrev pub takes : Kind → Bool → Bool → Bool → Bool
takes slot kept non_zero there = kept && non_zero
takes element kept non_zero there = non_zero
takes static kept non_zero there = non_zero && there
takes loader kept non_zero there = non_zero && there

-- "Raw counts every slot, every element, every object static and one loader per found class."
unfoldable pub has_place : Route → List ℕ → Ref → Bool
has_place (raw r) ids f = true
has_place (copied c) ids f = takes f.kind f.kept (not (eqb f.id 0)) (found (find ids f.id))

unfoldable pub ref_place : Route → List ℕ → Ref → List (Option Edge)
ref_place t ids r = cond (has_place t ids r) (place_of r.label (outcome ids r) ∷ []) []

-- the slots behind the first that ends past a raw body: places, but never read
unfoldable pub unread : Input → ℕ → ℕ
unread x o = slot_count x o - read_slots x o

unfoldable pub places_of : Input → ℕ → List (Option Edge)
places_of x o =
    flat (ref_place x.route x.objects.ids) (slot_refs x o) ++ replicate (unread x o) none
    ++ flat (ref_place x.route x.objects.ids) (other_refs x o)

unfoldable pub place_count : Input → ℕ
place_count x = total (λ o. length (places_of x o)) (object_count x)

-- "Squeezing closes all holes, keeping order."
abbrev pub squeeze : {A : Type 0} → List (Option A) → List A
squeeze [] = []
squeeze (none ∷ ps) = squeeze ps
squeeze (some a ∷ ps) = a ∷ squeeze ps

-- "Work is done in passes over object ranges": what the passes so far came to, the weak pairs in the order met.
pub record Pass : Type 0 where
  pub edges : List Edge
  pub weak : List Pair
  pub missing : ℕ

abbrev pub begun : Pass
begun = record { edges = []; weak = []; missing = 0 }

abbrev pub absorb : Input → ℕ → Pass → Pass
absorb x o p = record { edges = p.edges ++ edges_of x o; weak = p.weak ++ pairs_of x o; missing = p.missing + missing_at x o }

-- one pass over n objects from `from` on, which takes over what the passes before it handed on
abbrev pub pass : Input → ℕ → ℕ → Pass → Pass
pass x from zero p = p
pass x from (suc n) p = absorb x (from + n) (pass x from n p)

-- passes in order, by how many objects each takes
abbrev pub passes : Input → ℕ → List ℕ → Pass → Pass
passes x from [] p = p
passes x from (n ∷ ns) p = passes x (from + n) ns (pass x from n p)
