-- Demand 3: no reference goes missing. What an object holds is its edges, its weak pairs and the ids that no object has. Assumes nothing.
use Prim.Native.Nat.{ℕ, suc, ◌+◌, ◌-◌, ◌≤◌, ◌<◌}
use native.Mathlib.Nat.{add-zero}
use native.Mathlib.Omega.{arith}
use mathlib.Core.Path.{◌≡◌, refl, sym, ap, ap₂, ◌∙◌}
use mathlib.Core.Bool.{Bool, true, false, cond, not}
use mathlib.Core.List.{List, [], ◌∷◌}
use mathlib.Core.Option.{Option, none, some}
use lib.Dec.{eqb}
use lib.ListN.{length, length-append, length-map}
use borrow.Author.Tests.{eqb-true}
use Rattle.columns.specs.Lists.{◌!◌, collect, tab, total, flat, sum, one, find, found, all_of}
use Rattle.columns.proofs.Lists.{tab-at}
use Rattle.columns.proofs.Sums.{sum-append, sum-collect, sum-tab, sum-flat, sum_ext, sum_one, sum_none, sum-sort, sum-map, total_ext, total-add, total_pick}
use Rattle.columns.proofs.Sums.{length-collect}
use Rattle.rules.specs.Input.{Input, Schema, object_count, read_slots, slot_id, element_count, static_total, static_place, is_object_static, classes_at}
use Rattle.rules.specs.Edges.{Kind, slot, element, static, loader, Ref, Outcome, nothing, settled, outcome, edge_of, weak_of, missing_of, ref_edge, ref_weak}
use Rattle.rules.specs.Edges.{ref_missing, edges_of, weak_targets, missing_at, refs, slot_refs, other_refs, slot_ref, element_ref, static_ref, loader_ref}
use Rattle.rules.specs.Edges.{static_refs, class_refs, edges, offset, Pair, pair_le, pairs_of, weak_pairs, graph}
use Rattle.rules.specs.Demand.{tally_class, tally, non_zero, is_there, is_lost, never, held, lost}
use Rattle.rules.proofs.Acceptance.{Sound, Passed, no_zero}
use Rattle.rules.proofs.Slots.{fits-total}

-- f of a reference's id, and g of a loader's
abbrev counted_as : (ℕ → ℕ) → (ℕ → ℕ) → Kind → ℕ → ℕ
counted_as f g slot v = f v
counted_as f g element v = f v
counted_as f g static v = f v
counted_as f g loader v = g v

-- The count from the input is the count of the references, part by part.
module _ (f g : ℕ → ℕ) where
  abbrev counted : Ref → ℕ
  counted r = counted_as f g r.kind r.id

  static_held_lem : (s : Schema) (c k : ℕ) → cond (is_object_static s c k) (f (s.statics.values ! static_place s c k)) 0 ≡ sum counted (static_refs s c k)
  unfolding static_refs static_ref
  static_held_lem s c k = go (is_object_static s c k)
    where
      go : (b : Bool) → cond b (f (s.statics.values ! static_place s c k)) 0 ≡ sum counted (cond b (static_ref s c k ∷ []) [])
      go true = sym (add-zero _)
      go false = refl

  class_held : (s : Schema) (c : ℕ) → tally_class f g s c ≡ sum counted (class_refs s c)
  unfolding tally_class class_refs loader_ref
  class_held s c =
      ap₂ ◌+◌ (total_ext _ _ (static_total s c) (λ k l. static_held_lem s c k) ∙ sym (sum-collect counted (static_refs s c) (static_total s c))) (sym (add-zero _))
      ∙ sym (sum-append counted (collect (static_refs s c) (static_total s c)) (loader_ref s c ∷ []))

  tally_is : (x : Input) → Sound x → (o : ℕ) → o < object_count x → tally f g x o ≡ sum counted (refs x o)
  unfolding tally refs slot_refs other_refs slot_ref element_ref
  tally_is x h o l =
      ap₂ ◌+◌ (fits-total x h o l (λ k. f (slot_id x o k)) ∙ sym (sum-tab counted (slot_ref x o) (read_slots x o)))
      (ap₂ ◌+◌ (sym (sum-tab counted (element_ref x o) (element_count x o)))
      (sum_ext _ _ (class_held x.schema) (classes_at x o) ∙ sym (sum-flat counted (class_refs x.schema) (classes_at x o)))
      ∙ sym (sum-append counted (tab (element_ref x o) (element_count x o)) (flat (class_refs x.schema) (classes_at x o))))
      ∙ sym (sum-append counted (slot_refs x o) (other_refs x o))

-- One reference, by its kind, whether its id is 0, whether it is kept, and where its id is found.
abbrev outcome_as : Bool → Kind → Bool → Option ℕ → Outcome
outcome_as z k b u = cond z nothing (settled k b u)

abbrev lost_as : Bool → Option ℕ → ℕ
lost_as z u = one (all_of (not z ∷ not (found u) ∷ []))

lost_settles : (z : Bool) (k : Kind) (b : Bool) (u : Option ℕ) → counted_as (λ v. lost_as z u) never k 0 ≡ missing_of (outcome_as z k b u)
unfolding all_of
lost_settles true slot b u = refl
lost_settles true element b u = refl
lost_settles true static b u = refl
lost_settles true loader b u = refl
lost_settles false slot b none = refl
lost_settles false element b none = refl
lost_settles false static b none = refl
lost_settles false loader b none = refl
lost_settles false slot true (some t) = refl
lost_settles false element true (some t) = refl
lost_settles false static true (some t) = refl
lost_settles false loader true (some t) = refl
lost_settles false slot false (some t) = refl
lost_settles false element false (some t) = refl
lost_settles false static false (some t) = refl
lost_settles false loader false (some t) = refl

held_settles : (l : ℕ) (z : Bool) (k : Kind) (b : Bool) (u : Option ℕ) → (z ≡ true → u ≡ none)
    → counted_as (λ v. one (not z)) (λ v. one (found u)) k 0
    ≡ length (edge_of l (outcome_as z k b u)) + length (weak_of (outcome_as z k b u)) + missing_of (outcome_as z k b u)
held_settles l true slot b u h = refl
held_settles l true element b u h = refl
held_settles l true static b u h = refl
held_settles l true loader b u h = ap (λ (u : Option ℕ). one (found u)) (h refl)
held_settles l false slot b none h = refl
held_settles l false element b none h = refl
held_settles l false static b none h = refl
held_settles l false loader b none h = refl
held_settles l false slot true (some t) h = refl
held_settles l false element true (some t) h = refl
held_settles l false static true (some t) h = refl
held_settles l false loader true (some t) h = refl
held_settles l false slot false (some t) h = refl
held_settles l false element false (some t) h = refl
held_settles l false static false (some t) h = refl
held_settles l false loader false (some t) h = refl

module _ (ids : List ℕ) where
  same_kind : (f g : ℕ → ℕ) (k : Kind) (v : ℕ) → counted_as f g k v ≡ counted_as (λ w. f v) (λ w. g v) k 0
  same_kind f g slot v = refl
  same_kind f g element v = refl
  same_kind f g static v = refl
  same_kind f g loader v = refl

  ref_lost : (r : Ref) → counted (is_lost ids) never r ≡ ref_missing ids r
  unfolding outcome is_lost
  ref_lost r = same_kind (is_lost ids) never r.kind r.id ∙ lost_settles (eqb r.id 0) r.kind r.kept (find ids r.id)

  ref_held : find ids 0 ≡ none → (r : Ref) → counted non_zero (is_there ids) r ≡ length (ref_edge ids r) + length (ref_weak ids r) + ref_missing ids r
  unfolding outcome
  ref_held h r =
      same_kind non_zero (is_there ids) r.kind r.id
      ∙ held_settles r.label (eqb r.id 0) r.kind r.kept (find ids r.id) (λ z. ap (find ids) (eqb-true r.id 0 z) ∙ h)

  refs-held : find ids 0 ≡ none → (rs : List Ref)
      → sum (counted non_zero (is_there ids)) rs ≡ length (flat (ref_edge ids) rs) + length (flat (ref_weak ids) rs) + sum (ref_missing ids) rs
  refs-held h [] = refl
  refs-held h (r ∷ rs) =
      omega (arith, ref_held h r, refs-held h rs, length-append (ref_edge ids r) (flat (ref_edge ids) rs), length-append (ref_weak ids r) (flat (ref_weak ids) rs))

-- The ids that no object has, counted from the input, are the missing of the outcomes: the dangling count is not invented.
module _ (x : Input) (h : Sound x) where
  pub lost-missing : (o : ℕ) → o < object_count x → lost x o ≡ missing_at x o
  unfolding lost missing_at
  lost-missing o l = tally_is (is_lost x.objects.ids) never x h o l ∙ sum_ext _ _ (ref_lost x.objects.ids) (refs x o)

  pub dangling_lost : (graph x).dangling ≡ total (lost x) (object_count x)
  unfolding graph
  dangling_lost = total_ext _ _ (object_count x) (λ o l. sym (lost-missing o l))

constant : {A : Type 0} (b : Bool) (xs : List A) → sum (λ a. one b) xs ≡ cond b (length xs) 0
constant true xs = sum_one xs
constant false xs = sum_none xs

-- Demand 3 of one object, on its edges and weak targets.
pub held-edges : (x : Input) → Passed x → (o : ℕ) → o < object_count x → held x o ≡ length (edges_of x o) + length (weak_targets x o) + lost x o
unfolding held edges_of weak_targets missing_at
held-edges x h o l =
    tally_is non_zero (is_there x.objects.ids) x h.sound o l ∙ refs-held x.objects.ids (no_zero x h.sound) (refs x o)
    ∙ ap (λ (n : ℕ). length (edges_of x o) + length (weak_targets x o) + n) (sym (lost-missing x h.sound o l))

module _ (x : Input) where
  abbrev n : ℕ
  n = object_count x

  pub edge_count : length (graph x).targets ≡ total (λ o. length (edges_of x o)) n
  unfolding graph edges
  edge_count = length-map (edges x) _ ∙ length-collect (edges_of x) n

  -- how many weak pairs pass a test of the object: sorting keeps them all
  weak-pairs : (t : ℕ → Bool) → sum (λ o. one (t o)) (graph x).weak_from ≡ total (λ o. cond (t o) (length (weak_targets x o)) 0) n
  unfolding graph weak_pairs
  weak-pairs t =
      sum-map _ (λ (p : Pair). p.object) (weak_pairs x) ∙ sum-sort at pair_le (collect (pairs_of x) n) ∙ sum-collect at (pairs_of x) n
      ∙ total_ext _ _ n (λ o l. sum-map at _ (weak_targets x o) ∙ constant (t o) (weak_targets x o))
    where
      at : Pair → ℕ
      at p = one (t p.object)

  pub weak-count : length (graph x).weak_from ≡ total (λ o. length (weak_targets x o)) n
  weak-count = sym (sum_one (graph x).weak_from) ∙ weak-pairs (λ o. true)

  -- how many weak pairs are object o's
  pub weak-of : (o : ℕ) → o < n → sum (λ i. one (eqb i o)) (graph x).weak_from ≡ length (weak_targets x o)
  weak-of o l = weak-pairs (λ i. eqb i o) ∙ total_pick (λ i. length (weak_targets x i)) o n l

  pub offset_at_lem : (o : ℕ) → o ≤ n → (graph x).offsets ! o ≡ offset x o
  unfolding graph
  offset_at_lem o h = tab-at (offset x) 0 (suc n) o (omega arith)

  pub degree-of : (o : ℕ) → o < n → (graph x).offsets ! suc o - (graph x).offsets ! o ≡ length (edges_of x o)
  unfolding offset
  degree-of o h = rw (offset_at_lem o (omega arith), offset_at_lem (suc o) h) (omega arith)

  module _ (h : Passed x) where
    -- Demand 3 of one object's part of the columns: what it holds is its edges, its weak pairs, and the ids that no object has.
    pub demand : (o : ℕ) → o < n → held x o ≡ ((graph x).offsets ! suc o - (graph x).offsets ! o) + sum (λ i. one (eqb i o)) (graph x).weak_from + lost x o
    demand o l = rw (degree-of o l, weak-of o l) (held-edges x h o l)

    -- Demand 3 summed.
    pub demand_total : total (held x) n ≡ length (graph x).targets + length (graph x).weak_from + (graph x).dangling
    demand_total =
        total_ext _ _ n (λ o l. held-edges x h o l) ∙ total-add (λ o. length (edges_of x o) + length (weak_targets x o)) (lost x) n
        ∙ ap₂ ◌+◌ (total-add (λ o. length (edges_of x o)) (λ o. length (weak_targets x o)) n ∙ sym (ap₂ ◌+◌ edge_count weak-count)) (sym (dangling_lost x h.sound))
