-- The incoming side of what an accepted build or `from_parts` left: only ROOM refuses, the entries are those of the input's own edges, and whoever holds an
-- object is an entry, a weak pair, or nobody. Assumes nothing.
use Prim.Native.Nat.{ℕ, suc, ◌+◌, ◌^◌, ◌≤◌, ◌<◌}
use native.Mathlib.Nat.{add-zero, zero-add}
use native.Mathlib.Omega.{arith}
use mathlib.Core.Path.{◌≡◌, refl, sym, ap, ap₂, ◌∙◌}
use mathlib.Core.Logic.{◌⊎◌, inl, inr}
use mathlib.Core.Bool.{Bool, true, false, cond, false≢true}
use mathlib.Core.List.{List, [], ◌∷◌, ◌++◌, map, map-map}
use mathlib.Core.Option.{Option, none, some}
use lib.Dec.{eqb}
use lib.ListN.{length, length-map}
use borrow.Author.Tests.{eq-eqb, ne_eqb, eqb-true, eqb-false, le-leb, lt-ltb, ltb-false}
use Rattle.columns.specs.Lists.{◌!◌, collect, tab, total, flat, sum, one, count, find, found, any_of, all_of}
use Rattle.columns.specs.Columns.{accepts}
use Rattle.columns.proofs.Lists.{tab-length, tab-at}
use Rattle.columns.proofs.Sums.{sum-append, sum-collect, sum-tab, sum-flat, sum-map, sum_ext, sum-add, sum_none, sum-sort, total_ext, total_none, total_pick}
use Rattle.columns.proofs.Sums.{length-collect, collect_ext, map-tab}
use Rattle.columns.proofs.Tests.{none_of}
use Rattle.columns.proofs.Parts.{places_ext}
use Rattle.columns.proofs.Search.{find-get}
use Rattle.columns.proofs.Placing.{count_index, total-zero}
use Rattle.store.specs.Blocked.{long_rows}
use Rattle.rules.specs.Input.{Input, Schema, object_count, read_slots, slot_id, element_count, static_total, static_place, is_object_static, classes_at}
use Rattle.rules.specs.Edges.{Kind, slot, element, static, loader, Ref, Outcome, edge, weak, missing, nothing, settled, outcome, Edge, edge_of, weak_of}
use Rattle.rules.specs.Edges.{ref_edge, ref_weak, edges_of, weak_targets, refs, slot_refs, other_refs, slot_ref, element_ref, static_ref, loader_ref, static_refs}
use Rattle.rules.specs.Edges.{class_refs, offset, Parts, Pair, pair_le, pairs_of, weak_pairs, graph}
use Rattle.rules.specs.Demand.{tally_class, tally}
use Rattle.rules.specs.Needs.{Lent, objects_of, buffer}
use Rattle.rules.specs.Verdict.{first_of, at, limits, over_limit}
use Rattle.rules.specs.Parts.{parts_says}
use Rattle.rules.specs.Questions.{Columns, columns_of, objects_in, offset_at, edges_in, edge_at, edges_read, weak_read}
use Rattle.rules.specs.Incoming.{edge_total, places_to, places_in, sources_in, in_offsets, can_read, unreadable, InRooms, short_of_incoming, invert_says, edge_targets, places_at}
use Rattle.rules.specs.Incoming.{holder_objects, holder_places, holds}
use Rattle.rules.proofs.Acceptance.{Sound, Passed, objects_few, no_zero, id_found}
use Rattle.rules.proofs.Slots.{fits-total}
use Rattle.rules.proofs.Demand.{offset_at_lem}
use Rattle.rules.proofs.Passes.{edges_few}
use Rattle.rules.proofs.Meets.{Meets}
use Rattle.rules.proofs.Codes.{offset_within}
use Rattle.rules.proofs.Weak.{mine}
use Rattle.rules.proofs.Asked.{objects-same, offset-back, reads}
use Rattle.rules.proofs.Laid.{build_meets, objects_are}
use Rattle.rules.proofs.Finished.{labels_few, edges-read, weak-rows}
use Rattle.rules.proofs.Handed.{parts-passed}
use Rattle.rules.proofs.Incoming.{all_readable, source_count}

-- Columns of a graph that meets PARTS within the limits: every object can be read.
module _ (s : Schema) (p : Parts) (law : Meets s.names p) (few : length p.labels ≤ 268435456) (low : objects_of p ≤ 67108864) where
  abbrev c : Columns
  c = columns_of s p

  below : length p.labels < 2 ^ 64
  below = omega arith

  laid_readable : (o : ℕ) → o < objects_of p → can_read c o ≡ true
  unfolding can_read all_of
  laid_readable o l =
      let e : offset_at c (suc o) ≡ p.offsets ! suc o = ap (λ (a : List ℕ). a ! 1) (offset-back s p law below (suc o) l) in
      rw (
        reads s p law below o l,
        lt-ltb o 67108864 (omega arith),
        le-leb (offset_at c (suc o)) 268435456 (omega (arith, offset_within s.names p law (suc o) l)),
      )

  laid_none : unreadable c ≡ []
  laid_none = all_readable c (λ o l. laid_readable o (omega (arith, objects-same s p law below)))

-- What an accepted `from_parts` left,
module _ (s : Schema) (p : Parts) (l : Lent) (ok : accepts (parts_says s p l) ≡ true) where
  parts_low : objects_of p ≤ 67108864
  unfolding over_limit limits
  parts_low = ltb-false _ _ (none_of _ (none_of _ (parts-passed s p l ok).limits 0) 0)

  pub kept_readable : (o : ℕ) → o < objects_of p → can_read (columns_of s p) o ≡ true
  kept_readable = laid_readable s p (parts-passed s p l ok).parts (parts-passed s p l ok).labels parts_low

  pub kept_none : unreadable (columns_of s p) ≡ []
  kept_none = laid_none s p (parts-passed s p l ok).parts (parts-passed s p l ok).labels parts_low

-- and what an accepted build left.
module _ (x : Input) (h : Passed x) where
  few_labels : length (graph x).labels ≤ 268435456
  few_labels = omega (arith, edges_few x h, (build_meets x h).counted)

  few_laid : objects_of (graph x) ≤ 67108864
  few_laid = omega (arith, objects_are x, objects_few x h.sound)

  pub built_readable : (o : ℕ) → o < object_count x → can_read (columns_of x.schema (graph x)) o ≡ true
  built_readable o l = laid_readable x.schema (graph x) (build_meets x h) few_labels few_laid o (omega (arith, objects_are x))

  pub built_none : unreadable (columns_of x.schema (graph x)) ≡ []
  built_none = laid_none x.schema (graph x) (build_meets x h) few_labels few_laid

-- Where every object can be read, only ROOM 10 and ROOM 11 refuse.
pub only_room : (c : Columns) (r : InRooms) → unreadable c ≡ [] → accepts (invert_says c r) ≡ false
    → (invert_says c r ≡ 9 ∷ 10 ∷ []) ⊎ (invert_says c r ≡ 9 ∷ 11 ∷ [])
unfolding invert_says short_of_incoming at accepts
only_room c r e = rw e (go _ _)
  where
    done : List ℕ
    done = 0 ∷ edge_total c ∷ long_rows (in_offsets c) ∷ []

    go : (a b : List Bool) → accepts (first_of (at 9 (buffer 10 a ++ buffer 11 b)) done) ≡ false
        → (first_of (at 9 (buffer 10 a ++ buffer 11 b)) done ≡ 9 ∷ 10 ∷ []) ⊎ (first_of (at 9 (buffer 10 a ++ buffer 11 b)) done ≡ 9 ∷ 11 ∷ [])
    go a b = each (any_of a) (any_of b)
      where
        each : (a b : Bool) → accepts (first_of (at 9 (cond a (10 ∷ []) [] ++ cond b (11 ∷ []) [])) done) ≡ false
            → (first_of (at 9 (cond a (10 ∷ []) [] ++ cond b (11 ∷ []) [])) done ≡ 9 ∷ 10 ∷ [])
            ⊎ (first_of (at 9 (cond a (10 ∷ []) [] ++ cond b (11 ∷ []) [])) done ≡ 9 ∷ 11 ∷ [])
        each true b h = inl refl
        each false true h = inr refl
        each false false h = absurd (false≢true (sym h))

-- Of any columns: the places of o's edges to t, by the edges read.
pub to_read : (c : Columns) (t o : ℕ) → places_to c t o ≡ map (λ k. offset_at c o + k) (places_at t (edge_targets (edges_read c o)))
unfolding places_to edges_read
to_read c t o =
    let at : ℕ → ℕ = λ k. c.targets ! (offset_at c o + k) in
    let e : edge_targets (edges_read c o) ≡ tab at (edges_in c o) = map-tab (λ (e : Edge). e.target) (edge_at c o) (edges_in c o) in
    rw (e, tab-length at (edges_in c o))
    (ap (map (λ k. offset_at c o + k)) (places_ext _ _ (edges_in c o) (λ k l. ap (λ (a : ℕ). eqb a t) (sym (tab-at at 0 (edges_in c o) k l)))))

-- The entries by the input's own edges.
module _ (x : Input) (h : Passed x) where
  abbrev n : ℕ
  n = object_count x

  abbrev built : Columns
  built = columns_of x.schema (graph x)

  pub objects-built : objects_in built ≡ n
  objects-built = objects-same x.schema (graph x) (build_meets x h) (labels_few x h) ∙ objects_are x

  pub offset-built : (o : ℕ) → o ≤ n → offset_at built o ≡ offset x o
  offset-built o l =
      ap (λ (a : List ℕ). a ! 1) (offset-back x.schema (graph x) (build_meets x h) (labels_few x h) o (omega (arith, objects_are x))) ∙ offset_at_lem x o l

  to-built : (t o : ℕ) → o < n → places_to built t o ≡ map (λ k. offset x o + k) (places_at t (edge_targets (edges_of x o)))
  to-built t o l = to_read built t o ∙ rw (offset-built o (omega arith), edges-read x h o l)

  pub entries-built : (t : ℕ) → places_in built t ≡ holder_places n (offset x) (edges_of x) t
  unfolding places_in holder_places
  entries-built t = ap (collect (places_to built t)) objects-built ∙ collect_ext _ _ n (λ o l. to-built t o l)

  pub sources_built : (t : ℕ) → sources_in built t ≡ holder_objects n (edges_of x) t
  unfolding sources_in holder_objects
  sources_built t =
      ap (collect (λ o. map (λ e. o) (places_to built t o))) objects-built
      ∙ collect_ext _ _ n (λ o l. ap (map (λ e. o)) (to-built t o l) ∙ map-map (λ e. o) (λ k. offset x o + k) (places_at t (edge_targets (edges_of x o))))

  -- how many edges o has to t
  own-degree : (t o : ℕ) → o < n → length (places_to built t o) ≡ count t (edge_targets (edges_of x o))
  own-degree t o l =
      ap length (to-built t o l) ∙ length-map (places_at t (edge_targets (edges_of x o))) (λ k. offset x o + k) ∙ count_index t (edge_targets (edges_of x o))

  pub degree-built : (t : ℕ) → length (places_in built t) ≡ total (λ o. count t (edge_targets (edges_of x o))) n
  unfolding places_in
  degree-built t =
      length-collect (places_to built t) (objects_in built) ∙ ap (total (λ o. length (places_to built t o))) objects-built ∙ total_ext _ _ n (own-degree t)

  -- "Nobody holds it": an object without entries is the target of no object's edges, and the other way round.
  pub no_entries_lem : (t : ℕ)
      → (length (places_in built t) ≡ 0 → (o : ℕ) → o < n → count t (edge_targets (edges_of x o)) ≡ 0)
      × (((o : ℕ) → o < n → count t (edge_targets (edges_of x o)) ≡ 0) → length (places_in built t) ≡ 0)
  no_entries_lem t = (
    λ e. total-zero (λ o. count t (edge_targets (edges_of x o))) n (sym (degree-built t) ∙ e),
    λ g. degree-built t ∙ total_none (λ o. count t (edge_targets (edges_of x o))) n g,
  )

-- how often one outcome goes to t, kept or not
abbrev pub hit : ℕ → Outcome → ℕ
hit t (edge u) = one (eqb u t)
hit t (weak u) = one (eqb u t)
hit t missing = 0
hit t nothing = 0

-- Edges and weak targets together are the hits.
module _ (ids : List ℕ) (t : ℕ) where
  abbrev is_to : ℕ → ℕ
  is_to u = one (eqb u t)

  target_hits : (l : ℕ) (u : Outcome) → sum (λ (e : Edge). is_to e.target) (edge_of l u) + count t (weak_of u) ≡ hit t u
  target_hits l (edge u) = omega arith
  target_hits l (weak u) = omega arith
  target_hits l missing = refl
  target_hits l nothing = refl

  pub list_hits : (rs : List Ref) → count t (edge_targets (flat (ref_edge ids) rs)) + count t (flat (ref_weak ids) rs) ≡ sum (λ r. hit t (outcome ids r)) rs
  list_hits rs =
      ap₂ ◌+◌ (sum-map is_to (λ (e : Edge). e.target) (flat (ref_edge ids) rs) ∙ sum-flat (λ (e : Edge). is_to e.target) (ref_edge ids) rs)
      (sum-flat is_to (ref_weak ids) rs)
      ∙ sym (sum-add (λ r. sum (λ (e : Edge). is_to e.target) (ref_edge ids r)) (λ r. sum is_to (ref_weak ids r)) rs)
      ∙ sum_ext _ _ (λ r. target_hits r.label (outcome ids r)) rs

  -- a reference goes to t where it holds t's id, if that is not 0 and is found at t
  module _ (zero-free : find ids 0 ≡ none) (there : find ids (ids ! t) ≡ some t) where
    not_zero : (v : ℕ) → v ≡ ids ! t → eqb v 0 ≡ false
    not_zero v e = ne_eqb v 0 (λ z. apart (sym there ∙ ap (find ids) (sym e ∙ z) ∙ zero-free))
      where
        apart : ◌≡◌ {A = Option ℕ} (some t) none → ⊥
        apart q = false≢true (ap found (sym q))

    reaches : (k : Kind) (b : Bool) → hit t (settled k b (some t)) ≡ 1
    reaches k true = ap one (eq-eqb t t refl)
    reaches k false = ap one (eq-eqb t t refl)

    misses : (k : Kind) (b : Bool) (f : Option ℕ) → ((u : ℕ) → f ≡ some u → u ≡ t → ⊥) → hit t (settled k b f) ≡ 0
    misses slot b none d = refl
    misses element b none d = refl
    misses static b none d = refl
    misses loader b none d = refl
    misses k true (some u) d = ap one (ne_eqb u t (d u refl))
    misses k false (some u) d = ap one (ne_eqb u t (d u refl))

    ref_hits : (r : Ref) → one (eqb r.id (ids ! t)) ≡ hit t (outcome ids r)
    unfolding outcome
    ref_hits r = go (eqb r.id (ids ! t)) refl (eqb r.id 0) refl
      where
        go : (a : Bool) → eqb r.id (ids ! t) ≡ a → (z : Bool) → eqb r.id 0 ≡ z
            → one a ≡ hit t (cond z nothing (settled r.kind r.kept (find ids r.id)))
        go true e true z = absurd (false≢true (sym (not_zero r.id (eqb-true _ _ e)) ∙ z))
        go true e false z =
            let f : find ids r.id ≡ some t = ap (find ids) (eqb-true _ _ e) ∙ there in
            sym (ap (λ (f : Option ℕ). hit t (settled r.kind r.kept f)) f ∙ reaches r.kind r.kept)
        go false e true z = refl
        go false e false z =
            sym (misses r.kind r.kept (find ids r.id) (λ u f q. eqb-false _ _ e (sym (find-get ids r.id u f).1 ∙ ap (λ (i : ℕ). ids ! i) q)))

-- The count from the input, with f of every id, is the count of the references.
module _ (f : ℕ → ℕ) where
  abbrev of_ref : Ref → ℕ
  of_ref r = f r.id

  static_ids : (s : Schema) (c k : ℕ) → cond (is_object_static s c k) (f (s.statics.values ! static_place s c k)) 0 ≡ sum of_ref (static_refs s c k)
  unfolding static_refs static_ref
  static_ids s c k = go (is_object_static s c k)
    where
      go : (b : Bool) → cond b (f (s.statics.values ! static_place s c k)) 0 ≡ sum of_ref (cond b (static_ref s c k ∷ []) [])
      go true = sym (add-zero _)
      go false = refl

  class_ids : (s : Schema) (c : ℕ) → tally_class f f s c ≡ sum of_ref (class_refs s c)
  unfolding tally_class class_refs loader_ref
  class_ids s c =
      ap₂ ◌+◌ (total_ext _ _ (static_total s c) (λ k l. static_ids s c k) ∙ sym (sum-collect of_ref (static_refs s c) (static_total s c))) (sym (add-zero _))
      ∙ sym (sum-append of_ref (collect (static_refs s c) (static_total s c)) (loader_ref s c ∷ []))

  ids-tally : (x : Input) → Sound x → (o : ℕ) → o < object_count x → tally f f x o ≡ sum of_ref (refs x o)
  unfolding tally refs slot_refs other_refs slot_ref element_ref
  ids-tally x h o l =
      ap₂ ◌+◌ (fits-total x h o l (λ k. f (slot_id x o k)) ∙ sym (sum-tab of_ref (slot_ref x o) (read_slots x o)))
      (ap₂ ◌+◌ (sym (sum-tab of_ref (element_ref x o) (element_count x o)))
      (sum_ext _ _ (class_ids x.schema) (classes_at x o) ∙ sym (sum-flat of_ref (class_refs x.schema) (classes_at x o)))
      ∙ sym (sum-append of_ref (tab (element_ref x o) (element_count x o)) (flat (class_refs x.schema) (classes_at x o))))
      ∙ sym (sum-append of_ref (slot_refs x o) (other_refs x o))

-- The weak pairs of o that go to t.
module _ (x : Input) (o t : ℕ) where
  abbrev weak_at : Pair → ℕ
  weak_at p = cond (eqb p.object o) (one (eqb p.target t)) 0

  count-mine : (ps : List Pair) → count t (mine o ps) ≡ sum weak_at ps
  count-mine [] = refl
  count-mine (p ∷ ps) = go (eqb p.object o) (count-mine ps)
    where
      go : (b : Bool) → count t (mine o ps) ≡ sum weak_at ps
          → count t (cond b (p.target ∷ mine o ps) (mine o ps)) ≡ cond b (one (eqb p.target t)) 0 + sum weak_at ps
      go true ih = ap (λ (k : ℕ). one (eqb p.target t) + k) ih
      go false ih = ih ∙ sym (zero-add _)

  pairs-own : (i : ℕ) → sum weak_at (pairs_of x i) ≡ cond (eqb i o) (count t (weak_targets x i)) 0
  pairs-own i = sum-map weak_at _ (weak_targets x i) ∙ go (eqb i o) (weak_targets x i)
    where
      go : (b : Bool) (ts : List ℕ) → sum (λ u. cond b (one (eqb u t)) 0) ts ≡ cond b (count t ts) 0
      go true ts = refl
      go false ts = sum_none ts

  pub weak_hits : Passed x → o < object_count x → count t (weak_read (columns_of x.schema (graph x)) o) ≡ count t (weak_targets x o)
  unfolding graph weak_pairs
  weak_hits h l =
      rw (weak-rows x h o)
      (count-mine (weak_pairs x) ∙ sum-sort weak_at pair_le (collect (pairs_of x) (object_count x)) ∙ sum-collect weak_at (pairs_of x) (object_count x)
      ∙ total_ext _ _ (object_count x) (λ i m. pairs-own i) ∙ total_pick (λ i. count t (weak_targets x i)) o (object_count x) l)

-- Demand 3 from the other end: whoever holds t's id is an entry of t, a weak pair to t, or nobody.
module _ (x : Input) (h : Passed x) (o t : ℕ) (l : o < object_count x) (m : t < object_count x) where
  -- in the terms of the rules
  holds_hits : holds x o t ≡ count t (edge_targets (edges_of x o)) + count t (weak_targets x o)
  unfolding holds edges_of weak_targets
  holds_hits =
      let ids = x.objects.ids in
      ids-tally (λ v. one (eqb v (ids ! t))) x h.sound o l
      ∙ sum_ext _ _ (ref_hits ids t (no_zero x h.sound) (id_found x h.sound t m)) (refs x o) ∙ sym (list_hits ids t (refs x o))

  pub holders : holds x o t ≡ count o (sources_in (columns_of x.schema (graph x)) t) + count t (weak_targets x o)
  holders =
      let c = columns_of x.schema (graph x) in
      holds_hits
      ∙ ap (λ (k : ℕ). k + count t (weak_targets x o)) (sym (source_count c t o (omega (arith, objects-built x h)) ∙ own-degree x h t o l))

  -- and in those of the finished columns
  pub holders_weak : holds x o t ≡ count o (sources_in (columns_of x.schema (graph x)) t) + count t (weak_read (columns_of x.schema (graph x)) o)
  holders_weak = holders ∙ ap (λ (k : ℕ). count o (sources_in (columns_of x.schema (graph x)) t) + k) (sym (weak_hits x o t h l))
