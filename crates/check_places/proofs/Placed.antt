-- The number of places of an input, by either route: its objects' own, and those of the classes that are found. Assumes nothing.
use mathlib.Core.Path.{◌≡◌, refl, ap, ap₂, ◌∙◌}
use mathlib.Core.Logic.{⊎_elim}
use mathlib.Core.Bool.{Bool, true, false, cond, not, ◌&&◌}
use mathlib.Core.List.{List, [], ◌∷◌, ◌++◌}
use mathlib.Core.Option.{Option, none}
use Prim.Native.Nat.{ℕ, zero, suc, ◌+◌, ◌<◌}
use native.Mathlib.Nat.{add-zero}
use native.Mathlib.Omega.{arith}
use borrow.Author.Tests.{lt-ltb, le-ltb, eqb-true, eqb-false}
use lib.Dec.{eqb, ltb}
use lib.ListN.{length, length-append, replicate, length-replicate}
use Rattle.columns.specs.Lists.{◌!◌, collect, tab, places, total, flat, sum, one, find, found, all_of, any_of}
use Rattle.columns.specs.Ranks.{Rises}
use Rattle.columns.proofs.Lists.{lt_or_ge}
use Rattle.columns.proofs.Sums.{sum-append, sum-collect, sum-tab, sum-flat, sum_ext, length-flat, total_ext, total-add, total_none, total_pick}
use Rattle.rules.specs.Input.{Input, Schema, Route, Route.copied, Route.raw, object_count, class_count, element_count, read_slots, static_total, is_object_static, found_at, classes_at}
use Rattle.rules.specs.Edges.{Edge, Ref, slot_ref, element_ref, static_ref, loader_ref, static_refs, class_refs, slot_refs, other_refs}
use Rattle.rules.specs.Places.{ref_place, has_place, unread, places_of, place_count}
use Rattle.check_tables.proofs.Marks.{place, not_found, found_there}
use Rattle.check_places.specs.Placing.{is_held, static_held, one_static}

-- sums of sums, either way round
pub total_swap : (g : ℕ → ℕ → ℕ) (n m : ℕ) → total (λ i. total (g i) m) n ≡ total (λ j. total (λ i. g i j) n) m
total_swap g n zero = total_none (λ i. 0) n (λ i l. refl)
total_swap g n (suc m) = total-add (λ i. total (g i) m) (λ i. g i m) n ∙ ap (λ (k : ℕ). k + total (λ i. g i m) n) (total_swap g n m)

pub sum-places : (f : ℕ → ℕ) (t : ℕ → Bool) (n : ℕ) → sum f (places t n) ≡ total (λ i. cond (t i) (f i) 0) n
unfolding places
sum-places f t n = sum-collect f (λ i. cond (t i) (i ∷ []) []) n ∙ total_ext _ _ n (λ i l. go i (t i))
  where
    go : (i : ℕ) (b : Bool) → sum f (cond b (i ∷ []) []) ≡ cond b (f i) 0
    go i true = add-zero (f i)
    go i false = refl

-- each class found is found once: the sum over the objects is the sum over the classes
module _ (x : Input) (rise : Rises x.objects.ids) where
  pick_class : (c v : ℕ) → total (λ o. cond (found_at x o c) v 0) (object_count x) ≡ cond (ltb (place x c) (object_count x)) v 0
  pick_class c v =
      ⊎_elim
      (λ l. total_ext _ _ (object_count x) (λ o m. ap (λ (b : Bool). cond b v 0) (is_place l o m (eqb o (place x c)) refl))
      ∙ total_pick (λ i. v) (place x c) (object_count x) l ∙ rw (lt-ltb (place x c) (object_count x) l))
      (λ l. total_none _ (object_count x) (λ o m. rw (not_found x c rise o m (λ e. omega arith))) ∙ rw (le-ltb (place x c) (object_count x) l))
      (lt_or_ge (place x c) (object_count x))
    where
      is_place : place x c < object_count x → (o : ℕ) → o < object_count x → (b : Bool) → eqb o (place x c) ≡ b → found_at x o c ≡ b
      is_place l o m true e = rw (eqb-true o (place x c) e) (found_there x c l)
      is_place l o m false e = not_found x c rise o m (eqb-false o (place x c) e)

  pub found-sum : (f : ℕ → ℕ) → total (λ o. sum f (classes_at x o)) (object_count x) ≡ total (λ c. cond (ltb (place x c) (object_count x)) (f c) 0) (class_count x.schema)
  unfolding classes_at
  found-sum f =
      total_ext _ _ (object_count x) (λ o l. sum-places f (found_at x o) (class_count x.schema))
      ∙ total_swap (λ o c. cond (found_at x o c) (f c) 0) (object_count x) (class_count x.schema)
      ∙ total_ext _ _ (class_count x.schema) (λ c l. pick_class c (f c))

-- on the raw route every reference has a place
abbrev pub every_one : Route → Bool
every_one (raw r) = true
every_one (copied c) = false

-- 1 for a reference that has a place
abbrev pub placed : Input → Ref → ℕ
placed x f = one (has_place x.route x.objects.ids f)

-- the places of an object's own slots and elements
abbrev pub own : Input → ℕ → ℕ
own x o = total (λ k. placed x (slot_ref x o k)) (read_slots x o) + unread x o + total (λ k. placed x (element_ref x o k)) (element_count x o)

module _ (x : Input) where
  ref_length : (f : Ref) → length (ref_place x.route x.objects.ids f) ≡ placed x f
  unfolding ref_place
  ref_length f = go (has_place x.route x.objects.ids f) _
    where
      go : (b : Bool) (p : Option Edge) → length (cond b (p ∷ []) []) ≡ one b
      go true p = refl
      go false p = refl

  refs-length : (fs : List Ref) → length (flat (ref_place x.route x.objects.ids) fs) ≡ sum (placed x) fs
  refs-length fs = length-flat (ref_place x.route x.objects.ids) fs ∙ sum_ext _ (placed x) ref_length fs

  object_places_lem : (o : ℕ) → length (places_of x o) ≡ own x o + sum (λ c. sum (placed x) (class_refs x.schema c)) (classes_at x o)
  unfolding places_of slot_refs other_refs
  object_places_lem o =
      let slots = tab (slot_ref x o) (read_slots x o) in
      let elements = tab (element_ref x o) (element_count x o) in
      let classes = flat (class_refs x.schema) (classes_at x o) in
      let A = flat (ref_place x.route x.objects.ids) slots in
      let H = replicate {A = Option Edge} (unread x o) none in
      let B = flat (ref_place x.route x.objects.ids) (elements ++ classes) in
      let shape : length (places_of x o) ≡ length (A ++ H ++ B) = refl in
      omega (
        arith,
        shape,
        length-append (A ++ H) B,
        length-append A H,
        length-append A (H ++ B),
        length-append H B,
        length-replicate {A = Option Edge} (unread x o) none,
        refs-length slots,
        refs-length (elements ++ classes),
        sum-append (placed x) elements classes,
        sum-flat (placed x) (class_refs x.schema) (classes_at x o),
        sum-tab (placed x) (slot_ref x o) (read_slots x o),
        sum-tab (placed x) (element_ref x o) (element_count x o),
      )

  place-count : Rises x.objects.ids → place_count x
      ≡ total (own x) (object_count x)
      + total (λ c. cond (ltb (place x c) (object_count x)) (sum (placed x) (class_refs x.schema c)) 0) (class_count x.schema)
  unfolding place_count
  place-count rise =
      total_ext _ _ (object_count x) (λ o l. object_places_lem o)
      ∙ total-add (own x) (λ o. sum (λ c. sum (placed x) (class_refs x.schema c)) (classes_at x o)) (object_count x)
      ∙ ap (λ (k : ℕ). total (own x) (object_count x) + k) (found-sum x rise (λ c. sum (placed x) (class_refs x.schema c)))

-- A class's references that have a place: every one, or those that are found.
both_some : (a b : Bool) → a && b ≡ any_of (false ∷ all_of (a ∷ b ∷ []) ∷ [])
unfolding any_of all_of
both_some true true = refl
both_some true false = refl
both_some false b = refl

module _ (ids : List ℕ) (s : Schema) (c : ℕ) where
  static_held_lem : (t : Route) (k : ℕ) → one (has_place t ids (static_ref s c k)) ≡ one (is_held (every_one t) ids (static_ref s c k).id)
  unfolding has_place is_held static_ref any_of
  static_held_lem (raw r) k = refl
  static_held_lem (copied d) k = ap one (both_some (not (eqb (static_ref s c k).id 0)) (found (find ids (static_ref s c k).id)))

  loader_held : (t : Route) → one (has_place t ids (loader_ref s c)) ≡ one (is_held (every_one t) ids (loader_ref s c).id)
  unfolding has_place is_held loader_ref any_of
  loader_held (raw r) = refl
  loader_held (copied d) = ap one (both_some (not (eqb (loader_ref s c).id 0)) (found (find ids (loader_ref s c).id)))

module _ (x : Input) (c : ℕ) where
  abbrev every : Bool
  every = every_one x.route

  static_sum : (k : ℕ) → sum (placed x) (static_refs x.schema c k)
      ≡ one_static every x.objects.ids x.schema.statics.types x.schema.statics.values (x.schema.classes.static_start ! c) k
  unfolding static_refs static_held static_ref all_of
  static_sum k = go (is_object_static x.schema c k) (static_held_lem x.objects.ids x.schema c x.route k)
    where
      all_one : (b : Bool) → one b + 0 ≡ one (b && true)
      all_one true = refl
      all_one false = refl

      go : (b : Bool) → placed x (static_ref x.schema c k) ≡ one (is_held every x.objects.ids (static_ref x.schema c k).id)
          → sum (placed x) (cond b (static_ref x.schema c k ∷ []) []) ≡ one (all_of (b ∷ is_held every x.objects.ids (static_ref x.schema c k).id ∷ []))
      go true e = ap (λ (n : ℕ). n + 0) e ∙ all_one (is_held every x.objects.ids (static_ref x.schema c k).id)
      go false e = refl

  pub class_sum : sum (placed x) (class_refs x.schema c)
      ≡ total (one_static every x.objects.ids x.schema.statics.types x.schema.statics.values (x.schema.classes.static_start ! c)) (static_total x.schema c)
      + one (is_held every x.objects.ids (x.schema.classes.loaders ! c))
  unfolding class_refs loader_ref
  class_sum =
      sum-append (placed x) (collect (static_refs x.schema c) (static_total x.schema c)) (loader_ref x.schema c ∷ [])
      ∙ ap₂ ◌+◌ (sum-collect (placed x) (static_refs x.schema c) (static_total x.schema c) ∙ total_ext _ _ (static_total x.schema c) (λ k l. static_sum k))
      (add-zero (placed x (loader_ref x.schema c)) ∙ loader_held x.objects.ids x.schema c x.route)

-- The places of an input whose ids rise.
pub all_placed : (x : Input) → Rises x.objects.ids → (every : Bool) → every_one x.route ≡ every → place_count x
    ≡ total (own x) (object_count x)
    + total
    (λ c. cond (ltb (place x c) (object_count x))
    (total (one_static every x.objects.ids x.schema.statics.types x.schema.statics.values (x.schema.classes.static_start ! c)) (static_total x.schema c)
    + one (is_held every x.objects.ids (x.schema.classes.loaders ! c))) 0) (class_count x.schema)
all_placed x rise every e =
    place-count x rise
    ∙ ap (λ (k : ℕ). total (own x) (object_count x) + k)
    (total_ext _ _ (class_count x.schema) (λ c l. ap (λ (k : ℕ). cond (ltb (place x c) (object_count x)) k 0) (rw (← e) (class_sum x c))))
