-- The counts are the need of buffer 2. Assumes nothing.
use Prim.Native.Nat.{ℕ}
use mathlib.Core.Path.{◌≡◌, refl, sym, ap, ◌∙◌}
use mathlib.Core.Bool.{Bool, true, false, cond}
use mathlib.Core.List.{List, [], ◌∷◌, ◌++◌, append-nil}
use lib.ListN.{length, length-map}
use Rattle.columns.specs.Lists.{◌!◌, collect, tab, total, flat}
use Rattle.columns.proofs.Every.{Every, every_append, every-collect, every-flat, every-tab}
use Rattle.columns.proofs.Sums.{length-collect, flat_append, total_ext, leading_all, leading_ext, length-sort}
use Rattle.rules.specs.Types.{keeps}
use Rattle.rules.specs.Input.{Input, Schema, Copied, Raw, Route.copied, Route.raw, object_count, slot_count, read_slots, slot_fits, fits, slot_kept, slot_id, id_at, raw_id, classes_at, is_object_static, static_total}
use Rattle.rules.specs.Edges.{Ref, Pair, pair_le, pairs_of, weak_pairs, weak_targets, graph, refs, slot_refs, other_refs, slot_ref, element_ref, static_ref, static_refs, loader_ref, class_refs, outcome, ref_weak}
use Rattle.rules.specs.Needs.{need_weak}
use Rattle.edge_append.specs.Append.{weak_among}
use Rattle.edge_append.specs.Held.{SlotsIn, kept_of, slot_with, copied_slot, copied_slots}
use Rattle.edge_append.specs.Raw.{bytes_id, slot_ends, slots_read, raw_slot, raw_slots}
use Rattle.need_weak.specs.Pairs.{pairs_in, copied_pairs, copied_total, raw_pairs, raw_total}
use Rattle.need_weak.proofs.Counting.{kept_none, pairs-tab}

-- references that are kept give no weak pair
all_kept : (ids : List ℕ) (rs : List Ref) → Every (λ (r : Ref). r.kept ≡ true) rs → flat (ref_weak ids) rs ≡ []
all_kept ids [] h = refl
all_kept ids (r ∷ rs) h = rw (kept_none ids r h.0, all_kept ids rs h.1)

module _ (x : Input) (o : ℕ) where
  class_kept : (s : Schema) (c : ℕ) → Every (λ (r : Ref). r.kept ≡ true) (class_refs s c)
  unfolding class_refs static_refs static_ref loader_ref
  class_kept s c =
      every_append (λ (r : Ref). r.kept ≡ true) (collect (static_refs s c) (static_total s c)) (loader_ref s c ∷ [])
      (every-collect (λ (r : Ref). r.kept ≡ true) (static_refs s c) (static_total s c) (λ k l. go k (is_object_static s c k)))
      (refl, tt)
    where
      go : (k : ℕ) (b : Bool) → Every (λ (r : Ref). r.kept ≡ true) (cond b (static_ref s c k ∷ []) [])
      go k true = (refl, tt)
      go k false = tt

  others_kept : Every (λ (r : Ref). r.kept ≡ true) (other_refs x o)
  unfolding other_refs element_ref
  others_kept =
      every_append (λ (r : Ref). r.kept ≡ true) (tab (element_ref x o) _) (flat (class_refs x.schema) (classes_at x o))
      (every-tab (λ (r : Ref). r.kept ≡ true) (element_ref x o) _ (λ k l. refl))
      (every-flat (λ c. Unit {0}) (λ (r : Ref). r.kept ≡ true) (class_refs x.schema) (λ c h. class_kept x.schema c) (classes_at x o) (any_of (classes_at x o)))
    where
      any_of : (xs : List ℕ) → Every (λ c. Unit {0}) xs
      any_of [] = tt
      any_of (c ∷ xs) = (tt, any_of xs)

  -- "Weak pairs" come from slots alone: elements, statics and loaders are kept.
  slots_alone : length (weak_targets x o) ≡ total (λ k. length (ref_weak x.objects.ids (slot_ref x o k))) (read_slots x o)
  unfolding weak_targets refs slot_refs pairs_in weak_among
  slots_alone =
      ap length
      (flat_append (ref_weak x.objects.ids) (slot_refs x o) (other_refs x o)
      ∙ ap (λ (l : List ℕ). flat (ref_weak x.objects.ids) (slot_refs x o) ++ l) (all_kept x.objects.ids (other_refs x o) others_kept)
      ∙ append-nil (flat (ref_weak x.objects.ids) (slot_refs x o)))
      ∙ pairs-tab x.objects.ids (slot_ref x o) (read_slots x o)

-- The need of buffer 2 is the sum over the objects.
need_total : (x : Input) → need_weak x ≡ total (λ o. length (weak_targets x o)) (object_count x)
unfolding need_weak graph weak_pairs
need_total x =
    length-map (weak_pairs x) (λ (p : Pair). p.object)
    ∙ length-sort pair_le (collect (pairs_of x) (object_count x))
    ∙ length-collect (pairs_of x) (object_count x)
    ∙ total_ext _ _ (object_count x) (λ o l. length-map (weak_targets x o) (λ t. record { object = o; target = t }))

-- What `count_weak_copied` answers.
module _ (x : Input) (c : Copied) (e : x.route ≡ copied c) where
  copied-fits : (o k : ℕ) → slot_fits x o k ≡ true
  unfolding slot_fits fits
  copied-fits o k = rw e

  copied-slot : (o k : ℕ) → ref_weak x.objects.ids (slot_ref x o k)
      ≡ ref_weak x.objects.ids (copied_slot c.ids (c.starts ! o) [] x.schema.slots.weak (keeps x.policy (x.schema.classes.kinds ! (x.objects.classes ! o))) (x.schema.classes.slot_start ! (x.objects.classes ! o)) k)
  unfolding copied_slot slot_with kept_of slot_ref slot_kept slot_id id_at outcome
  copied-slot o k = rw e

  pub weak-copied : need_weak x ≡ copied_total x.objects.ids x.objects.kinds x.objects.classes c.starts c.ids x.schema.classes.kinds x.schema.classes.slot_start x.schema.classes.slot_end x.schema.slots.weak x.policy (object_count x)
  unfolding copied_total copied_pairs copied_slots read_slots slot_count
  weak-copied =
      need_total x
      ∙ total_ext _ _ (object_count x)
      (λ o l. slots_alone x o ∙ ap (total (λ k. length (ref_weak x.objects.ids (slot_ref x o k)))) (leading_all (slot_fits x o) (slot_count x o) (copied-fits o))
      ∙ total_ext _ _ (slot_count x o) (λ k m. ap length (copied-slot o k))
      ∙ sym (pairs-tab x.objects.ids _ (slot_count x o)))

-- What `count_weak_raw` answers.
module _ (x : Input) (r : Raw) (e : x.route ≡ raw r) where
  raw-fits : (o k : ℕ) → slot_fits x o k ≡ slot_ends x.schema.slots.offsets r.size (r.lengths ! o) (x.schema.classes.slot_start ! (x.objects.classes ! o)) k
  unfolding slot_ends slot_fits fits
  raw-fits o k = rw e

  raw-slot : (o k : ℕ) → ref_weak x.objects.ids (slot_ref x o k)
      ≡ ref_weak x.objects.ids (raw_slot r.bytes r.size (r.starts ! o) x.schema.slots.offsets [] x.schema.slots.weak (keeps x.policy (x.schema.classes.kinds ! (x.objects.classes ! o))) (x.schema.classes.slot_start ! (x.objects.classes ! o)) k)
  unfolding raw_slot slot_with kept_of bytes_id slot_ref slot_kept slot_id id_at raw_id outcome
  raw-slot o k = rw e

  pub weak-raw : need_weak x ≡ raw_total x.objects.ids x.objects.kinds x.objects.classes r.starts r.lengths r.bytes r.size x.schema.classes.kinds x.schema.classes.slot_start x.schema.classes.slot_end x.schema.slots.offsets x.schema.slots.weak x.policy (object_count x)
  unfolding raw_total raw_pairs raw_slots slots_read read_slots slot_count
  weak-raw =
      need_total x
      ∙ total_ext _ _ (object_count x)
      (λ o l. slots_alone x o ∙ ap (total (λ k. length (ref_weak x.objects.ids (slot_ref x o k)))) (leading_ext (slot_fits x o) _ (slot_count x o) (raw-fits o))
      ∙ total_ext _ _ (slots_read x.schema.slots.offsets r.size (r.lengths ! o) (x.schema.classes.slot_start ! (x.objects.classes ! o)) (slot_count x o)) (λ k m. ap length (raw-slot o k))
      ∙ sym (pairs-tab x.objects.ids _ _))

-- The facts that the counts ask of an object's slots, from those that an edge pass asks: labels are not read.
pub slots-weak : {kinds starts ends : List ℕ} {labels weak kind class start : ℕ} → SlotsIn kinds starts ends labels weak kind class start → SlotsIn kinds starts ends weak weak kind class start
slots-weak s = record { kind_in = s.kind_in; start_in = s.start_in; end_in = s.end_in; ordered = s.ordered; labels_in = s.weak_in; weak_in = s.weak_in; held = s.held }
