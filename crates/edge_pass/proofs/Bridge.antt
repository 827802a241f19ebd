-- The references over the columns are those of the rules on the whole input. Assumes nothing.
use Prim.Native.Nat.{ℕ, zero, suc}
use mathlib.Core.Path.{◌≡◌, refl, sym, ap, ap₂, ◌∙◌}
use mathlib.Core.Bool.{Bool, true}
use mathlib.Core.List.{◌++◌, append-nil}
use Rattle.columns.specs.Lists.{◌!◌, tab, flat}
use Rattle.columns.proofs.Sums.{tab_ext, leading_all, leading_ext}
use Rattle.rules.specs.Types.{keeps}
use Rattle.rules.specs.Input.{Input, Schema, Copied, Raw, Route.copied, Route.raw, raw_id, slot_count, element_count, id_at, slot_id, element_spot, element_id, fits, slot_fits, read_slots, slot_kept, classes_at}
use Rattle.rules.specs.Edges.{slot_ref, element_ref, static_ref, static_refs, loader_ref, class_refs, slot_refs, other_refs, refs, edges_of, weak_targets, missing_at}
use Rattle.edge_append.specs.Append.{edges_among, weak_among, missing_among}
use Rattle.edge_append.specs.Held.{kept_of, slot_with, element_with, copied_slot, copied_element, copied_slots, copied_elements, static_ref_at, static_from, statics_at, loader_at}
use Rattle.edge_append.specs.Object.{together, copied_parts, copied_parts_of, raw_parts, raw_parts_of, mark_classes}
use Rattle.edge_append.specs.Raw.{bytes_id, slot_ends, slots_read, raw_slot, raw_element, raw_slots, raw_elements}

-- "Every slot of the copied route counts as fitting."
-- A class's statics and its loader are its references.
classes-same : (s : Schema) (mark : ℕ)
    → statics_at s.classes.static_start s.classes.static_end s.statics.names s.statics.types s.statics.values mark ++ loader_at s.classes.loaders mark ≡ flat (class_refs s) (mark_classes mark)
unfolding statics_at loader_at static_from static_ref_at class_refs static_refs static_ref loader_ref
classes-same s zero = refl
classes-same s (suc d) = sym (append-nil _)

module _ (x : Input) (c : Copied) (e : x.route ≡ copied c) (o : ℕ) where
  copied-fits : (k : ℕ) → slot_fits x o k ≡ true
  unfolding slot_fits fits
  copied-fits k = rw e

  slot_same : (k : ℕ) → copied_slot c.ids (c.starts ! o) x.schema.slots.labels x.schema.slots.weak (keeps x.policy (x.schema.classes.kinds ! (x.objects.classes ! o))) (x.schema.classes.slot_start ! (x.objects.classes ! o)) k ≡ slot_ref x o k
  unfolding copied_slot slot_with kept_of slot_ref slot_kept slot_id id_at
  slot_same k = rw e

  element-same : (k : ℕ) → copied_element c.ids (c.starts ! o) k ≡ element_ref x o k
  unfolding copied_element element_with element_ref element_id element_spot id_at
  element-same k = rw e

  module _ (mark : ℕ) where
    slots_same : (copied_parts_of x c o mark).slots ≡ slot_refs x o
    unfolding copied_parts_of copied_parts copied_slots slot_refs read_slots slot_count
    slots_same = tab_ext _ _ _ (λ k l. slot_same k) ∙ ap (tab (slot_ref x o)) (sym (leading_all (slot_fits x o) (slot_count x o) copied-fits))

    elements_same : (copied_parts_of x c o mark).elements ≡ tab (element_ref x o) (element_count x o)
    unfolding copied_parts_of copied_parts copied_elements element_count
    elements_same = tab_ext _ _ _ (λ k l. element-same k)

  -- What `object_copied` appends is what the rules say of the object, where the mark tells which class is found at it.
  pub copied-refs : (mark : ℕ) → classes_at x o ≡ mark_classes mark → together (copied_parts_of x c o mark) ≡ refs x o
  unfolding together refs other_refs copied_parts_of copied_parts
  copied-refs mark h = ap₂ ◌++◌ (slots_same mark) (ap₂ ◌++◌ (elements_same mark) (classes-same x.schema mark ∙ ap (flat (class_refs x.schema)) (sym h)))

module _ (x : Input) (r : Raw) (e : x.route ≡ raw r) (o : ℕ) where
  abbrev kept : Bool
  kept = keeps x.policy (x.schema.classes.kinds ! (x.objects.classes ! o))

  abbrev first : ℕ
  first = x.schema.classes.slot_start ! (x.objects.classes ! o)

  raw-slot-same : (k : ℕ) → raw_slot r.bytes r.size (r.starts ! o) x.schema.slots.offsets x.schema.slots.labels x.schema.slots.weak kept first k ≡ slot_ref x o k
  unfolding raw_slot slot_with kept_of bytes_id slot_ref slot_kept slot_id id_at raw_id
  raw-slot-same k = rw e

  raw-fits : (k : ℕ) → slot_ends x.schema.slots.offsets r.size (r.lengths ! o) first k ≡ slot_fits x o k
  unfolding slot_ends slot_fits fits
  raw-fits k = rw e

  raw-element-same : (k : ℕ) → raw_element r.bytes r.size (r.starts ! o) k ≡ element_ref x o k
  unfolding raw_element element_with bytes_id element_ref element_id element_spot id_at raw_id
  raw-element-same k = rw e

  module _ (mark : ℕ) where
    raw-slots-same : (raw_parts_of x r o mark).slots ≡ slot_refs x o
    unfolding raw_parts_of raw_parts raw_slots slot_refs read_slots slots_read slot_count
    raw-slots-same = tab_ext _ _ _ (λ k l. raw-slot-same k) ∙ ap (tab (slot_ref x o)) (leading_ext (slot_ends x.schema.slots.offsets r.size (r.lengths ! o) first) (slot_fits x o) (slot_count x o) raw-fits)

    raw-elements-same : (raw_parts_of x r o mark).elements ≡ tab (element_ref x o) (element_count x o)
    unfolding raw_parts_of raw_parts raw_elements element_count
    raw-elements-same = tab_ext _ _ _ (λ k l. raw-element-same k)

  -- The same of `object_raw`.
  pub raw-refs : (mark : ℕ) → classes_at x o ≡ mark_classes mark → together (raw_parts_of x r o mark) ≡ refs x o
  unfolding together refs other_refs raw_parts_of raw_parts
  raw-refs mark h = ap₂ ◌++◌ (raw-slots-same mark) (ap₂ ◌++◌ (raw-elements-same mark) (classes-same x.schema mark ∙ ap (flat (class_refs x.schema)) (sym h)))

-- The results of a list of references are the results of the object, if they are its references.
module _ (x : Input) (o : ℕ) where
  pub edges-of : edges_of x o ≡ edges_among x.objects.ids (refs x o)
  unfolding edges_of edges_among
  edges-of = refl

  pub weak-of : weak_targets x o ≡ weak_among x.objects.ids (refs x o)
  unfolding weak_targets weak_among
  weak-of = refl

  pub missing-of : missing_at x o ≡ missing_among x.objects.ids (refs x o)
  unfolding missing_at missing_among
  missing-of = refl
