-- The parts of an object over the columns are its references in the rules, each part of its own kind. Assumes nothing.
use Prim.Native.Nat.{ℕ, zero, suc, ◌+◌, ◌-◌}
use mathlib.Core.Path.{◌≡◌, refl, sym}
use mathlib.Core.Bool.{Bool, true, false, cond}
use mathlib.Core.List.{List, [], ◌∷◌}
use lib.Dec.{eqb}
use Rattle.columns.specs.Lists.{◌!◌}
use Rattle.columns.proofs.Every.{Every, every-tab, every-collect}
use Rattle.rules.specs.Input.{Input, Route, Route.copied, Route.raw, classes_at}
use Rattle.rules.specs.Edges.{Kind, slot, element, static, loader, Ref, refs}
use Rattle.edge_append.specs.Append.{ref_of}
use Rattle.edge_append.specs.Held.{slot_with, element_with, copied_slot, copied_element, copied_slots, copied_elements, static_ref_at, static_from, statics_at, loader_at}
use Rattle.edge_append.specs.Raw.{raw_slot, raw_element, raw_slots, raw_elements}
use Rattle.edge_append.specs.Object.{RefParts, together, mark_classes, copied_parts, raw_parts, copied_parts_of, raw_parts_of}
use Rattle.edge_pass.specs.Range.{ref_parts_of}
use Rattle.edge_pass.proofs.Bridge.{copied-refs, raw-refs}

abbrev pub AllOf : Kind → List Ref → Type 0
AllOf k rs = Every (λ r. r.kind ≡ k) rs

-- The parts of object o of an input.
pub record Agrees (x : Input) (o : ℕ) (p : RefParts) : Type 0 where
  pub references : together p ≡ refs x o
  pub slots : AllOf slot p.slots
  pub elements : AllOf element p.elements
  pub statics : AllOf static p.statics
  pub loaders : AllOf loader p.loaders

module _ (firsts lasts names types values : List ℕ) where
  statics-kind : (mark : ℕ) → AllOf static (statics_at firsts lasts names types values mark)
  unfolding statics_at static_from static_ref_at
  statics-kind zero = tt
  statics-kind (suc c) = every-collect (λ (r : Ref). r.kind ≡ static) (static_from names types values (firsts ! c)) (lasts ! c - firsts ! c) (λ k l. go (firsts ! c + k) (eqb (types ! (firsts ! c + k)) 2))
    where
      go : (place : ℕ) (b : Bool) → AllOf static (cond b (ref_of 2 (names ! place) true (values ! place) ∷ []) [])
      go place true = (refl, tt)
      go place false = tt

loaders-kind : (loaders : List ℕ) (mark : ℕ) → AllOf loader (loader_at loaders mark)
unfolding loader_at
loaders-kind loaders zero = tt
loaders-kind loaders (suc c) = (refl, tt)

pub agrees : (x : Input) (o mark : ℕ) (t : Route) → x.route ≡ t → mark_classes mark ≡ classes_at x o → Agrees x o (ref_parts_of x t o mark)
unfolding ref_parts_of copied_parts_of copied_parts copied_slots copied_elements copied_slot copied_element raw_parts_of raw_parts raw_slots raw_elements raw_slot raw_element slot_with element_with
agrees x o mark (copied c) e m = record {
  references = copied-refs x c e o mark (sym m);
  slots = every-tab (λ (r : Ref). r.kind ≡ slot) _ _ (λ i l. refl);
  elements = every-tab (λ (r : Ref). r.kind ≡ element) _ _ (λ i l. refl);
  statics = statics-kind _ _ _ _ _ mark;
  loaders = loaders-kind _ mark;
}
agrees x o mark (raw r) e m = record {
  references = raw-refs x r e o mark (sym m);
  slots = every-tab (λ (r : Ref). r.kind ≡ slot) _ _ (λ i l. refl);
  elements = every-tab (λ (r : Ref). r.kind ≡ element) _ _ (λ i l. refl);
  statics = statics-kind _ _ _ _ _ mark;
  loaders = loaders-kind _ mark;
}
