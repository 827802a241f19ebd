-- What the needs ask of an input that the checks accept. Assumes nothing.
use Prim.Native.Nat.{ℕ, ◌+◌, ◌^◌, ◌≤◌, ◌<◌}
use native.Mathlib.Omega.{arith}
use mathlib.Core.Path.{◌≡◌, refl, sym, ap, subst}
use mathlib.Core.Bool.{true}
use mathlib.Core.List.{List}
use lib.ListN.{length}
use Rattle.columns.specs.Columns.{accepts}
use Rattle.rules.specs.Input.{Input, Copied, Raw, Route, Route.copied, Route.raw, object_count, class_count}
use Rattle.rules.specs.Verdict.{check_says}
use Rattle.rules.proofs.Acceptance.{check_passed, objects_few, ids_rise, root_in, Sound, classes_few, slot-rows_few}
use Rattle.rules.proofs.Even.{objects-even, copied-even, raw-even, input_even}
use Rattle.check_input.specs.Flat.{marks_left}
use Rattle.check_input.proofs.Theorems.{marks_long}
use Rattle.need_roots.specs.Roots.{Below, ClassMarks}
use Rattle.need_weak.specs.Pairs.{ObjectsIn}
use Rattle.need_weak.proofs.Theorems.{slots-weak}
use Rattle.edge_pass.specs.Range.{PartIn}
use Rattle.edge_pass.proofs.Accepted.{CodesFit, object_in}
use Rattle.build_edges.specs.Laying.{CopiedAsked, RawAsked}
use Rattle.build_edges.proofs.Half.{mark_told, mark_is, mark_most}

slots_all : (x : Input) → Sound x → length x.schema.slots.weak ≤ 268435456
slots_all x h = omega (arith, (input_even x h.lengths).slot_weak, slot-rows_few x h)

module _ (x : Input) (ok : accepts (check_says x) ≡ true) where
  abbrev h : Sound x
  h = (check_passed x ok).sound

  objects_in_lem : (starts : List ℕ) → length starts ≡ object_count x → ObjectsIn x.objects.ids x.objects.kinds x.objects.classes starts
  objects_in_lem starts e = record {
    rising = ids_rise x h;
    few = objects_few x h;
    kind = omega (arith, (objects-even x h.lengths).0);
    class = omega (arith, (objects-even x h.lengths).1);
    start = omega arith;
  }

  -- object by object, as a pass would find them
  part_of : CodesFit x.route → (o : ℕ) → o < object_count x → PartIn x x.route o
  part_of f o l =
      let m = object_count x + 1 in
      let w = marks_left x m in
      let long : object_count x < m = omega arith in
      let wide : length w ≡ m = marks_long x m in
      (object_in x (check_passed x ok) w (omega (arith, wide)) f o l (mark_told x m long ok refl o l)).part

  pub copied-asked : (c : Copied) → x.route ≡ copied c → length c.ids.codes < 2 ^ 64
      → CopiedAsked x.objects.ids x.objects.kinds x.objects.classes c.starts x.schema.classes.kinds x.schema.classes.slot_start x.schema.classes.slot_end (length x.schema.slots.weak)
  copied-asked c e f = record {
    objects = objects_in_lem c.starts (copied-even x h.lengths c e).1;
    even = omega (arith, (objects-even x h.lengths).0);
    few = slots_all x h;
    slots = λ o l. slots-weak (subst (λ (t : Route). PartIn x t o) e (part_of (subst CodesFit (sym e) f) o l)).slots;
  }

  pub raw-asked : (r : Raw) → x.route ≡ raw r
      → RawAsked x.objects.ids x.objects.kinds x.objects.classes r.starts r.lengths (length r.bytes) r.size x.schema.classes.kinds x.schema.classes.slot_start x.schema.classes.slot_end (length x.schema.slots.offsets) (length x.schema.slots.weak)
  raw-asked r e =
      let part : (o : ℕ) → o < object_count x → PartIn x (raw r) o = λ o l. subst (λ (t : Route). PartIn x t o) e (part_of (subst CodesFit (sym e) tt) o l) in
      record {
        objects = objects_in_lem r.starts (raw-even x h.lengths r e).0;
        even = omega (arith, (objects-even x h.lengths).0);
        bodies_long = omega (arith, (raw-even x h.lengths r e).1);
        few = slots_all x h;
        slots = λ o l. rw (part o l).offsets (part o l).slots;
        body = λ o l k. (part o l).fields k;
      }

  pub roots-asked : (w : List ℕ) (m : ℕ) → w ≡ marks_left x m → Below (object_count x) x.roots × (object_count x ≤ 2 ^ 32) × ClassMarks (object_count x) w
  roots-asked w m e =
      ((λ i l. root_in x (check_passed x ok) i l), omega (arith, objects_few x h), (λ long o l. omega (arith, mark_is x m (omega (arith, ap length e, marks_long x m)) ok e o l, mark_most x o (class_count x.schema), classes_few x h)))
