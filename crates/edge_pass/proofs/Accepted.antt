-- What an accepted input gives a pass: every object has its row, its part and the class that its mark names. Assumes nothing.
use Prim.Native.Nat.{ℕ, zero, suc, ◌+◌, ◌-◌, ◌*◌, ◌^◌, ◌≤◌, ◌<◌}
use native.Mathlib.Nat.{not-suc-le-zero}
use native.Mathlib.Numerals.{add-one}
use native.Mathlib.Omega.{arith}
use mathlib.Core.Path.{◌≡◌, refl, sym, ap, subst, ◌∙◌}
use mathlib.Core.Bool.{Bool, true, false, cond}
use mathlib.Core.List.{List, [], ◌∷◌, ◌++◌}
use lib.ListN.{length}
use borrow.Author.Tests.{eqb-true, eq-eqb, lt-ltb, not-false}
use Rattle.columns.specs.Lists.{◌!◌, places}
use Rattle.columns.proofs.Lists.{places-hit, places_miss}
use Rattle.columns.proofs.Tests.{none_of, second_fails, no_places}
use Rattle.columns.proofs.Every.{Every, every-places}
use Rattle.rules.specs.Input.{Input, Copied, Raw, Route, Route.copied, Route.raw, object_count, class_count, class_of, slot_total, slot_count, element_count, found_at, classes_at}
use Rattle.rules.specs.Verdict.{bad_size, bad_span, bad_part}
use Rattle.rules.proofs.Acceptance.{Passed, objects_few, slots_few, slots_in, statics_in, class_in, elements_few, one_dumped, copied-span, raw-span}
use Rattle.rules.proofs.Acceptance.{Sound, size_allowed, size_good, slots_ordered, statics_ordered}
use Rattle.rules.proofs.Even.{objects-even, copied-even, raw-even, EvenSchema, input_even}
use Rattle.edge_append.specs.Held.{StaticsIn}
use Rattle.edge_append.specs.Object.{mark_classes}
use Rattle.edge_pass.specs.Range.{SlotsFrom, CopiedIn, RawIn, PartIn, ObjectIn}

-- the codes of the copied route can be counted in 64 bits, as those of a slice can
abbrev pub CodesFit : Route → Type 0
CodesFit (copied c) = length c.ids.codes < 2 ^ 64
CodesFit (raw r) = Unit {0}

module _ (x : Input) (p : Passed x) where
  abbrev h : Sound x
  h = p.sound

  abbrev even : EvenSchema x.schema
  even = input_even x h.lengths

  -- A mark is the class that is found at the object, and one: its statics and its loader stand in their columns.
  mark_class : (o mark : ℕ) → mark_classes mark ≡ classes_at x o → 0 < mark → mark - 1 < class_count x.schema
  unfolding classes_at
  mark_class o zero e l = absurd (omega arith)
  mark_class o (suc c) e l =
      let q = subst (Every (λ i. (i < class_count x.schema) × (found_at x o i ≡ true))) (sym e) (every-places (found_at x o) (class_count x.schema)) in
      let p : suc c - 1 ≡ c = omega arith in
      rw p q.0.0

  statics-at : (o mark : ℕ) → mark_classes mark ≡ classes_at x o
      → StaticsIn x.schema.classes.static_start x.schema.classes.static_end (length x.schema.statics.names) (length x.schema.statics.types) (length x.schema.statics.values) mark
  statics-at o mark e = record {
    start_in = λ l. omega (arith, mark_class o mark e l, even.static_starts);
    end_in = λ l. omega (arith, mark_class o mark e l, even.static_ends);
    ordered = λ l. statics_ordered x h (mark - 1) (mark_class o mark e l);
    names_in = λ l. statics_in x h (mark - 1) (mark_class o mark e l);
    types_in = λ l. omega (arith, statics_in x h (mark - 1) (mark_class o mark e l), even.static_types);
    values_in = λ l. omega (arith, statics_in x h (mark - 1) (mark_class o mark e l), even.static_values);
  }

  module _ (o : ℕ) (l : o < object_count x) where
    instance_class : x.objects.kinds ! o ≡ 0 → class_of x o < class_count x.schema
    instance_class e = class_in x h o l (eq-eqb _ _ e)

    slots-from : (start : ℕ) → (x.objects.kinds ! o ≡ 0 → start + slot_total x.schema (class_of x o) < 2 ^ 64) → SlotsFrom x o start
    slots-from start f = record {
      kind_in = λ e. omega (arith, instance_class e, even.kinds);
      start_in = λ e. omega (arith, instance_class e, even.slot_starts);
      end_in = λ e. omega (arith, instance_class e, even.slot_ends);
      ordered = λ e. slots_ordered x h (class_of x o) (instance_class e);
      labels_in = λ e. omega (arith, slots_in x h (class_of x o) (instance_class e), even.slot_labels);
      weak_in = λ e. omega (arith, slots_in x h (class_of x o) (instance_class e), even.slot_weak);
      held = f;
    }

    slots_are : x.objects.kinds ! o ≡ 0 → slot_count x o ≡ slot_total x.schema (class_of x o)
    unfolding slot_count
    slots_are e = rw (eq-eqb _ _ e)

    elements_are : x.objects.kinds ! o ≡ 1 → element_count x o ≡ x.objects.lengths ! o
    unfolding element_count
    elements_are e = rw (eq-eqb _ _ e)

    copied_in : (c : Copied) → x.route ≡ copied c → length c.ids.codes < 2 ^ 64 → CopiedIn x c o
    copied_in c e few = record {
      start = omega (arith, (copied-even x h.lengths c e).1);
      slots = slots-from (c.starts ! o) (λ k. let two : x.objects.kinds ! o < 2 = omega arith in omega (arith, copied-span x h c e o l two, slots_are k));
      elements = λ k.
          let two : x.objects.kinds ! o < 2 = omega arith in
          (omega (arith, elements_few x h o l, elements_are k), omega (arith, copied-span x h c e o l two, elements_are k));
    }

    -- "A raw array body is length × id size."
    array_body : (r : Raw) → x.route ≡ raw r → x.objects.kinds ! o ≡ 1 → r.lengths ! o ≡ x.objects.lengths ! o * r.size
    unfolding bad_span bad_part
    array_body r e k =
        let two : x.objects.kinds ! o < 2 = omega arith in
        let b : bad_part x x.route o ≡ false = second_fails _ _ (h.span o l) (lt-ltb _ 2 two) in
        eqb-true _ _ (not-false _ (second_fails _ _ (none_of _ (rw e at b) 1) (eq-eqb _ _ k)))

    size_short : (r : Raw) → x.route ≡ raw r → r.size ≤ 8
    size_short r e = size_allowed r (ap bad_size (sym e) ∙ size_good x h)

    raw_in : (r : Raw) → x.route ≡ raw r → RawIn x r o
    raw_in r e = record {
      start = omega (arith, (raw-even x h.lengths r e).0);
      body = omega (arith, (raw-even x h.lengths r e).1);
      slots = slots-from 0 (λ k. omega (arith, slots_few x h (class_of x o) (instance_class k)));
      offsets = sym even.slot_labels;
      fields = λ k. let two : x.objects.kinds ! o < 2 = omega arith in record { inside = raw-span x h r e o l two; short = size_short r e };
      elements = λ k.
          let two : x.objects.kinds ! o < 2 = omega arith in
          (omega (arith, elements_few x h o l, elements_are k), size_short r e, rw (← array_body r e k) (raw-span x h r e o l two));
    }

    part_in : (t : Route) → x.route ≡ t → CodesFit t → PartIn x t o
    part_in (copied c) e f = copied_in c e f
    part_in (raw r) e f = raw_in r e

  pub object_in : (wk : List ℕ) → object_count x < length wk → CodesFit x.route → (o : ℕ) → o < object_count x → mark_classes (wk ! (o + 1)) ≡ classes_at x o → ObjectIn x wk o
  object_in wk w f o l e = record {
    few = omega (arith, objects_few x h);
    kind = omega (arith, (objects-even x h.lengths).0);
    class = omega (arith, (objects-even x h.lengths).1);
    count = omega (arith, (objects-even x h.lengths).2);
    offset = omega arith;
    part = part_in o l x.route refl f;
    statics = statics-at o (wk ! (o + 1)) e;
    loader = λ m. omega (arith, mark_class o (wk ! (o + 1)) e m, even.loaders);
  }

  -- Marks made class by class, the last that is found there counted from 1, tell the classes found at an object: there is at most one.
  module _ (o : ℕ) (l : o < object_count x) (mark : ℕ → ℕ) (first : mark 0 ≡ 0) (more : (c : ℕ) → mark (suc c) ≡ cond (found_at x o c) (suc c) (mark c)) where
    none_before : (n : ℕ) → n < class_count x.schema → found_at x o n ≡ true → places (found_at x o) n ≡ []
    none_before n m e = no_places (found_at x o) n (λ i k. go i k (found_at x o i) refl)
      where
        go : (i : ℕ) → i < n → (b : Bool) → found_at x o i ≡ b → found_at x o i ≡ false
        go i k true f = absurd (one_dumped x h o i n l k m f e)
        go i k false f = f

    marks-to : (n : ℕ) → n ≤ class_count x.schema → mark_classes (mark n) ≡ places (found_at x o) n
    marks-to zero m = ap mark_classes first ∙ sym (no_places (found_at x o) 0 (λ i k. absurd (not-suc-le-zero k)))
    marks-to (suc n) m = go (found_at x o n) refl (marks-to n (omega arith))
      where
        go : (b : Bool) → found_at x o n ≡ b → mark_classes (mark n) ≡ places (found_at x o) n → mark_classes (mark (suc n)) ≡ places (found_at x o) (suc n)
        go true e ih = ap mark_classes (more n ∙ ap (λ (b : Bool). cond b (suc n) (mark n)) e)
            ∙ sym (ap (places (found_at x o)) (sym (add-one n)) ∙ places-hit (found_at x o) n e ∙ ap (λ (ps : List ℕ). ps ++ (n ∷ [])) (none_before n (omega arith) e))
        go false e ih = ap mark_classes (more n ∙ ap (λ (b : Bool). cond b (suc n) (mark n)) e) ∙ ih ∙ sym (ap (places (found_at x o)) (sym (add-one n)) ∙ places_miss (found_at x o) n e)

    pub marks_tell : mark_classes (mark (class_count x.schema)) ≡ classes_at x o
    unfolding classes_at
    marks_tell = marks-to (class_count x.schema) (omega arith)
