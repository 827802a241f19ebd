-- An input that passed the tests before PLACES, as facts, and what counting its places asks. Assumes nothing.
use mathlib.Core.Path.{◌≡◌, refl, sym, ap, ◌∙◌}
use mathlib.Core.Bool.{true}
use mathlib.Core.List.{List, [], ◌∷◌}
use Prim.Native.Nat.{ℕ, ◌<◌}
use native.Mathlib.Omega.{arith}
use borrow.Author.Tests.{eq-eqb}
use Rattle.columns.specs.Lists.{◌!◌, places}
use Rattle.columns.specs.Columns.{accepts}
use Rattle.columns.proofs.Tests.{append-empty}
use Rattle.rules.specs.Input.{Input, Copied, Raw, Route.copied, Route.raw, object_count, class_count, slot_count, element_count}
use Rattle.rules.specs.Verdict.{first_of, at, once, bad_lengths, bad_limit, bad_object, bad_dumped, bad_copied, bad_span}
use Rattle.rules.specs.Places.{place_count}
use Rattle.rules.proofs.Acceptance.{Refuse, refuse_append, refuse_at, Sound, none_sound, ids_rise, objects_few, classes_few, slots_ordered, slots_in, statics_ordered, statics_in, class_in, copied-span, codes-good}
use Rattle.check_ids.specs.Spans.{part_length, slots_of}
use Rattle.check_places.specs.Placing.{ClassTables, PartTables, CodeTables, raw_places, copied_places}
use Rattle.rules.proofs.Even.{objects-even, copied-even, input_even}
use Rattle.check_places.proofs.Routes.{raw-placed, copied_placed}
use Rattle.check_input.specs.Flat.{faults_late, faults_before}
use Rattle.check_input.proofs.Chain.{dumped_even, tables_even}

module _ (x : Input) where
  pub before_refuse : Refuse (faults_before x)
  unfolding faults_before faults_late
  before_refuse =
      refuse_append (refuse_at 1 refl _)
      (refuse_append (refuse_at 2 refl _)
      (refuse_append (refuse_at 3 refl _) (refuse_append (refuse_at 4 refl _) (refuse_append (refuse_at 5 refl _) (refuse_append (refuse_at 6 refl _) (refuse_at 7 refl _))))))

  pub before_sound : faults_before x ≡ [] → Sound x
  unfolding faults_before faults_late
  before_sound e =
      let e1 = append-empty (at 1 (once (bad_lengths x))) _ e in
      let e2 = append-empty (at 2 (once (bad_limit x))) _ e1.1 in
      let e3 = append-empty (at 3 (places (bad_object x) (object_count x))) _ e2.1 in
      let e4 = append-empty (at 4 (places (bad_dumped x) (class_count x.schema))) _ e3.1 in
      let e5 = append-empty (at 5 (bad_copied x.route)) _ e4.1 in
      let e6 = append-empty (at 6 (places (bad_span x) (object_count x))) _ e5.1 in
      none_sound x e1.0 e2.0 e3.0 e4.0 e5.0 e6.0

  -- an answer that accepts, with the number that it tells
  module _ (n : ℕ) {says : List ℕ} (e : says ≡ first_of (faults_before x) (0 ∷ n ∷ [])) (a : accepts says ≡ true) where
    none_before : faults_before x ≡ []
    none_before = before_refuse.none_met (0 ∷ n ∷ []) (ap accepts (sym e) ∙ a)

    pub sound : Sound x
    sound = before_sound none_before

    pub told-before : says ! 1 ≡ n
    told-before = ap (λ (s : List ℕ). s ! 1) (e ∙ ap (λ (fs : List (List ℕ)). first_of fs (0 ∷ n ∷ [])) none_before)

module _ (x : Input) (h : Sound x) where
  -- what counting asks of the classes; of the objects on the raw route
  pub class_tables : ClassTables x.objects.ids x.schema.classes.ids x.schema.classes.loaders x.schema.classes.dumped x.schema.classes.static_start x.schema.classes.static_end x.schema.statics.types x.schema.statics.values
  class_tables =
      let t = tables_even x h.lengths in
      let d = dumped_even x h.lengths in
      let s = input_even x h.lengths in
      record {
        rising = ids_rise x h;
        loaders_long = s.loaders;
        dumped_long = d;
        starts_long = t.static_starts_long ∙ d;
        ends_long = t.static_ends_long ∙ d;
        values_long = s.static_values ∙ sym t.types_long;
        ranges = λ c l.
            let m : c < class_count x.schema = omega (arith, t.static_starts_long, d) in
            (statics_ordered x h c m, omega (arith, statics_in x h c m, t.types_long));
        few = classes_few x h;
      }

  pub part_tables : PartTables x.objects.kinds x.objects.classes x.objects.lengths x.schema.classes.slot_start x.schema.classes.slot_end
  part_tables =
      let t = tables_even x h.lengths in
      let o = objects-even x h.lengths in
      record {
        classes_long = o.1 ∙ sym o.0;
        lengths_long = o.2 ∙ sym o.0;
        ends_long = t.slot_ends_long ∙ sym t.slot_starts_long;
        few = omega (arith, o.0, objects_few x h);
      }

  -- The places that are counted are those of the input, on the raw route,
  pub raw-counted : (r : Raw) → x.route ≡ raw r →
      let k = x.schema.classes in
      place_count x ≡ raw_places x.objects.ids x.objects.kinds x.objects.classes x.objects.lengths k.ids k.loaders k.dumped k.slot_start k.slot_end k.static_start k.static_end x.schema.statics.types x.schema.statics.values
  raw-counted r e = raw-placed x r e (ids_rise x h) (objects-even x h.lengths).0

  -- and on the copied route.
  module _ (d : Copied) (e : x.route ≡ copied d) where
    pub code_tables : CodeTables x.objects.kinds x.objects.classes x.objects.lengths x.schema.classes.kinds x.schema.classes.slot_start x.schema.classes.slot_end x.schema.slots.weak d.ids.codes d.starts
    unfolding part_length slots_of slot_count element_count
    code_tables =
        let t = tables_even x h.lengths in
        let o = objects-even x h.lengths in
        let f = dumped_even x h.lengths in
        record {
          classes_long = o.1 ∙ sym o.0;
          lengths_long = o.2 ∙ sym o.0;
          starts_long = (copied-even x h.lengths d e).1 ∙ sym o.0;
          stands = λ i l. record {
            kinds_long = t.kinds_long ∙ sym t.slot_starts_long;
            ends_long = t.slot_ends_long ∙ sym t.slot_starts_long;
            ranges = λ c m.
                let l : c < class_count x.schema = omega (arith, t.slot_starts_long, f) in
                (slots_ordered x h c l, omega (arith, slots_in x h c l, t.weak_long));
            class_in = λ z. omega (arith, class_in x h i (omega (arith, o.0)) (eq-eqb _ _ z), t.slot_starts_long, f);
            span = λ z. copied-span x h d e i (omega (arith, o.0)) z;
          };
          few = omega (arith, o.0, objects_few x h);
        }

    pub copied_counted :
        let k = x.schema.classes in
        place_count x ≡ copied_places x.objects.ids x.objects.kinds x.objects.classes x.objects.lengths k.ids k.loaders k.dumped k.kinds k.slot_start k.slot_end k.static_start k.static_end x.schema.slots.weak x.schema.statics.types x.schema.statics.values d.ids.codes d.starts x.policy
    copied_counted = copied_placed x d e (codes-good x h d e) (ids_rise x h) (objects-even x h.lengths).0 (copied-span x h d e)
