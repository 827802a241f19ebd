-- What acceptance gives, by name. Assumes nothing.
use Prim.Native.Nat.{ℕ, suc, pred, ◌+◌, ◌≤◌, ◌<◌}
use native.Mathlib.Nat.{not-suc-le-zero}
use native.Mathlib.Omega.{arith}
use native.Mathlib.Decide.{dec_lt}
use mathlib.Core.Path.{◌≡◌, refl, sym, ap, ◌∙◌}
use mathlib.Core.Bool.{Bool, true, false, cond, not, false≢true}
use mathlib.Core.List.{List, [], ◌∷◌, ◌++◌}
use mathlib.Core.Option.{none, some}
use lib.Dec.{eqb}
use lib.ListN.{length}
use borrow.Author.Tests.{eqb-true, eqb-false, leb-false, ltb-false, lt-ltb}
use Rattle.columns.specs.Lists.{◌!◌, places, find, any_of}
use Rattle.columns.specs.Columns.{accepts}
use Rattle.columns.specs.Ranks.{Rises}
use Rattle.columns.proofs.Tests.{none_of, each_of, second_fails, any_false, append-empty, places_none, one_place}
use Rattle.columns.proofs.Ranks.{steps_rise}
use Rattle.columns.proofs.Search.{find_none, find_at}
use Rattle.rules.specs.Input.{Input, Copied, Raw, Route.copied, Route.raw, object_count, class_count, slot_count, element_count, slot_total, slot_place}
use Rattle.rules.specs.Input.{static_total, static_place, class_of, slot_of, found_at, classes_at}
use Rattle.rules.specs.Edges.{graph}
use Rattle.rules.specs.Places.{place_count}
use Rattle.rules.specs.Needs.{Rooms, short_of_build}
use Rattle.rules.specs.Verdict.{first_of, at, once, bad_lengths, bad_limit, limits, over_limit, bad_size, bad_object, bad_class, bad_slot, falls, bad_code, bad_escape}
use Rattle.rules.specs.Verdict.{bad_static, bad_find, bad_dumped, found_badly, bad_copied, bad_span, bad_part, bad_root, over_places, faults, check_says, counts}
use Rattle.rules.specs.Verdict.{build_says}

-- faults that refuse: an answer that accepts has met none of them
pub record Refuse (fs : List (List ℕ)) : Type 0 where
  pub none_met : (done : List ℕ) → accepts (first_of fs done) ≡ true → fs ≡ []

pub refuse_append : {fs gs : List (List ℕ)} → Refuse fs → Refuse gs → Refuse (fs ++ gs)
refuse_append {fs} {gs} a b = record { none_met = λ done e. go done fs (a.none_met done) e }
  where
    go : (done : List ℕ) (fs : List (List ℕ)) → (accepts (first_of fs done) ≡ true → fs ≡ []) → accepts (first_of (fs ++ gs) done) ≡ true → fs ++ gs ≡ []
    go done [] h e = b.none_met done e
    go done (f ∷ fs) h e = let z : ◌≡◌ {A = List (List ℕ)} (f ∷ fs) [] = h e in let z' : ◌≡◌ {A = ℕ} 0 1 = cc in absurd (omega arith)

pub refuse_at : (n : ℕ) → eqb n 0 ≡ false → (ps : List ℕ) → Refuse (at n ps)
unfolding accepts at
refuse_at n e ps = record { none_met = λ done a. go done ps a }
  where
    go : (done ps : List ℕ) → accepts (first_of (at n ps) done) ≡ true → at n ps ≡ []
    go done [] a = refl
    go done (p ∷ ps) a = absurd (false≢true (sym e ∙ a))

pub at-empty : (n : ℕ) (ps : List ℕ) → at n ps ≡ [] → ps ≡ []
unfolding at
at-empty n [] e = refl
at-empty n (p ∷ ps) e = let z : ◌≡◌ {A = ℕ} 0 1 = cc in absurd (omega arith)

pub once-empty : (b : Bool) → once b ≡ [] → b ≡ false
once-empty true e = let z : ◌≡◌ {A = ℕ} 0 1 = cc in absurd (omega arith)
once-empty false e = refl

-- The tests before ROOT and PLACES, which counting the places asks;
pub record Sound (x : Input) : Type 0 where
  pub lengths : bad_lengths x ≡ false
  pub limits : bad_limit x ≡ false
  pub object : (o : ℕ) → o < object_count x → bad_object x o ≡ false
  pub class : (c : ℕ) → c < class_count x.schema → bad_dumped x c ≡ false
  pub copied : bad_copied x.route ≡ []
  pub span : (o : ℕ) → o < object_count x → bad_span x o ≡ false

-- and all the tests that an accepted input passed.
pub record Passed (x : Input) : Type 0 where
  pub sound : Sound x
  pub root : (i : ℕ) → i < length x.roots → bad_root (object_count x) x.roots i ≡ false
  pub few_places : over_places (place_count x) ≡ false

-- no fault of the tests before ROOT
pub none_sound : (x : Input) → at 1 (once (bad_lengths x)) ≡ [] → at 2 (once (bad_limit x)) ≡ [] → at 3 (places (bad_object x) (object_count x)) ≡ []
    → at 4 (places (bad_dumped x) (class_count x.schema)) ≡ [] → at 5 (bad_copied x.route) ≡ [] → at 6 (places (bad_span x) (object_count x)) ≡ [] → Sound x
none_sound x e1 e2 e3 e4 e5 e6 = record {
  lengths = once-empty _ (at-empty 1 _ e1);
  limits = once-empty _ (at-empty 2 _ e2);
  object = λ o h. places_none (bad_object x) _ o (at-empty 3 _ e3) h;
  class = λ c h. places_none (bad_dumped x) _ c (at-empty 4 _ e4) h;
  copied = at-empty 5 _ e5;
  span = λ o h. places_none (bad_span x) _ o (at-empty 6 _ e6) h;
}

pub passed : (x : Input) → faults x ≡ [] → Passed x
unfolding faults
passed x e =
    let e8 = append-empty _ (at 8 (once (over_places (place_count x)))) e in
    let e7 = append-empty _ (at 7 (places (bad_root (object_count x) x.roots) (length x.roots))) e8.0 in
    let e6 = append-empty _ (at 6 (places (bad_span x) (object_count x))) e7.0 in
    let e5 = append-empty _ (at 5 (bad_copied x.route)) e6.0 in
    let e4 = append-empty _ (at 4 (places (bad_dumped x) (class_count x.schema))) e5.0 in
    let e3 = append-empty _ (at 3 (places (bad_object x) (object_count x))) e4.0 in
    let e2 = append-empty (at 1 (once (bad_lengths x))) (at 2 (once (bad_limit x))) e3.0 in
    record {
      sound = none_sound x e2.0 e2.1 e3.1 e4.1 e5.1 e6.1;
      root = λ i h. places_none (bad_root (object_count x) x.roots) _ i (at-empty 7 _ e7.1) h;
      few_places = once-empty _ (at-empty 8 _ e8.1);
    }

pub faults_refuse : (x : Input) → Refuse (faults x)
unfolding faults
faults_refuse x =
    refuse_append (refuse_append (refuse_append (refuse_append (refuse_append (refuse_append (refuse_append (refuse_at 1 refl _) (refuse_at 2 refl _))
    (refuse_at 3 refl _)) (refuse_at 4 refl _)) (refuse_at 5 refl _)) (refuse_at 6 refl _)) (refuse_at 7 refl _)) (refuse_at 8 refl _)

-- Accepted checks passed every test, and so did an accepted build, which has the room too.
pub check_passed : (x : Input) → accepts (check_says x) ≡ true → Passed x
unfolding check_says
check_passed x e = passed x ((faults_refuse x).none_met _ e)

module _ (x : Input) (r : Rooms) (e : accepts (build_says x r) ≡ true) where
  nothing-wrong : faults x ++ at 9 (short_of_build x r) ≡ []
  unfolding build_says
  nothing-wrong = (refuse_append (faults_refuse x) (refuse_at 9 refl _)).none_met _ e

  pub build_passed : Passed x
  build_passed = passed x (append-empty (faults x) _ nothing-wrong).0

  pub build_room : short_of_build x r ≡ []
  build_room = at-empty 9 _ (append-empty (faults x) _ nothing-wrong).1

  pub build_says_lem : build_says x r ≡ counts x.schema (graph x)
  unfolding build_says
  build_says_lem = ap (λ (fs : List (List ℕ)). first_of fs (counts x.schema (graph x))) nothing-wrong

-- The limits, by name. Names are few, so that field labels are below `loader_label`.
module _ (x : Input) (h : Sound x) where
  pub limits-good : over_limit (object_count x) x.schema ≡ false
  unfolding bad_limit
  limits-good = none_of _ h.limits 0

  pub objects_few : object_count x ≤ 67108864
  unfolding over_limit limits
  objects_few = ltb-false _ _ (none_of _ (none_of _ limits-good 0) 0)

  pub classes_few : class_count x.schema ≤ 67108864
  unfolding over_limit limits
  classes_few = ltb-false _ _ (none_of _ (none_of _ limits-good 0) 1)

  pub names_few : x.schema.names ≤ 16777216
  unfolding over_limit limits
  names_few = ltb-false _ _ (none_of _ limits-good 1)

  pub slot-rows_few : length x.schema.slots.offsets ≤ 268435456
  unfolding over_limit limits
  slot-rows_few = ltb-false _ _ (none_of _ (none_of _ limits-good 2) 0)

  pub static_rows_few : length x.schema.statics.names ≤ 268435456
  unfolding over_limit limits
  static_rows_few = ltb-false _ _ (none_of _ (none_of _ limits-good 2) 1)

  pub size_good : bad_size x.route ≡ false
  unfolding bad_limit
  size_good = none_of _ h.limits 1

-- an id size that is allowed is at most 8
pub size_allowed : (r : Raw) → bad_size (raw r) ≡ false → r.size ≤ 8
unfolding bad_size any_of
size_allowed r h = go (eqb r.size 4) refl (eqb r.size 8) refl h
  where
    go : (a : Bool) → eqb r.size 4 ≡ a → (b : Bool) → eqb r.size 8 ≡ b → not (any_of (a ∷ b ∷ [])) ≡ false → r.size ≤ 8
    go true ea b eb h = omega (arith, eqb-true r.size 4 ea)
    go false ea true eb h = omega (arith, eqb-true r.size 8 eb)
    go false ea false eb h = absurd (false≢true (sym h))

-- The slots and statics of a class.
module _ (x : Input) (h : Sound x) (c : ℕ) (l : c < class_count x.schema) where
  pub class_good : bad_class x.schema c ≡ false
  unfolding bad_dumped
  class_good = none_of _ (h.class c l) 0

  pub slot-label : (k : ℕ) → k < slot_total x.schema c → x.schema.slots.labels ! slot_place x.schema c k < x.schema.names
  unfolding bad_class bad_slot
  slot-label k m = leb-false _ _ (none_of _ (any_false (bad_slot x.schema c) _ k (none_of _ class_good 6) m) 0)

  -- the offsets of a class rise
  pub slot_order : (k : ℕ) → suc k < slot_total x.schema c
      → x.schema.slots.offsets ! slot_place x.schema c k < x.schema.slots.offsets ! slot_place x.schema c (suc k)
  unfolding bad_class bad_slot
  slot_order k m =
      let p : pred (slot_place x.schema c (suc k)) ≡ slot_place x.schema c k = omega arith in
      let good : bad_slot x.schema c (suc k) ≡ false = any_false (bad_slot x.schema c) _ (suc k) (none_of _ class_good 6) m in
      leb-false _ _ (rw p at (second_fails _ _ (none_of _ good 2) (lt-ltb 0 (suc k) (omega arith))))

  pub static_name : (k : ℕ) → k < static_total x.schema c → x.schema.statics.names ! static_place x.schema c k < x.schema.names
  unfolding bad_class bad_static
  static_name k m = leb-false _ _ (none_of _ (any_false (bad_static x.schema c) _ k (none_of _ class_good 7) m) 0)

  -- the ranges of a class do not end before they start, and stand inside their columns
  pub slots_ordered : x.schema.classes.slot_start ! c ≤ x.schema.classes.slot_end ! c
  unfolding bad_class
  slots_ordered = ltb-false _ _ (none_of _ class_good 2)

  pub statics_ordered : x.schema.classes.static_start ! c ≤ x.schema.classes.static_end ! c
  unfolding bad_class
  statics_ordered = ltb-false _ _ (none_of _ class_good 4)

  pub slots_in : x.schema.classes.slot_end ! c ≤ length x.schema.slots.offsets
  unfolding bad_class
  slots_in = ltb-false _ _ (none_of _ class_good 3)

  pub statics_in : x.schema.classes.static_end ! c ≤ length x.schema.statics.names
  unfolding bad_class
  statics_in = ltb-false _ _ (none_of _ class_good 5)

  pub slots_few : slot_total x.schema c ≤ 268435456
  slots_few = omega (arith, slots_in, slot-rows_few x h)

  pub statics_few : static_total x.schema c ≤ 268435456
  statics_few = omega (arith, statics_in, static_rows_few x h)

module _ (x : Input) (h : Sound x) where
  -- No object has id 0, and ids rise.
  pub no_zero : find x.objects.ids 0 ≡ none
  unfolding bad_object
  no_zero = find_none x.objects.ids 0 (λ i l. eqb-false (x.objects.ids ! i) 0 (none_of _ (h.object i l) 0))

  step_up : (i : ℕ) → suc i < object_count x → x.objects.ids ! i < x.objects.ids ! suc i
  unfolding bad_object
  step_up i l =
      leb-false (x.objects.ids ! suc i) (x.objects.ids ! i) (second_fails _ _ (none_of _ (h.object (suc i) l) 1) (lt-ltb 0 (suc i) (omega arith)))

  pub ids_rise : Rises x.objects.ids
  ids_rise = steps_rise x.objects.ids step_up

  pub id_found : (o : ℕ) → o < object_count x → find x.objects.ids (x.objects.ids ! o) ≡ some o
  id_found o l = find_at x.objects.ids (x.objects.ids ! o) o ids_rise l refl

  -- An instance's class is a class.
  pub class_in : (o : ℕ) → o < object_count x → eqb (x.objects.kinds ! o) 0 ≡ true → class_of x o < class_count x.schema
  unfolding bad_object
  class_in o l e = leb-false _ _ (second_fails _ _ (none_of _ (h.object o l) 3) e)

  pub slot_small : (o k : ℕ) → o < object_count x → k < slot_count x o → x.schema.slots.labels ! slot_of x o k < x.schema.names
  unfolding slot_count
  slot_small o k l m = go (eqb (x.objects.kinds ! o) 0) refl m
    where
      go : (b : Bool) → eqb (x.objects.kinds ! o) 0 ≡ b → k < cond b (slot_total x.schema (class_of x o)) 0
          → x.schema.slots.labels ! slot_of x o k < x.schema.names
      go true e m = slot-label x h (class_of x o) (class_in o l e) k m
      go false e m = absurd (not-suc-le-zero m)

  pub slots_rise : (o k : ℕ) → o < object_count x → suc k < slot_count x o
      → x.schema.slots.offsets ! slot_of x o k < x.schema.slots.offsets ! slot_of x o (suc k)
  unfolding slot_count
  slots_rise o k l m = go (eqb (x.objects.kinds ! o) 0) refl m
    where
      go : (b : Bool) → eqb (x.objects.kinds ! o) 0 ≡ b → suc k < cond b (slot_total x.schema (class_of x o)) 0
          → x.schema.slots.offsets ! slot_of x o k < x.schema.slots.offsets ! slot_of x o (suc k)
      go true e m = slot_order x h (class_of x o) (class_in o l e) k m
      go false e m = absurd (not-suc-le-zero m)

  pub slot_count_few : (o : ℕ) → o < object_count x → slot_count x o ≤ 268435456
  unfolding slot_count
  slot_count_few o l = go (eqb (x.objects.kinds ! o) 0) refl
    where
      go : (b : Bool) → eqb (x.objects.kinds ! o) 0 ≡ b → cond b (slot_total x.schema (class_of x o)) 0 ≤ 268435456
      go true e = slots_few x h (class_of x o) (class_in o l e)
      go false e = omega arith

  pub elements_few : (o : ℕ) → o < object_count x → element_count x o ≤ 268435456
  unfolding element_count bad_object
  elements_few o l = go (eqb (x.objects.kinds ! o) 1) refl
    where
      go : (b : Bool) → eqb (x.objects.kinds ! o) 1 ≡ b → cond b (x.objects.lengths ! o) 0 ≤ 268435456
      go true e = ltb-false _ _ (second_fails _ _ (none_of _ (h.object o l) 4) e)
      go false e = omega arith

  -- Of two dumped classes found at one object, neither is the earlier: at most one is.
  pub one_dumped : (o b c : ℕ) → o < object_count x → b < c → c < class_count x.schema → found_at x o b ≡ true → found_at x o c ≡ true → ⊥
  unfolding found_at bad_dumped bad_find
  one_dumped o b c l bc cl fb fc =
      let ec : x.schema.classes.ids ! c ≡ x.objects.ids ! o = eqb-true _ _ (each_of _ fc 1) in
      let bad : found_badly x c (find x.objects.ids (x.schema.classes.ids ! c)) ≡ false
      = second_fails _ _ (none_of _ (h.class c cl) 1) (each_of _ fc 0) in
      let here : found_badly x c (some o) ≡ false = rw (ec, id_found o l) at bad in
      false≢true (sym (any_false (found_at x o) c b (none_of _ here 1) bc) ∙ fb)

  pub one_class : (o c : ℕ) → o < object_count x → c < class_count x.schema → found_at x o c ≡ true → classes_at x o ≡ c ∷ []
  unfolding classes_at
  one_class o c l m t = one_place (found_at x o) (class_count x.schema) c m t (λ i k d. go i k d (found_at x o i) refl (dec_lt i c))
    where
      go : (i : ℕ) → i < class_count x.schema → (i ≡ c → ⊥) → (b : Bool) → found_at x o i ≡ b → Dec (i < c) → found_at x o i ≡ false
      go i k d false e q = e
      go i k d true e (yes q) = absurd (one_dumped o i c l q m e t)
      go i k d true e (no q) = absurd (one_dumped o c i l (omega arith) k t e)

  -- A dumped class is found at an object of kind 3 only.
  pub class_kind : (o c : ℕ) → o < object_count x → c < class_count x.schema → found_at x o c ≡ true → 3 ≤ x.objects.kinds ! o
  unfolding found_at bad_dumped bad_find
  class_kind o c l m t =
      let ec : x.schema.classes.ids ! c ≡ x.objects.ids ! o = eqb-true _ _ (each_of _ t 1) in
      let bad : found_badly x c (find x.objects.ids (x.schema.classes.ids ! c)) ≡ false = second_fails _ _ (none_of _ (h.class c m) 1) (each_of _ t 0) in
      let here : found_badly x c (some o) ≡ false = rw (ec, id_found o l) at bad in
      ltb-false _ _ (none_of _ here 0)

  -- Spans stand inside their columns.
  part-good : (o : ℕ) → o < object_count x → x.objects.kinds ! o < 2 → bad_part x x.route o ≡ false
  unfolding bad_span
  part-good o l k = second_fails _ _ (h.span o l) (lt-ltb _ 2 k)

  pub copied-span : (c : Copied) → x.route ≡ copied c → (o : ℕ) → o < object_count x → x.objects.kinds ! o < 2
      → c.starts ! o + (slot_count x o + element_count x o) ≤ length c.ids.codes
  unfolding bad_part slot_count element_count
  copied-span c e o l k = ltb-false _ _ (rw e at (part-good o l k))

  pub raw-span : (r : Raw) → x.route ≡ raw r → (o : ℕ) → o < object_count x → x.objects.kinds ! o < 2 → r.starts ! o + r.lengths ! o ≤ length r.bytes
  unfolding bad_part
  raw-span r e o l k = ltb-false _ _ (none_of _ (rw e at (part-good o l k)) 0)

  -- A copied code reads back.
  pub codes-good : (c : Copied) → x.route ≡ copied c → (p : ℕ) → p < length c.ids.codes → bad_code c.ids p ≡ false
  unfolding bad_copied
  codes-good c e p l =
      let e0 : bad_copied (copied c) ≡ [] = ap bad_copied (sym e) ∙ h.copied in
      let falling = places (falls c.ids.places) (length c.ids.places) in
      let codes = places (bad_code c.ids) (length c.ids.codes) in
      let e1 = append-empty (falling ++ codes) (places (bad_escape c.ids) (length c.ids.places)) e0 in
      places_none (bad_code c.ids) _ p (append-empty falling codes e1.0).1 l

-- Roots are objects, and the places are within the limit.
module _ (x : Input) (h : Passed x) where
  pub root_in : (i : ℕ) → i < length x.roots → x.roots ! i < object_count x
  root_in i l = leb-false _ _ (h.root i l)

  pub places_few : place_count x ≤ 268435456
  places_few = ltb-false _ _ h.few_places
