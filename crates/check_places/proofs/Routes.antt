-- The places that each route counts over the columns are those of document 01. Assumes nothing.
use mathlib.Core.Path.{◌≡◌, refl, ap, ap₂, ◌∙◌}
use mathlib.Core.Bool.{Bool, true, false, cond, not, ◌&&◌, ◌||◌, false≢true}
use mathlib.Core.List.{List, [], ◌∷◌}
use Prim.Native.Nat.{ℕ, zero, suc, ◌+◌, ◌-◌, ◌*◌, ◌^◌, ◌≤◌, ◌<◌}
use native.Mathlib.Omega.{arith}
use borrow.Author.Tests.{eqb-true, not-false}
use lib.Dec.{eqb, leb, ltb}
use lib.ListN.{length}
use Rattle.columns.specs.Lists.{◌!◌, total, one, all_of, any_of}
use Rattle.columns.specs.Columns.{accepts}
use Rattle.columns.specs.Ranks.{Rises, bisect}
use Rattle.columns.proofs.Sums.{total_ext, leading_within, leading_all}
use Rattle.columns.proofs.Tests.{none_of}
use Rattle.index.specs.Copied.{Ids, escaped_code, id_back, escape_back, whole}
use Rattle.rules.specs.Types.{keeps}
use Rattle.rules.specs.Input.{Input, Copied, Raw, Route.copied, Route.raw, object_count, slot_count, element_count, slot_total, class_of, read_slots, slot_fits, fits, slot_kept, slot_id, element_id, id_at, copied_id}
use Rattle.rules.specs.Verdict.{bad_code}
use Rattle.rules.specs.Edges.{Ref, slot_ref, element_ref}
use Rattle.rules.specs.Places.{has_place, unread, place_count}
use Rattle.check_ids.specs.Spans.{part_length, slots_of}
use Rattle.check_places.specs.Placing.{slot_held, one_slot, one_code, object_places, class_places, raw_places, copied_places}
use Rattle.check_places.proofs.Placed.{every_one, own, placed, all_placed}

total_ones : (f : ℕ → ℕ) (n : ℕ) → ((k : ℕ) → f k ≡ 1) → total f n ≡ n
total_ones f zero h = refl
total_ones f (suc n) h = omega (arith, total_ones f n h, h n)

-- "Raw counts every slot, every element."
module _ (x : Input) (r : Raw) (e : x.route ≡ raw r) where
  raw-one : (f : Ref) → placed x f ≡ 1
  unfolding has_place
  raw-one f = rw e

  raw-own : (o : ℕ) → own x o ≡ slot_count x o + element_count x o
  unfolding unread read_slots
  raw-own o =
      omega (
        arith,
        leading_within (slot_fits x o) (slot_count x o),
        total_ones (λ k. placed x (slot_ref x o k)) (read_slots x o) (λ k. raw-one (slot_ref x o k)),
        total_ones (λ k. placed x (element_ref x o k)) (element_count x o) (λ k. raw-one (element_ref x o k)),
      )

  pub raw-placed : Rises x.objects.ids → length x.objects.kinds ≡ object_count x →
      let k = x.schema.classes in
      place_count x ≡ raw_places x.objects.ids x.objects.kinds x.objects.classes x.objects.lengths k.ids k.loaders k.dumped k.slot_start k.slot_end k.static_start k.static_end x.schema.statics.types x.schema.statics.values
  unfolding raw_places part_length slots_of slot_count element_count class_places
  raw-placed rise even =
      all_placed x rise true (ap every_one e)
      ∙ rw even (ap₂ ◌+◌ (total_ext (own x) _ (object_count x) (λ o l. raw-own o)) refl)

-- A code that reads back is 0 where its id is.
whole_id : (i id : ℕ) → accepts (whole i id) ≡ true → eqb (whole i id ! 1) 0 ≡ false
unfolding whole accepts
whole_id i id = go (any_of (eqb id 0 ∷ leb (2 ^ 64) id ∷ [])) refl
  where
    go : (b : Bool) → any_of (eqb id 0 ∷ leb (2 ^ 64) id ∷ []) ≡ b → accepts (cond b (5 ∷ i ∷ []) (0 ∷ id ∷ [])) ≡ true → eqb (cond b (5 ∷ i ∷ []) (0 ∷ id ∷ []) ! 1) 0 ≡ false
    go true e a = absurd (false≢true a)
    go false e a = none_of _ e 0

escape_id_lem : (ps vs : List ℕ) (i k : ℕ) → accepts (escape_back ps vs i k) ≡ true → eqb (escape_back ps vs i k ! 1) 0 ≡ false
unfolding escape_back accepts
escape_id_lem ps vs i k = go (all_of (ltb k (length ps) ∷ eqb (ps ! k) i ∷ ltb k (length vs) ∷ []))
  where
    go : (b : Bool) → accepts (cond b (whole i (vs ! k)) (5 ∷ i ∷ [])) ≡ true → eqb (cond b (whole i (vs ! k)) (5 ∷ i ∷ []) ! 1) 0 ≡ false
    go true a = whole_id i (vs ! k) a
    go false a = absurd (false≢true a)

module _ (c : Ids) (p : ℕ) where
  back-zero : accepts (id_back c p) ≡ true → eqb (id_back c p ! 1) 0 ≡ eqb (c.codes ! p) 0
  unfolding id_back accepts
  back-zero = go (ltb p (length c.codes)) (eqb (c.codes ! p) 0) (eqb (c.codes ! p) escaped_code)
    where
      E : List ℕ
      E = escape_back c.places c.ids p (bisect c.places p)

      W : List ℕ
      W = whole p (c.base + 8 * (c.codes ! p - 1))

      go : (l z e : Bool) → accepts (cond l (cond z (0 ∷ 0 ∷ []) (cond e E W)) (11 ∷ p ∷ [])) ≡ true
          → eqb (cond l (cond z (0 ∷ 0 ∷ []) (cond e E W)) (11 ∷ p ∷ []) ! 1) 0 ≡ z
      go true true e a = refl
      go true false true a = escape_id_lem c.places c.ids p (bisect c.places p) a
      go true false false a = whole_id p (c.base + 8 * (c.codes ! p - 1)) a
      go false z e a = absurd (false≢true a)

  pub code-zero : bad_code c p ≡ false → eqb (copied_id c p) 0 ≡ eqb (c.codes ! p) 0
  unfolding bad_code copied_id
  code-zero h = let a = not-false (accepts (id_back c p)) h in rw a (back-zero a)

part-total : (b : Bool) (f g : ℕ → ℕ) (n : ℕ) → (b ≡ true → (k : ℕ) → k < n → f k ≡ g k) → total f (cond b n 0) ≡ cond b (total g n) 0
part-total true f g n h = total_ext f g n (h refl)
part-total false f g n h = refl

-- "Copied counts kept non-zero slots, non-zero elements."
module _ (x : Input) (c : Copied) (e : x.route ≡ copied c) (good : (p : ℕ) → p < length c.ids.codes → bad_code c.ids p ≡ false) where
  all_read : (o : ℕ) → read_slots x o ≡ slot_count x o
  unfolding read_slots slot_fits fits
  all_read o = leading_all (slot_fits x o) (slot_count x o) (λ k. rw e)

  module _ (o k : ℕ) (l : c.starts ! o + k < length c.ids.codes) where
    slot-test : (a b z : Bool) → (a || b) && not z ≡ all_of (any_of (a ∷ b ∷ []) ∷ not z ∷ [])
    unfolding all_of any_of
    slot-test true b true = refl
    slot-test true b false = refl
    slot-test false true true = refl
    slot-test false true false = refl
    slot-test false false z = refl

    slot-one : placed x (slot_ref x o k)
        ≡ one_slot c.ids.codes x.schema.slots.weak (keeps x.policy (x.schema.classes.kinds ! class_of x o)) (c.starts ! o) (x.schema.classes.slot_start ! class_of x o) k
    unfolding has_place slot_ref slot_kept slot_id id_at slot_held
    slot-one =
        rw (e, code-zero c.ids (c.starts ! o + k) (good _ l))
        (ap one (slot-test (not (eqb (x.schema.slots.weak ! (x.schema.classes.slot_start ! class_of x o + k)) 1)) (keeps x.policy (x.schema.classes.kinds ! class_of x o)) (eqb (c.ids.codes ! (c.starts ! o + k)) 0)))

    element-one : placed x (element_ref x o k) ≡ one_code c.ids.codes (c.starts ! o) k
    unfolding has_place element_ref element_id id_at
    element-one = rw (e, code-zero c.ids (c.starts ! o + k) (good _ l))

  module _ (o : ℕ) (span : x.objects.kinds ! o < 2 → c.starts ! o + (slot_count x o + element_count x o) ≤ length c.ids.codes) where
    abbrev kind : ℕ
    kind = x.objects.kinds ! o

    slot_in : (k : ℕ) → eqb kind 0 ≡ true → k < slot_total x.schema (class_of x o) → c.starts ! o + k < length c.ids.codes
    unfolding slot_count
    slot_in k t l = let z : kind ≡ 0 = eqb-true kind 0 t in omega (arith, rw t at (span (omega arith)))

    element_in : (k : ℕ) → eqb kind 1 ≡ true → k < x.objects.lengths ! o → c.starts ! o + k < length c.ids.codes
    unfolding element_count
    element_in k t l = let z : kind ≡ 1 = eqb-true kind 1 t in omega (arith, rw t at (span (omega arith)))

    copied-own : own x o ≡ object_places x.schema.classes.kinds x.schema.classes.slot_start x.schema.classes.slot_end x.schema.slots.weak c.ids.codes x.policy kind (class_of x o) (x.objects.lengths ! o) (c.starts ! o)
    unfolding unread object_places slot_count element_count
    copied-own =
        let slots = part-total (eqb kind 0) (λ k. placed x (slot_ref x o k)) _ (slot_total x.schema (class_of x o)) (λ t k l. slot-one o k (slot_in k t l)) in
        let elements = part-total (eqb kind 1) (λ k. placed x (element_ref x o k)) _ (x.objects.lengths ! o) (λ t k l. element-one o k (element_in k t l)) in
        rw (all_read o) (omega (arith, slots, elements))

  pub copied_placed : Rises x.objects.ids → length x.objects.kinds ≡ object_count x
      → ((o : ℕ) → o < object_count x → x.objects.kinds ! o < 2 → c.starts ! o + (slot_count x o + element_count x o) ≤ length c.ids.codes) →
      let k = x.schema.classes in
      place_count x ≡ copied_places x.objects.ids x.objects.kinds x.objects.classes x.objects.lengths k.ids k.loaders k.dumped k.kinds k.slot_start k.slot_end k.static_start k.static_end x.schema.slots.weak x.schema.statics.types x.schema.statics.values c.ids.codes c.starts x.policy
  unfolding copied_places class_places
  copied_placed rise even span =
      all_placed x rise false (ap every_one e)
      ∙ rw even (ap₂ ◌+◌ (total_ext (own x) _ (object_count x) (λ o l. copied-own o (span o l))) refl)
