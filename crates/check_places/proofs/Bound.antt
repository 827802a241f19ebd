-- The bound on the places: nothing has more places than the bound. Assumes nothing.
use mathlib.Core.Path.{◌≡◌, refl}
use mathlib.Core.Bool.{Bool, true, false, cond, not}
use mathlib.Core.List.{List, [], ◌∷◌}
use Prim.Native.Nat.{ℕ, ◌+◌, ◌-◌, ◌≤◌, zero-le}
use native.Mathlib.Nat.{add-zero, zero-add}
use native.Mathlib.Omega.{arith}
use borrow.Author.Tests.{eqb-true}
use lib.Dec.{eqb, ltb}
use lib.ListN.{length}
use Rattle.columns.specs.Lists.{◌!◌, one, total, all_of, any_of}
use Rattle.columns.proofs.Sums.{total-le, one_few}
use Rattle.rules.specs.declared.ReferencePolicy.{ReferencePolicy}
use Rattle.rules.specs.Types.{keeps}
use Rattle.check_ids.specs.Copying.{held_codes}
use Rattle.check_tables.specs.Found.{place_for}
use Rattle.check_ids.specs.Spans.{part_length, slots_of}
use Rattle.check_places.specs.Placing.{slot_held, one_slot, one_code, object_places, held_at, is_held, static_held, one_static, class_places, copied_places, codes_in, most_places, CodeTables, PartsIn}

-- No object has more places than codes that are not 0,
slot_least : (a z : Bool) → one (all_of (a ∷ not z ∷ [])) ≤ one (not z)
unfolding all_of
slot_least true true = omega arith
slot_least true false = omega arith
slot_least false z = zero-le

slots_least : (codes weak : List ℕ) (kept : Bool) (start first n : ℕ) → total (one_slot codes weak kept start first) n ≤ total (one_code codes start) n
unfolding slot_held
slots_least codes weak kept start first n = total-le _ _ n (λ k l. slot_least (any_of (not (eqb (weak ! (first + k)) 1) ∷ kept ∷ [])) (eqb (codes ! (start + k)) 0))

object_least : (classKinds slot_start slot_end weak codes : List ℕ) (policy : ReferencePolicy) (kind class len start : ℕ)
    → object_places classKinds slot_start slot_end weak codes policy kind class len start ≤ total (one_code codes start) (part_length kind class len slot_start slot_end)
unfolding object_places part_length slots_of
object_least classKinds slot_start slot_end weak codes policy kind class len start = go (eqb kind 0) refl (eqb kind 1) refl
  where
    n : ℕ
    n = slot_end ! class - slot_start ! class

    s : ℕ
    s = total (one_slot codes weak (keeps policy (classKinds ! class)) start (slot_start ! class)) n

    go : (a : Bool) → eqb kind 0 ≡ a → (b : Bool) → eqb kind 1 ≡ b → cond a s 0 + cond b (total (one_code codes start) len) 0 ≤ total (one_code codes start) (cond a n 0 + cond b len 0)
    go true e true d = absurd (omega (arith, eqb-true kind 0 e, eqb-true kind 1 d))
    go true e false d = rw (add-zero s, add-zero n) (slots_least codes weak (keeps policy (classKinds ! class)) start (slot_start ! class) n)
    go false e true d = rw (zero-add len) (omega arith)
    go false e false d = omega arith

-- and no class more than object statics and a loader.
held_most : (ids : List ℕ) (id : ℕ) → is_held true ids id ≡ true
unfolding is_held any_of
held_most ids id = refl

one_true : (b : Bool) {c : Bool} → c ≡ true → one b ≤ one c
one_true b e = rw e (one_few b)

both_most : (t b : Bool) {c : Bool} → c ≡ true → one (all_of (t ∷ b ∷ [])) ≤ one (all_of (t ∷ c ∷ []))
unfolding all_of
both_most true true e = rw e (omega arith)
both_most true false e = zero-le
both_most false b e = zero-le

module _ (ids classIds loaders dumped static_start static_end types values : List ℕ) where
  statics_most : (from n : ℕ) → total (one_static false ids types values from) n ≤ total (one_static true ids types values from) n
  unfolding static_held
  statics_most from n = total-le _ _ n (λ k l. both_most (eqb (types ! (from + k)) 2) (is_held false ids (values ! (from + k))) (held_most ids (values ! (from + k))))

  class_most : (c : ℕ) → class_places false ids classIds loaders dumped static_start static_end types values c ≤ class_places true ids classIds loaders dumped static_start static_end types values c
  unfolding class_places
  class_most c = go (ltb (place_for ids (classIds ! c) (dumped ! c)) (length ids))
    where
      places : Bool → ℕ
      places every = total (one_static every ids types values (static_start ! c)) (static_end ! c - static_start ! c) + one (is_held every ids (loaders ! c))

      go : (b : Bool) → cond b (places false) 0 ≤ cond b (places true) 0
      go true =
          omega (
            arith,
            statics_most (static_start ! c) (static_end ! c - static_start ! c),
            one_true (is_held false ids (loaders ! c)) (held_most ids (loaders ! c)),
          )
      go false = zero-le

pub places_most : (ids kinds classes lengths classIds loaders dumped classKinds slot_start slot_end static_start static_end weak types values codes starts : List ℕ) (policy : ReferencePolicy)
    → copied_places ids kinds classes lengths classIds loaders dumped classKinds slot_start slot_end static_start static_end weak types values codes starts policy
    ≤ most_places ids kinds classes lengths classIds loaders dumped slot_start slot_end static_start static_end types values codes starts
unfolding copied_places most_places
places_most ids kinds classes lengths classIds loaders dumped classKinds slot_start slot_end static_start static_end weak types values codes starts policy =
    omega (
      arith,
      total-le (held_at kinds classes lengths classKinds slot_start slot_end weak codes starts policy) (codes_in kinds classes lengths slot_start slot_end codes starts) (length kinds)
          (λ o l. object_least classKinds slot_start slot_end weak codes policy (kinds ! o) (classes ! o) (lengths ! o) (starts ! o)),
      total-le (class_places false ids classIds loaders dumped static_start static_end types values) (class_places true ids classIds loaders dumped static_start static_end types values) (length classIds)
          (λ c l. class_most ids classIds loaders dumped static_start static_end types values c),
    )

-- what the bound asks of the parts
pub parts_in : {kinds classes lengths classKinds slot_start slot_end weak codes starts : List ℕ} → CodeTables kinds classes lengths classKinds slot_start slot_end weak codes starts
    → PartsIn kinds classes lengths slot_start slot_end starts (length codes)
parts_in t = record {
  classes_long = t.classes_long;
  lengths_long = t.lengths_long;
  starts_long = t.starts_long;
  ends_long = λ l. (t.stands 0 l).ends_long;
  span = λ o l k. (t.stands o l).span k;
}

pub most_within : (ids kinds classes lengths classIds loaders dumped slot_start slot_end static_start static_end types values codes starts : List ℕ) {most held room : ℕ}
    → most ≡ total (class_places true ids classIds loaders dumped static_start static_end types values) (length classIds) → held ≡ held_codes codes
    → total (codes_in kinds classes lengths slot_start slot_end codes starts) (length kinds) ≤ held_codes codes → held + most ≤ room
    → most_places ids kinds classes lengths classIds loaders dumped slot_start slot_end static_start static_end types values codes starts ≤ room
unfolding most_places
most_within ids kinds classes lengths classIds loaders dumped slot_start slot_end static_start static_end types values codes starts m h p l = omega (arith, m, h, p, l)
