-- The faults of document 01 as the checks test them. Assumes nothing.
use mathlib.Core.Path.{◌≡◌, refl, sym, ap, ◌∙◌}
use mathlib.Core.Logic.{⊎_elim}
use mathlib.Core.Bool.{Bool, true, false, ◌||◌}
use mathlib.Core.List.{List, [], ◌∷◌, ◌++◌}
use Prim.Native.Nat.{ℕ, zero, suc, pred, ◌+◌, ◌-◌, ◌≤◌, ◌<◌, zero-le}
use native.Mathlib.Numerals.{add-one}
use native.Mathlib.Omega.{arith}
use borrow.Author.Tests.{lt-ltb, le-ltb, ltb-false, ne_eqb, le-leb, lt-leb, eqb-true}
use lib.Dec.{eqb, leb, ltb}
use lib.ListN.{length}
use Rattle.columns.specs.Lists.{◌!◌, first_place, all_of, any_of, any}
use Rattle.columns.proofs.First.{Searching, searching_hit, searching_more, Passing, passing_hit, passing_end}
use Rattle.columns.proofs.Lists.{lt_or_ge}
use Rattle.columns.proofs.Tests.{none_of, and_true}
use Rattle.rules.specs.Input.{Schema, slot_total, slot_place, static_total}
use Rattle.rules.specs.Verdict.{bad_object, falls, bad_slot, bad_static, bad_class}
use Rattle.check_tables.proofs.Laws.{or_assoc}
use Rattle.check_tables.specs.Reads.{object_columns, object_fault, row_fault, slot_fault, static_fault, static_fault_at}

-- the id before place o, 0 before the first
abbrev pub prior : List ℕ → ℕ → ℕ
prior ids zero = 0
prior ids (suc o) = ids ! o

pub prior_more : (ids : List ℕ) (o : ℕ) → ids ! o ≡ prior ids (o + 1)
prior_more ids o = rw add-one

zero_or : (id before : ℕ) (rest : Bool) → eqb id 0 || (leb id before || rest) ≡ leb id before || rest
zero_or id before rest = go (eqb id 0) refl
  where
    go : (z : Bool) → eqb id 0 ≡ z → z || (leb id before || rest) ≡ leb id before || rest
    go true t = let low : id ≤ before = omega (arith, eqb-true id 0 t) in rw (le-leb id before low)
    go false t = refl

falls-first : (xs : List ℕ) → falls xs 0 ≡ false
unfolding all_of
falls-first xs = refl

falls-next : (xs : List ℕ) (o : ℕ) → falls xs (suc o) ≡ leb (xs ! suc o) (xs ! o)
unfolding all_of
falls-next xs o = rw (lt-ltb 0 (suc o) (omega arith)) (and_true (leb (xs ! suc o) (xs ! o)))

-- the causes but the id
rest : (ids kinds classes lengths classIds : List ℕ) → ℕ → Bool
rest ids kinds classes lengths classIds o =
    any_of (ltb 3 (kinds ! o) ∷ all_of (eqb (kinds ! o) 0 ∷ leb (length classIds) (classes ! o) ∷ []) ∷ all_of (eqb (kinds ! o) 1 ∷ ltb 268435456 (lengths ! o) ∷ []) ∷ [])

zero_only : (id : ℕ) (rest : Bool) → eqb id 0 || rest ≡ leb id 0 || rest
zero_only zero rest = refl
zero_only (suc id) rest = rw (ne_eqb (suc id) 0 (λ e. omega arith), lt-leb (suc id) 0 (omega arith))

pub object_fault_lem : (ids kinds classes lengths classIds : List ℕ) (o : ℕ)
    → bad_object (object_columns ids kinds classes lengths classIds) o ≡ object_fault (prior ids o) (ids ! o) (kinds ! o) (classes ! o) (lengths ! o) (length classIds)
unfolding bad_object object_fault any_of rest
object_fault_lem ids kinds classes lengths classIds zero = rw (falls-first ids) (zero_only (ids ! 0) (rest ids kinds classes lengths classIds 0))
object_fault_lem ids kinds classes lengths classIds (suc o) = rw (falls-next ids o) (zero_or (ids ! suc o) (ids ! o) (rest ids kinds classes lengths classIds (suc o)))

-- tests in two lists are tests in one
any_append : (xs ys : List Bool) → any_of (xs ++ ys) ≡ any_of xs || any_of ys
unfolding any_of
any_append [] ys = refl
any_append (x ∷ xs) ys = ap (λ (b : Bool). x || b) (any_append xs ys) ∙ sym (or_assoc x (any_of xs) (any_of ys))

-- The lowest offset that is in order after k slots of a class.
abbrev pub low_of : List ℕ → ℕ → ℕ → ℕ
low_of offsets start zero = 0
low_of offsets start (suc k) = offsets ! (start + k) + 1

pub low_more : (offsets : List ℕ) (start slot : ℕ) → start ≤ slot → offsets ! slot + 1 ≡ low_of offsets start (slot + 1 - start)
low_more offsets start slot h =
    let e : slot + 1 - start ≡ suc (slot - start) = omega arith in
    let p : start + (slot - start) ≡ slot = omega arith in
    rw (e, p)

le-lt : (a b : ℕ) → leb a b ≡ ltb a (b + 1)
le-lt a b = ⊎_elim (λ l. lt-leb a b l ∙ sym (le-ltb a (b + 1) (omega arith))) (λ l. le-leb a b l ∙ sym (lt-ltb a (b + 1) (omega arith))) (lt_or_ge b a)

module _ (s : Schema) (c : ℕ) where
  pub slot_fault_lem : (k : ℕ) → bad_slot s c k
      ≡ slot_fault s.names (s.slots.labels ! slot_place s c k) (s.slots.weak ! slot_place s c k) (s.slots.offsets ! slot_place s c k) (low_of s.slots.offsets (s.classes.slot_start ! c) k)
  unfolding bad_slot slot_fault any_of all_of
  slot_fault_lem zero = rw (le-ltb (s.slots.offsets ! (s.classes.slot_start ! c + 0)) 0 zero-le)
  slot_fault_lem (suc k) =
      let p : pred (s.classes.slot_start ! c + suc k) ≡ s.classes.slot_start ! c + k = omega arith in
      rw (lt-ltb 0 (suc k) (omega arith), p, and_true (leb (s.slots.offsets ! (s.classes.slot_start ! c + suc k)) (s.slots.offsets ! (s.classes.slot_start ! c + k))), le-lt (s.slots.offsets ! (s.classes.slot_start ! c + suc k)) (s.slots.offsets ! (s.classes.slot_start ! c + k)))

  -- a class is at fault where its own numbers, one of its slots or one of its statics are
  abbrev row : Bool
  row = row_fault (s.classes.dumped ! c) (s.classes.kinds ! c) (s.classes.slot_start ! c) (s.classes.slot_end ! c) (s.classes.static_start ! c) (s.classes.static_end ! c) (length s.slots.offsets) (length s.statics.names)

  class_fault : bad_class s c ≡ row || any_of (any (bad_slot s c) (slot_total s c) ∷ any (bad_static s c) (static_total s c) ∷ [])
  unfolding bad_class row_fault
  class_fault = any_append _ (any (bad_slot s c) (slot_total s c) ∷ any (bad_static s c) (static_total s c) ∷ [])

  pub row-hit : row ≡ true → bad_class s c ≡ true
  row-hit h = class_fault ∙ rw h

  pub slot-hit : row ≡ false → any (bad_slot s c) (slot_total s c) ≡ true → bad_class s c ≡ true
  unfolding any_of
  slot-hit r h = class_fault ∙ rw (r, h)

  pub static_hit : row ≡ false → any (bad_slot s c) (slot_total s c) ≡ false → any (bad_static s c) (static_total s c) ≡ true → bad_class s c ≡ true
  unfolding any_of
  static_hit r f h = class_fault ∙ rw (r, f, h)

  pub class_none : row ≡ false → any (bad_slot s c) (slot_total s c) ≡ false → any (bad_static s c) (static_total s c) ≡ false → bad_class s c ≡ false
  unfolding any_of
  class_none r f h = class_fault ∙ rw (r, f, h)

  -- ranges of a class whose own numbers are in order
  pub row_ranges : row ≡ false → (s.classes.slot_start ! c ≤ s.classes.slot_end ! c) × (s.classes.slot_end ! c ≤ length s.slots.offsets)
      × (s.classes.static_start ! c ≤ s.classes.static_end ! c) × (s.classes.static_end ! c ≤ length s.statics.names)
  unfolding row_fault
  row_ranges h = (ltb-false _ _ (none_of _ h 2), ltb-false _ _ (none_of _ h 3), ltb-false _ _ (none_of _ h 4), ltb-false _ _ (none_of _ h 5))

  pub static_faults : (from to : ℕ) → from ≡ s.classes.static_start ! c → to ≡ s.classes.static_end ! c
      → any (static_fault_at s.statics.names s.statics.types s.names from) (to - from) ≡ any (bad_static s c) (static_total s c)
  unfolding bad_static static_fault
  static_faults from to f t = rw (f, t)

-- A walk over the classes that came to class c, and over its slots: what a test tells of the class.
module _ (s : Schema) {n c : ℕ} (h : Searching (bad_class s) n c) where
  pub class_ranges : {r : Bool} → r ≡ row s c → r ≡ false → (s.classes.slot_start ! c ≤ s.classes.slot_end ! c) × (s.classes.slot_end ! c ≤ length s.slots.offsets)
      × (s.classes.static_start ! c ≤ s.classes.static_end ! c) × (s.classes.static_end ! c ≤ length s.statics.names)
  class_ranges e f = row_ranges s c (sym e ∙ f)

  pub slot_here : {r : Bool} {slot low offset : ℕ} → Passing (bad_slot s c) (s.classes.slot_start ! c) (s.classes.slot_end ! c) slot → low ≡ low_of s.slots.offsets (s.classes.slot_start ! c) (slot - s.classes.slot_start ! c)
      → offset ≡ s.slots.offsets ! slot → r ≡ slot_fault s.names (s.slots.labels ! slot) (s.slots.weak ! slot) offset low → bad_slot s c (slot - s.classes.slot_start ! c) ≡ r
  slot_here {slot} p at o e =
      let q : s.classes.slot_start ! c + (slot - s.classes.slot_start ! c) ≡ slot = omega (arith, p.low) in
      slot_fault_lem s c (slot - s.classes.slot_start ! c) ∙ rw (q, ← at, ← o) (sym e)

  module _ (l : c < n) where
    pub row_stops : {r : Bool} → r ≡ row s c → r ≡ true → c ≡ first_place (bad_class s) n
    row_stops e f = searching_hit (bad_class s) n h l (row-hit s c (sym e ∙ f))

    pub slot_stops : {r : Bool} {slot : ℕ} → r ≡ row s c → r ≡ false → Passing (bad_slot s c) (s.classes.slot_start ! c) (s.classes.slot_end ! c) slot → slot < s.classes.slot_end ! c
        → bad_slot s c (slot - s.classes.slot_start ! c) ≡ true → c ≡ first_place (bad_class s) n
    slot_stops e f p m b = searching_hit (bad_class s) n h l (slot-hit s c (sym e ∙ f) (sym (passing_hit _ _ _ p m b)))

    -- past the slots, by the test of the statics
    module _ {r r' : Bool} {slot from to : ℕ} (e : r ≡ row s c) (f : r ≡ false) (p : Passing (bad_slot s c) (s.classes.slot_start ! c) (s.classes.slot_end ! c) slot) (o : s.classes.slot_end ! c ≤ slot)
        (a : from ≡ s.classes.static_start ! c) (b : to ≡ s.classes.static_end ! c)
        (e' : r' ≡ any (static_fault_at s.statics.names s.statics.types s.names from) (to - from)) where
      pub static_stops : r' ≡ true → c ≡ first_place (bad_class s) n
      static_stops f' = searching_hit (bad_class s) n h l (static_hit s c (sym e ∙ f) (sym (passing_end _ _ _ p o)) (sym (static_faults s c from to a b) ∙ sym e' ∙ f'))

      pub class_passed : r' ≡ false → Searching (bad_class s) n (c + 1)
      class_passed f' = searching_more (bad_class s) n h l (class_none s c (sym e ∙ f) (sym (passing_end _ _ _ p o)) (sym (static_faults s c from to a b) ∙ sym e' ∙ f'))
