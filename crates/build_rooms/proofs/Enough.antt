-- Where ROOM 1 to 4 are not refused, the columns are long enough. Assumes nothing.
use Prim.Native.Nat.{ℕ, ◌≤◌}
use native.Mathlib.Omega.{arith}
use mathlib.Core.Path.{◌≡◌, refl, sym, ap, ◌∙◌}
use mathlib.Core.Bool.{Bool, true, false, true≢false}
use mathlib.Core.List.{List, [], ◌∷◌}
use lib.Dec.{ltb}
use borrow.Author.Tests.{ltb-false}
use Rattle.columns.specs.Lists.{◌!◌, any_of}
use Rattle.columns.specs.Columns.{accepts}
use Rattle.columns.proofs.Tests.{append-empty}
use Rattle.store.specs.Blocked.{blocks_of}
use Rattle.rules.specs.Needs.{buffer}
use Rattle.rules.proofs.Acceptance.{refuse_at, at-empty}
use Rattle.build_rooms.specs.Stages.{Early, short_early, room_says}

-- a buffer that is not short has no short column
none_two : (k : ℕ) (a b : Bool) → buffer k (a ∷ b ∷ []) ≡ [] → (a ≡ false) × (b ≡ false)
unfolding any_of
none_two k true b e = let z : ◌≡◌ {A = ℕ} 0 1 = cc in absurd (omega arith)
none_two k false true e = let z : ◌≡◌ {A = ℕ} 0 1 = cc in absurd (omega arith)
none_two k false false e = (refl, refl)

none_one : (k : ℕ) (a : Bool) → buffer k (a ∷ []) ≡ [] → a ≡ false
unfolding any_of
none_one k true e = let z : ◌≡◌ {A = ℕ} 0 1 = cc in absurd (omega arith)
none_one k false e = refl

none_three : (k : ℕ) (a b c : Bool) → buffer k (a ∷ b ∷ c ∷ []) ≡ [] → (a ≡ false) × (b ≡ false) × (c ≡ false)
unfolding any_of
none_three k true b c e = let z : ◌≡◌ {A = ℕ} 0 1 = cc in absurd (omega arith)
none_three k false true c e = let z : ◌≡◌ {A = ℕ} 0 1 = cc in absurd (omega arith)
none_three k false false true e = let z : ◌≡◌ {A = ℕ} 0 1 = cc in absurd (omega arith)
none_three k false false false e = (refl, refl, refl)

pub record Enough (places weak roots offsets : ℕ) (e : Early) : Type 0 where
  pub targets : places ≤ e.targets
  pub labels : places ≤ e.labels
  pub weak_from : weak ≤ e.weak_from
  pub weak_to : weak ≤ e.weak_to
  pub roots_out : roots ≤ e.roots
  pub bases : blocks_of offsets ≤ e.bases
  pub short : offsets ≤ e.short
  pub working : offsets ≤ e.working

pub enough : (places weak roots offsets : ℕ) (e : Early) → short_early places weak roots offsets e ≡ [] → Enough places weak roots offsets e
unfolding short_early
enough places weak roots offsets e none =
    let b1 = append-empty (buffer 1 (ltb e.targets places ∷ ltb e.labels places ∷ [])) _ none in
    let b2 = append-empty (buffer 2 (ltb e.weak_from weak ∷ ltb e.weak_to weak ∷ [])) _ b1.1 in
    let b3 = append-empty (buffer 3 (ltb e.roots roots ∷ [])) _ b2.1 in
    let t1 = none_two 1 (ltb e.targets places) (ltb e.labels places) b1.0 in
    let t2 = none_two 2 (ltb e.weak_from weak) (ltb e.weak_to weak) b2.0 in
    let t3 = none_one 3 (ltb e.roots roots) b3.0 in
    let t4 = none_three 4 (ltb e.bases (blocks_of offsets)) (ltb e.short offsets) (ltb e.working offsets) b3.1 in
    record {
      targets = ltb-false e.targets places t1.0;
      labels = ltb-false e.labels places t1.1;
      weak_from = ltb-false e.weak_from weak t2.0;
      weak_to = ltb-false e.weak_to weak t2.1;
      roots_out = ltb-false e.roots roots t3;
      bases = ltb-false e.bases (blocks_of offsets) t4.0;
      short = ltb-false e.short offsets t4.1;
      working = ltb-false e.working offsets t4.2;
    }

-- ROOM 1 to 4 accept only what the checks did, and where nothing is short
pub room_accepts : (c : List ℕ) (w n o : ℕ) (e : Early) → accepts (room_says c w n o e) ≡ true → (accepts c ≡ true) × (short_early (c ! 1) w n o e ≡ [])
unfolding room_says
room_accepts c w n o e h = go (accepts c) refl
  where
    go : (b : Bool) → accepts c ≡ b → (accepts c ≡ true) × (short_early (c ! 1) w n o e ≡ [])
    go true ok =
        let es = short_early (c ! 1) w n o e in
        (ok, at-empty 9 es ((refuse_at 9 refl es).none_met _ (rw ok at h)))
    go false f = absurd (true≢false (sym h ∙ ap accepts (rw f) ∙ f))
