-- Reading stops at the first slot that does not fit. Offsets of a class rise, so no slot behind it fits: the slots read are all that fit. Assumes nothing.
use Prim.Native.Nat.{ℕ, ◌+◌, ◌≤◌, ◌<◌}
use native.Mathlib.Omega.{arith}
use mathlib.Core.Path.{◌≡◌, refl, ap, ◌∙◌}
use mathlib.Core.Bool.{Bool, true, cond}
use lib.Dec.{ltb}
use borrow.Author.Tests.{leb-true, le-leb}
use Rattle.columns.specs.Lists.{◌!◌, total}
use Rattle.columns.proofs.Sums.{total_ext, leading_within}
use Rattle.columns.proofs.Leading.{Downward, leading_is, total-below}
use Rattle.rules.specs.Input.{Input, Route, Route.copied, Route.raw, object_count, slot_count, fits, slot_fits, read_slots}
use Rattle.rules.proofs.Acceptance.{Sound, slots_rise}

-- no more slots are read than there are
pub read-le : (x : Input) (o : ℕ) → read_slots x o ≤ slot_count x o
unfolding read_slots
read-le x o = leading_within _ _

-- a slot at a smaller offset fits where one at a greater does
fits_lower : (t : Route) (o a b : ℕ) → a < b → fits t o b ≡ true → fits t o a ≡ true
unfolding fits
fits_lower (copied c) o a b l e = refl
fits_lower (raw r) o a b l e = le-leb (a + r.size) (r.lengths ! o) (omega (arith, leb-true (b + r.size) (r.lengths ! o) e))

module _ (x : Input) (h : Sound x) (o : ℕ) (l : o < object_count x) where
  fits-before : Downward (slot_fits x o) (slot_count x o)
  unfolding slot_fits
  fits-before k m e = fits_lower x.route o _ _ (slots_rise x h o k l m) e

  -- Of an accepted input a slot of the class is read if and only if it fits. So what is read can be counted slot by slot, without knowing where to stop.
  pub fits_read : (k : ℕ) → k < slot_count x o → slot_fits x o k ≡ ltb k (read_slots x o)
  unfolding read_slots
  fits_read = leading_is (slot_fits x o) (slot_count x o) fits-before

  pub fits-total : (f : ℕ → ℕ) → total (λ k. cond (slot_fits x o k) (f k) 0) (slot_count x o) ≡ total f (read_slots x o)
  fits-total f =
      total_ext _ _ (slot_count x o) (λ k m. ap (λ (b : Bool). cond b (f k) 0) (fits_read k m)) ∙ total-below f (read_slots x o) (slot_count x o) (read-le x o)
