-- A number that fits where a need does decides ROOM as the need does. Assumes nothing.
use Prim.Native.Nat.{ℕ, ◌≤◌, min}
use native.Mathlib.Omega.{arith}
use mathlib.Core.Path.{◌≡◌, sym, ap, ◌∙◌}
use mathlib.Core.Logic.{inl, inr}
use lib.Dec.{ltb}
use borrow.Author.Tests.{le-ltb}
use Rattle.rules.specs.Needs.{Fits}
use Rattle.build_rooms.specs.Stages.{Early, short_early}

-- a column of at least that room is short for both or for neither
pub fits-short : (room need n t : ℕ) → Fits room need n → room ≤ t → ltb t n ≡ ltb t need
unfolding Fits
fits-short room need n t (inl e) l = ap (ltb t) e
fits-short room need n t (inr h) l = le-ltb t n (omega (arith, h.1)) ∙ sym (le-ltb t need (omega (arith, h.0)))

-- and where the number fits the need does
pub fits_need : (room need n t : ℕ) → Fits room need n → room ≤ t → n ≤ t → need ≤ t
unfolding Fits
fits_need room need n t (inl e) l h = omega (arith, e)
fits_need room need n t (inr f) l h = omega (arith, f.0)

pub same-short : (places weak p w roots offsets : ℕ) (e : Early) → Fits (min e.targets e.labels) places p → Fits (min e.weak_from e.weak_to) weak w
    → short_early p w roots offsets e ≡ short_early places weak roots offsets e
unfolding short_early
same-short places weak p w roots offsets e f g =
    let t = fits-short (min e.targets e.labels) places p e.targets f (omega arith) in
    let l = fits-short (min e.targets e.labels) places p e.labels f (omega arith) in
    let a = fits-short (min e.weak_from e.weak_to) weak w e.weak_from g (omega arith) in
    let b = fits-short (min e.weak_from e.weak_to) weak w e.weak_to g (omega arith) in
    rw (t, l, a, b)
