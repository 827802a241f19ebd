-- Hints as they are written: a place in its bucket, and the places from the last one down. Assumes nothing.
use Prim.Native.Nat.{ℕ, suc, ◌+◌, ◌-◌, ◌*◌, ◌/◌, ◌%◌, ◌≤◌, ◌<◌, zero}
use native.Mathlib.Omega.{arith}
use mathlib.Core.Path.{◌≡◌, refl, ◌∙◌}
use mathlib.Core.List.{List}
use lib.ListN.{length, set}
use borrow.Author.Tests.{lt-ltb, le-ltb}
use Rattle.columns.specs.Lists.{◌!◌}
use Rattle.lookup_hints.specs.Hints.{scale_of, step_of, bucket_at, with_hint, hints_to, hints_of}

module _ (d : List ℕ) (bucket place : ℕ) where
  pub hint_put : {e f : List ℕ} → bucket < length d / 2 → e ≡ set d (2 * bucket) (place % 65536) → f ≡ set e (2 * bucket + 1) (place / 65536 % 65536)
      → f ≡ with_hint d bucket place
  unfolding with_hint
  hint_put l low high = rw (lt-ltb _ _ l, high, low)

  pub hint_out : length d / 2 ≤ bucket → d ≡ with_hint d bucket place
  unfolding with_hint
  hint_out l = rw (le-ltb _ _ l)

-- The ids from i on are marked: those before them, marked after that, leave what `mark` leaves.
pub record Hinting (ids d₀ d : List ℕ) (i : ℕ) : Type 0 where
  pub within : i ≤ length ids
  pub same : length d ≡ length d₀
  pub leads : hints_to (bucket_at ids (length d₀)) i d ≡ hints_of ids d₀

pub hinting_none : (ids d : List ℕ) → Hinting ids d d (length ids)
unfolding hints_of
hinting_none ids d = record { within = omega arith; same = refl; leads = refl }

hints_more : (bucket : ℕ → ℕ) (d : List ℕ) (i : ℕ) → 0 < i → hints_to bucket (i - 1) (with_hint d (bucket (i - 1)) (i - 1)) ≡ hints_to bucket i d
unfolding hints_to
hints_more bucket d zero l = elim l [ ]
hints_more bucket d (suc k) l = let e : suc k - 1 ≡ k = omega arith in rw e

module _ {ids d₀ d : List ℕ} {i : ℕ} (m : Hinting ids d₀ d i) where
  pub hinting_more : {scale step : ℕ} {e : List ℕ} → 0 < i → scale ≡ scale_of ids (length d₀) → step ≡ step_of (ids ! (i - 1)) (ids ! 0) scale
      → e ≡ with_hint d (step / 65536) (i - 1) → length e ≡ length d → Hinting ids d₀ e (i - 1)
  unfolding bucket_at
  hinting_more l at-scale at-step put kept =
      record {
        within = omega (arith, m.within);
        same = kept ∙ m.same;
        leads = rw (put, at-step, at-scale) (hints_more (bucket_at ids (length d₀)) d i l ∙ m.leads);
      }

  pub hinting_all : i ≤ 0 → d ≡ hints_of ids d₀
  unfolding hints_to
  hinting_all l = let e : i ≡ 0 = omega arith in rw e at m.leads
