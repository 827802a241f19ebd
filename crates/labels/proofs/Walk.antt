-- Walking over an object's edges: one that cannot be read stops the walk. Assumes nothing.
use Prim.Native.Nat.{ℕ, zero, suc, ◌+◌, ◌-◌, ◌<◌}
use native.Mathlib.Nat.{add-zero, add-suc}
use native.Mathlib.Numerals.{add-one}
use native.Mathlib.Omega.{arith}
use mathlib.Core.Path.{◌≡◌}
use mathlib.Core.List.{[], ◌∷◌}
use Rattle.rules.specs.Labels.{Coded, after}
use Rattle.labels.specs.Reading.{step_back, next_back, walk_back}

module _ (d : Coded) (e : ℕ) where
  -- the i-th edge reads, or not
  pub next_more : (i n l : ℕ) → next_back d e i ≡ n ∷ [] → step_back d e i n ≡ l ∷ [] → next_back d e (i + 1) ≡ after n l ∷ []
  unfolding next_back
  next_more i n l w s = rw (add-one i, w, s)

  stays : (i m : ℕ) → next_back d e i ≡ [] → next_back d e (i + m) ≡ []
  unfolding next_back
  stays i zero w = rw (add-zero i) w
  stays i (suc m) w = rw (add-suc i m, stays i m w)

  pub walk_stops : (i n k : ℕ) → i < k → next_back d e i ≡ n ∷ [] → step_back d e i n ≡ [] → [] ≡ walk_back d e k
  unfolding walk_back next_back
  walk_stops i n k l w s =
      let stop : next_back d e (suc i) ≡ [] = rw (w, s) in
      let z : suc i + (k - suc i) ≡ k = omega arith in
      rw (← z, stays (suc i) (k - suc i) stop)

  pub walk_ends : (k n : ℕ) → next_back d e k ≡ n ∷ [] → step_back d e k n ≡ walk_back d e k
  unfolding walk_back
  walk_ends k n w = rw w
