-- The faults of the targets as the walk tests them. Assumes nothing.
use mathlib.Core.Path.{◌≡◌, ap, ◌∙◌}
use mathlib.Core.Bool.{cond}
use mathlib.Core.List.{List, [], ◌∷◌, ◌++◌}
use Prim.Native.Nat.{ℕ, ◌≤◌, ◌<◌, min}
use native.Mathlib.Omega.{arith}
use borrow.Author.Tests.{eq-eqb, ne_eqb}
use lib.Dec.{eqb}
use lib.ListN.{length, take, get_or}
use lib.Seq.{get_or-take, length-take-le}
use Rattle.columns.specs.Lists.{places, first_place}
use Rattle.columns.proofs.Parts.{places_ext}
use Rattle.rules.specs.Verdict.{bad_root}
use Rattle.rules.specs.Parts.{no_object, bad_targets}
use Rattle.check_edge.proofs.Firsts.{first_of, first_or_end, none_of_them}

-- Where the counts differ, the shorter length is a fault behind all others. The targets that are tested are the first ones, as many as there are labels.
module _ (objects : ℕ) (targets : List ℕ) (edges : ℕ) {n e : ℕ} (m : n ≡ min (length targets) edges) (q : e ≡ first_place (bad_root objects (take n targets)) (length (take n targets))) where
  both : bad_targets objects targets edges ≡ places (no_object objects targets) n ++ cond (eqb (length targets) edges) [] (n ∷ [])
  unfolding bad_targets
  both = rw (← m)

  front : e ≡ first_place (no_object objects targets) n
  front =
      let l : n ≤ length targets = omega arith in
      q ∙ rw (length-take-le n targets l)
      (ap (λ (xs : List ℕ). get_or xs 0 n) (places_ext (bad_root objects (take n targets)) (no_object objects targets) n (λ i k. rw (get_or-take n targets i 0 k))))

  pub target_bad : e < n → e ∷ [] ≡ take 1 (bad_targets objects targets edges)
  target_bad k = rw (both, front) (first_of (no_object objects targets) n _ (rw front at k))

  pub target_uneven : (length targets ≡ edges → ⊥) → e ∷ [] ≡ take 1 (bad_targets objects targets edges)
  target_uneven k = rw (both, ne_eqb (length targets) edges k, front) (first_or_end (no_object objects targets) n)

  pub target_none : n ≤ e → length targets ≡ edges → [] ≡ take 1 (bad_targets objects targets edges)
  target_none k z = rw (both, eq-eqb (length targets) edges z, none_of_them (no_object objects targets) n (rw front at k))
