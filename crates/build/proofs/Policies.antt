-- M-111, OF WHAT TWO BUILD CALLS LEFT. "Two builds of one input that differ only in policy"; "premise: both builds are accepted with room." The rooms may differ.
-- Assumes nothing.
use Prim.Native.Nat.{ℕ, ◌+◌, ◌≤◌, ◌<◌}
use native.Mathlib.Omega.{arith}
use mathlib.Core.Path.{◌≡◌, sym, ap, ◌∙◌}
use mathlib.Core.Bool.{true}
use mathlib.Core.List.{List, map}
use lib.ListN.{take}
use Rattle.columns.specs.Lists.{◌!◌, total, sum}
use Rattle.columns.specs.Columns.{accepts}
use Rattle.columns.proofs.Sums.{total_ext}
use Rattle.rules.specs.declared.ReferencePolicy.{ReferencePolicy}
use Rattle.rules.specs.Input.{Input, object_count}
use Rattle.rules.specs.Edges.{Edge, edges_of, distinct_roots}
use Rattle.rules.specs.Needs.{Rooms}
use Rattle.rules.specs.Built.{BuildLeft, build_left}
use Rattle.rules.specs.Policies.{under, taken_together, KeepsMore, Subsequence}
use Rattle.rules.proofs.Policies.{reached-under, held-under, lost-under, plain-under, more_under, account-under, sub-sum}
use Rattle.build.specs.Policies.{edges_left, SameReferences}
use Rattle.build.proofs.Demands.{finished_edges, finished_roots, finished_account, finished_reached, dangling_counted, all_counted}

module _ (x : Input) (p q : ReferencePolicy) (r s : Rooms) (b d : BuildLeft) (left-b : b ≡ build_left (under x p) r) (left-d : d ≡ build_left (under x q) s)
    (ok-b : accepts b.says ≡ true) (ok-d : accepts d.says ≡ true) where
  abbrev n : ℕ
  n = object_count x

  edges-b : (o : ℕ) → o < n → edges_left x b o ≡ edges_of (under x p) o
  edges-b = finished_edges (under x p) r b left-b ok-b

  edges-d : (o : ℕ) → o < n → edges_left x d o ≡ edges_of (under x q) o
  edges-d = finished_edges (under x q) s d left-d ok-d

  dangling : b.says ! 7 ≡ d.says ! 7
  dangling =
      dangling_counted (under x p) r b left-b ok-b ∙ total_ext _ _ n (λ o l. lost-under x o p q) ∙ sym (dangling_counted (under x q) s d left-d ok-d)

  roots : take (b.says ! 3) b.roots ≡ take (d.says ! 3) d.roots
  unfolding distinct_roots
  roots = finished_roots (under x p) r b left-b ok-b ∙ sym (finished_roots (under x q) s d left-d ok-d)

  in_sum : b.says ! 1 + b.says ! 2 ≡ d.says ! 1 + d.says ! 2
  in_sum =
      omega (arith, all_counted (under x p) r b left-b ok-b, all_counted (under x q) s d left-d ok-d, total_ext _ _ n (λ o l. held-under x o p q), dangling)

  -- One statement for every policy, route and object, with no premise but acceptance.
  pub any_policy : SameReferences x p q b d
  any_policy = record {
    same_targets = λ o t l.
        finished_reached (under x p) r b left-b ok-b o t l ∙ reached-under x o p q t ∙ sym (finished_reached (under x q) s d left-d ok-d o t l);
    same_dangling = dangling;
    same_roots = roots;
    same_order = λ o l h. edges-b o l ∙ plain-under x o p q h ∙ sym (edges-d o l);
    never_removed = λ m o l. rw (edges-b o l, edges-d o l) (more_under x o p q m);
    same_sum = in_sum;
    same_rows = ap (map taken_together) (finished_account (under x p) r b left-b ok-b) ∙ account-under x p q ∙ sym (ap (map taken_together) (finished_account (under x q) s d left-d ok-d));
  }

  -- Whatever is counted of an object's edges, there is no less of it where more is kept: so every target and label, with repeats.
  pub never_fewer : KeepsMore p q → (o : ℕ) → o < n → (f : Edge → ℕ) → sum f (edges_left x b o) ≤ sum f (edges_left x d o)
  never_fewer m o l f = sub-sum f (any_policy.never_removed m o l)
