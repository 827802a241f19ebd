-- "The three outcomes summed over the kinds equal the final edges, the weak pairs and the dangling count." Assumes nothing.
use Prim.Native.Nat.{ℕ, zero, suc, ◌+◌}
use native.Mathlib.Omega.{arith}
use mathlib.Core.Path.{◌≡◌, refl, sym, ◌∙◌}
use mathlib.Core.Bool.{cond}
use mathlib.Core.List.{List, [], ◌∷◌}
use lib.ListN.{length}
use Rattle.columns.specs.Lists.{total, sum}
use Rattle.columns.proofs.Sums.{sum_ext, total_ext, length-flat}
use Rattle.rules.specs.Input.{Input, object_count}
use Rattle.rules.specs.Edges.{Kind, slot, element, static, loader, Ref, Outcome, edge, weak, missing, nothing, outcome, edge_of, missing_of, ref_edge}
use Rattle.rules.specs.Edges.{ref_weak, refs, edges_of, weak_targets, missing_at, graph}
use Rattle.rules.specs.Account.{of_kind, is_edge, is_weak, cell}
use Rattle.rules.proofs.Demand.{edge_count, weak-count}

-- each reference is of one kind
one-kind : (k : Kind) (n : ℕ) → cond (of_kind slot k) n 0 + cond (of_kind element k) n 0 + cond (of_kind static k) n 0 + cond (of_kind loader k) n 0 ≡ n
one-kind slot n = omega arith
one-kind element n = omega arith
one-kind static n = omega arith
one-kind loader n = omega arith

pub same-edge : (l : ℕ) (u : Outcome) → is_edge u ≡ length (edge_of l u)
same-edge l (edge t) = refl
same-edge l (weak t) = refl
same-edge l missing = refl
same-edge l nothing = refl

module _ (x : Input) where
  abbrev n : ℕ
  n = object_count x

  abbrev ids : List ℕ
  ids = x.objects.ids

  abbrev of_one : (Outcome → ℕ) → Kind → Ref → ℕ
  of_one is k r = cond (of_kind k r.kind) (is (outcome ids r)) 0

  kinds_law : (is : Outcome → ℕ) (rs : List Ref)
      → sum (of_one is slot) rs + sum (of_one is element) rs + sum (of_one is static) rs + sum (of_one is loader) rs ≡ sum (λ r. is (outcome ids r)) rs
  kinds_law is [] = refl
  kinds_law is (r ∷ rs) = omega (arith, kinds_law is rs, one-kind r.kind (is (outcome ids r)))

  -- one outcome, summed over the four kinds
  abbrev pub column : (Outcome → ℕ) → ℕ
  column is = cell x slot is + cell x element is + cell x static is + cell x loader is

  column_law : (is : Outcome → ℕ) → column is ≡ total (λ o. sum (λ r. is (outcome ids r)) (refs x o)) n
  unfolding cell
  column_law is = go n
    where
      go : (m : ℕ) → total (λ o. sum (of_one is slot) (refs x o)) m + total (λ o. sum (of_one is element) (refs x o)) m + total
          (λ o. sum (of_one is static) (refs x o)) m + total (λ o. sum (of_one is loader) (refs x o)) m ≡ total (λ o. sum (λ r. is (outcome ids r)) (refs x o)) m
      go zero = refl
      go (suc m) = omega (arith, go m, kinds_law is (refs x m))

  pub account-edges : column is_edge ≡ length (graph x).targets
  unfolding edges_of
  account-edges =
      column_law is_edge ∙ total_ext _ _ n (λ o l. sum_ext _ _ (λ r. same-edge r.label (outcome ids r)) (refs x o)
      ∙ sym (length-flat (ref_edge ids) (refs x o))) ∙ sym (edge_count x)

  pub account-weak : column is_weak ≡ length (graph x).weak_from
  unfolding weak_targets
  account-weak = column_law is_weak ∙ total_ext _ _ n (λ o l. sym (length-flat (ref_weak ids) (refs x o))) ∙ sym (weak-count x)

  pub account-missing : column missing_of ≡ (graph x).dangling
  unfolding graph missing_at
  account-missing = column_law missing_of
