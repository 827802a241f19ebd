-- The three demands, of all that a build call left: b is what its contract says of the answer and the columns. Assumes nothing.
use Prim.Native.Nat.{ℕ, ◌+◌, ◌<◌}
use mathlib.Core.Path.{◌≡◌, sym, ap, ◌∙◌}
use mathlib.Core.Bool.{Bool, true, false, cond}
use mathlib.Core.List.{List, []}
use lib.Dec.{eqb}
use lib.ListN.{length, take}
use Rattle.columns.specs.Lists.{◌!◌, sum, one, total}
use Rattle.columns.specs.Columns.{accepts}
use Rattle.columns.proofs.Written.{used_part}
use Rattle.rules.specs.Input.{Input, object_count}
use Rattle.rules.specs.Edges.{edges_of, weak_targets, distinct_roots, graph}
use Rattle.rules.specs.Account.{account, no_account}
use Rattle.rules.specs.Demand.{held, lost}
use Rattle.rules.specs.Needs.{Rooms}
use Rattle.rules.specs.Verdict.{counts, build_says}
use Rattle.rules.specs.Built.{BuildLeft, build_left, used_columns}
use Rattle.rules.specs.Questions.{reads_back, weak_reads, edges_read, weak_read}
use Rattle.rules.specs.Policies.{reached}
use Rattle.rules.proofs.Acceptance.{build_passed, build_says_lem}
use Rattle.rules.proofs.Demand.{demand_total, dangling_lost}
use Rattle.rules.proofs.Finished.{all_read, all_weak_read, edges-read, demand_read}
use Rattle.rules.proofs.Holders.{weak_hits}
use Rattle.rules.proofs.Used.{used_columns_lem, refused_left, zero_build}

module _ (x : Input) (r : Rooms) (b : BuildLeft) (left : b ≡ build_left x r) where
  says_are : b.says ≡ build_says x r
  unfolding build_left
  says_are = ap (λ (z : BuildLeft). z.says) left

  -- Demand 1: "a refused build leaves all lent output and work columns zero."
  pub refused_zero : accepts b.says ≡ false → b ≡ zero_build x r
  refused_zero h = left ∙ refused_left x r (ap accepts (sym says_are) ∙ h)

  module _ (ok : accepts b.says ≡ true) where
    accepted : accepts (build_says x r) ≡ true
    accepted = ap accepts (sym says_are) ∙ ok

    -- Demand 2: every object of the finished columns reads back, as exactly its edges by the rules.
    pub finished_reads : (o : ℕ) → o < object_count x → reads_back (used_columns (object_count x) b) o ≡ true
    finished_reads o l = rw (left, used_columns_lem x r accepted) (all_read x (build_passed x r accepted) o l)

    pub finished_weak : weak_reads (used_columns (object_count x) b) ≡ true
    finished_weak = rw (left, used_columns_lem x r accepted) (all_weak_read x (build_passed x r accepted))

    pub finished_edges : (o : ℕ) → o < object_count x → edges_read (used_columns (object_count x) b) o ≡ edges_of x o
    finished_edges o l = rw (left, used_columns_lem x r accepted) (edges-read x (build_passed x r accepted) o l)

    pub finished_roots : take (b.says ! 3) b.roots ≡ distinct_roots x
    unfolding counts build_left graph
    finished_roots =
        used_part (build_says x r) (distinct_roots x) b.roots r.roots (b.says ! 3) accepted (ap (λ (z : BuildLeft). z.roots) left)
        (sym (ap (λ (z : List ℕ). z ! 3) (says_are ∙ build_says_lem x r accepted)))

    pub finished_account : b.account ≡ account x
    unfolding build_left
    finished_account = ap (λ (z : BuildLeft). z.account) left ∙ ap (λ (a : Bool). cond a (account x) no_account) accepted

    -- how often t is among the targets of its edges and weak pairs, by the rules
    pub finished_reached : (o t : ℕ) → o < object_count x
        → reached (edges_read (used_columns (object_count x) b) o) (weak_read (used_columns (object_count x) b) o) t ≡ reached (edges_of x o) (weak_targets x o) t
    finished_reached o t l =
        rw (left, used_columns_lem x r accepted) (rw (edges-read x (build_passed x r accepted) o l, weak_hits x o t (build_passed x r accepted) l))

    -- Demand 3: what an object holds, counted from the input alone, is its edges read back from the finished columns, its weak pairs, and its ids that
    -- no object has; and the last number, summed, is the dangling count that the call returned.
    pub nothing-missing : (o : ℕ) → o < object_count x
        → held x o ≡ length (edges_read (used_columns (object_count x) b) o) + sum (λ i. one (eqb i o)) (used_columns (object_count x) b).weak_from + lost x o
    nothing-missing o l = rw (left, used_columns_lem x r accepted) (demand_read x (build_passed x r accepted) o l)

    pub dangling_counted : b.says ! 7 ≡ total (lost x) (object_count x)
    unfolding counts
    dangling_counted = ap (λ (z : List ℕ). z ! 7) (says_are ∙ build_says_lem x r accepted) ∙ dangling_lost x (build_passed x r accepted).sound

    pub all_counted : total (held x) (object_count x) ≡ b.says ! 1 + b.says ! 2 + b.says ! 7
    unfolding counts
    all_counted = rw (says_are ∙ build_says_lem x r accepted) (demand_total x (build_passed x r accepted))
