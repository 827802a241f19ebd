-- A run of the weak columns: the object's number at each place, and the targets sorted where they were appended. Assumes nothing.
use Prim.Native.Nat.{ℕ, ◌+◌, ◌-◌, ◌≤◌}
use native.Mathlib.Omega.{arith}
use mathlib.Core.Path.{◌≡◌, refl, sym, ap, ◌∙◌}
use mathlib.Core.List.{List, ◌++◌, append_assoc}
use lib.Dec.{leb}
use lib.ListN.{length, length-append, take, drop, replicate}
use lib.Seq.{sets, sets-eq, take_at, drop_at, length-take-le}
use Rattle.columns.specs.Lists.{sort}
use Rattle.sort.specs.Order.{sort_run}
use Rattle.sort.proofs.Sorted.{sort-length}
use Rattle.rules.specs.Edges.{Ref}
use Rattle.edge_append.specs.Append.{weak_among, Appended}
use Rattle.edge_append.specs.Object.{PairsSettled, Object}
use Rattle.edge_append.specs.declared.Pass.{Pass}

-- What was written and is then sorted is as if it had been written sorted.
pub run_sorted : (vs ws : List ℕ) (s : ℕ) → s + length vs ≤ length ws → sort_run (sets ws s vs) s (s + length vs) ≡ sets ws s (sort leb vs)
unfolding sort_run
run_sorted vs ws s h =
    let n = length vs in
    let rest = drop (s + n) ws in
    let front = length-take-le s ws (omega arith) in
    let d : sets ws s vs ≡ take s ws ++ (vs ++ rest) = sets-eq vs ws s h ∙ append_assoc (take s ws) vs rest in
    let long : length (sort leb vs) ≡ n = sort-length vs in
    let count : s + n - s ≡ n = omega arith in
    rw (d, take_at (take s ws) (vs ++ rest) s front, drop_at (take s ws) (vs ++ rest) s front, count, take_at vs rest n refl)
    (ap (λ (l : List ℕ). take s ws ++ (sort leb vs ++ l)) (ap (drop (s + n)) (sym (append_assoc (take s ws) vs rest)) ∙ drop_at (take s ws ++ vs) rest (s + n) (length-append (take s ws) vs ∙ ap (λ (k : ℕ). k + n) front))
    ∙ sym (append_assoc (take s ws) (sort leb vs) rest)
    ∙ sym (sets-eq (sort leb vs) ws s (omega arith) ∙ ap (λ (k : ℕ). take s ws ++ sort leb vs ++ drop (s + k) ws) long))

-- References appended and their weak targets settled are the object's.
pub object_done : {ids : List ℕ} {rs : List Ref} {o : ℕ} {s q : Pass} {ts ls fs ws ts' ls' fs' ws' ws'' : List ℕ} → Appended ids rs s q ts ls ws ts' ls' ws'
    → PairsSettled o s.weak q.weak fs ws' fs' ws'' → s.weak + length (weak_among ids rs) ≤ length ws → Object ids rs o s q ts ls fs ws ts' ls' fs' ws''
object_done {ids} {rs} {o} {s} {q} {fs = fs} {ws = ws} a b h =
    let count : q.weak - s.weak ≡ length (weak_among ids rs) = omega (arith, a.next_weak) in
    record {
      targets = a.targets;
      labels = a.labels;
      objects = b.objects ∙ ap (λ (n : ℕ). sets fs s.weak (replicate n o)) count;
      weaks = b.sorted ∙ rw (a.weaks, a.next_weak) (run_sorted (weak_among ids rs) ws s.weak h);
      next = a.next;
      next_weak = a.next_weak;
      lost = a.lost;
    }
