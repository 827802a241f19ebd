-- A pass over a range of an input: what its next object is ready for, and the pass with that object. Assumes nothing.
use Prim.Native.Nat.{ℕ, ◌+◌, ◌<◌}
use native.Mathlib.Omega.{arith}
use mathlib.Core.Path.{◌≡◌, ap, ◌∙◌}
use mathlib.Core.List.{List, map}
use lib.ListN.{length, set}
use lib.Seq.{length-sets}
use Rattle.columns.specs.Lists.{◌!◌}
use Rattle.rules.specs.Input.{Input}
use Rattle.edge_append.specs.Append.{edge_target, edge_label}
use Rattle.edge_append.specs.Account.{AccountIn}
use Rattle.edge_append.specs.Object.{RefParts, ObjectReady, Done}
use Rattle.edge_append.specs.declared.Pass.{Pass}
use Rattle.edge_pass.specs.Walk.{edges_to, weak_to, from_to, ends_to, Walked, WalkRoom}
use Rattle.edge_pass.specs.Range.{ref_parts_of, parts_from, ObjectIn}
use Rattle.edge_pass.proofs.Walks.{walk_more, walk_ready, mark_kept, done-account}

-- The columns keep their lengths.
module _
    {ids : List ℕ} {p : ℕ → RefParts} {first n : ℕ} {s q : Pass} {ts ls fs ws wk : List ℕ} {a : List (List ℕ)} {ts' ls' fs' ws' wk' : List ℕ} {a' : List (List ℕ)}
    (w : Walked ids p first n s q ts ls fs ws wk a ts' ls' fs' ws' wk' a')
  where
    pub walked_targets : length ts' ≡ length ts
    walked_targets = ap length w.targets ∙ length-sets ts s.edges (map edge_target (edges_to ids p n))

    pub walked_labels : length ls' ≡ length ls
    walked_labels = ap length w.labels ∙ length-sets ls s.edges (map edge_label (edges_to ids p n))

    pub walked_objects : length fs' ≡ length fs
    walked_objects = ap length w.objects ∙ length-sets fs s.weak (from_to ids p first n)

    pub walked_weak : length ws' ≡ length ws
    walked_weak = ap length w.weaks ∙ length-sets ws s.weak (weak_to ids p n)

    pub walked_working : length wk' ≡ length wk
    walked_working = ap length w.ends ∙ length-sets wk (first + 1) (ends_to ids p s.edges n)

pub walk_end : {ids : List ℕ} {p : ℕ → RefParts} {first k n : ℕ} {s q : Pass} {ts ls fs ws wk : List ℕ} {a : List (List ℕ)} {ts' ls' fs' ws' wk' : List ℕ} {a' : List (List ℕ)}
    → k ≡ n → Walked ids p first k s q ts ls fs ws wk a ts' ls' fs' ws' wk' a' → Walked ids p first n s q ts ls fs ws wk a ts' ls' fs' ws' wk' a'
walk_end e w = rw (← e) w

module _
    {ids : List ℕ} (x : Input) {first k : ℕ} {s q : Pass} {ts ls fs ws wk : List ℕ} {a : List (List ℕ)} {ts' ls' fs' ws' wk' : List ℕ} {a' : List (List ℕ)}
    (w : Walked ids (parts_from x wk first) first k s q ts ls fs ws wk a ts' ls' fs' ws' wk' a')
  where
    same_mark : wk' ! (first + k + 1) ≡ wk ! (first + k + 1)
    same_mark = mark_kept (parts_from x wk first) w (first + k + 1) (omega arith)

    pub object_now : ObjectIn x wk (first + k) → ObjectIn x wk' (first + k)
    object_now h = record {
      few = h.few;
      kind = h.kind;
      class = h.class;
      count = h.count;
      offset = omega (arith, h.offset, walked_working w);
      part = h.part;
      statics = rw same_mark h.statics;
      loader = rw same_mark h.loader;
    }

    pub ready_now : {n : ℕ} → WalkRoom ids (parts_from x wk first) n s (length ts) (length ls) (length fs) (length ws) → k < n → AccountIn a' q
        → ObjectReady ids (ref_parts_of x x.route (first + k) (wk' ! (first + k + 1))) q (length ts') (length ls') (length fs') (length ws') a'
    unfolding parts_from
    ready_now r h i = rw same_mark (walk_ready (parts_from x wk first) w r h i)

    pub step_more : {u : Pass} {ts'' ls'' fs'' ws'' wk'' : List ℕ} {a'' : List (List ℕ)}
        → Done ids (ref_parts_of x x.route (first + k) (wk' ! (first + k + 1))) (first + k) q u ts' ls' fs' ws' a' ts'' ls'' fs'' ws'' a'' → wk'' ≡ set wk' (first + k + 1) u.edges
        → AccountIn a' q → Walked ids (parts_from x wk first) first (k + 1) s u ts ls fs ws wk a ts'' ls'' fs'' ws'' wk'' a'' × AccountIn a'' u
    unfolding parts_from
    step_more d e i = (walk_more (parts_from x wk first) w (rw same_mark at d) e, done-account d i)
