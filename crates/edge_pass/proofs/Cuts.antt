-- "The cuts don't show in the graph": two passes, one after the other, are one pass over both ranges. Assumes nothing.
use Prim.Native.Nat.{ℕ, suc, ◌+◌}
use native.Mathlib.Nat.{add-suc}
use native.Mathlib.Omega.{arith}
use mathlib.Core.Path.{◌≡◌, refl, sym, ap, ap₂, ◌∙◌}
use mathlib.Core.List.{List, [], ◌∷◌, ◌++◌, map}
use lib.Dec.{leb}
use lib.ListN.{length, length-append, length-map, replicate}
use Rattle.columns.specs.Lists.{◌!◌, collect, tab, total, sort}
use Rattle.columns.proofs.Lists.{tab-length}
use Rattle.columns.proofs.Sums.{map-append, collect_ext, total_ext, collect_cut, total_cut}
use Rattle.rules.specs.Input.{Input}
use Rattle.edge_append.specs.Append.{edges_among, weak_among, missing_among, edge_target, edge_label}
use Rattle.edge_append.specs.Object.{RefParts, together}
use Rattle.edge_append.specs.declared.Pass.{Pass}
use Rattle.edge_append.proofs.Appending.{sets_append}
use Rattle.edge_pass.specs.Walk.{edges_to, weak_to, from_to, missing_to, ends_to, Walked}
use Rattle.edge_pass.specs.Range.{parts_from}
use Rattle.edge_pass.proofs.Walks.{row_on, from-length, mark_kept}

-- The parts of the second range are those behind the first m.
module _ (ids : List ℕ) (p p' : ℕ → RefParts) (m : ℕ) (e : (i : ℕ) → p' i ≡ p (m + i)) where
  -- a list, or a number, of the parts of both ranges
  both : {A : Type 0} (f : RefParts → List A) (n : ℕ) → collect (λ i. f (p i)) (m + n) ≡ collect (λ i. f (p i)) m ++ collect (λ i. f (p' i)) n
  both f n = collect_cut (λ i. f (p i)) m n ∙ ap (λ l. collect (λ i. f (p i)) m ++ l) (collect_ext _ _ n (λ i l. ap f (sym (e i))))

  edges_both : (n : ℕ) → edges_to ids p (m + n) ≡ edges_to ids p m ++ edges_to ids p' n
  unfolding edges_to
  edges_both n = both (λ q. edges_among ids (together q)) n

  weak_both : (n : ℕ) → weak_to ids p (m + n) ≡ weak_to ids p m ++ weak_to ids p' n
  unfolding weak_to
  weak_both n = both (λ q. sort leb (weak_among ids (together q))) n

  from_both : (first n : ℕ) → from_to ids p first (m + n) ≡ from_to ids p first m ++ from_to ids p' (first + m) n
  unfolding from_to
  from_both first n =
      collect_cut (λ i. replicate (length (weak_among ids (together (p i)))) (first + i)) m n
      ∙ ap (λ l. collect (λ i. replicate (length (weak_among ids (together (p i)))) (first + i)) m ++ l)
      (collect_ext _ _ n (λ i l. let z : first + (m + i) ≡ first + m + i = omega arith in ap₂ (λ (q : RefParts) (o : ℕ). replicate (length (weak_among ids (together q))) o) (sym (e i)) z))

  missing_both : (n : ℕ) → missing_to ids p (m + n) ≡ missing_to ids p m + missing_to ids p' n
  unfolding missing_to
  missing_both n =
      total_cut (λ i. missing_among ids (together (p i))) m n
      ∙ ap (λ (k : ℕ). total (λ i. missing_among ids (together (p i))) m + k) (total_ext _ _ n (λ i l. ap (λ (q : RefParts). missing_among ids (together q)) (sym (e i))))

  ends_both : (from q n : ℕ) → q ≡ from + length (edges_to ids p m) → ends_to ids p from (m + n) ≡ ends_to ids p from m ++ ends_to ids p' q n
  unfolding ends_to tab
  ends_both from q n h =
      collect_cut (λ i. (from + length (edges_to ids p (suc i))) ∷ []) m n
      ∙ ap (λ l. collect (λ i. (from + length (edges_to ids p (suc i))) ∷ []) m ++ l) (collect_ext _ _ n (λ i l. ap (λ (k : ℕ). k ∷ []) (end i)))
    where
      end : (i : ℕ) → from + length (edges_to ids p (suc (m + i))) ≡ q + length (edges_to ids p' (suc i))
      end i = omega (arith, ap (λ (k : ℕ). length (edges_to ids p k)) (sym (add-suc m i)), ap length (edges_both (suc i)), length-append (edges_to ids p m) (edges_to ids p' (suc i)))

  ends-length : (from : ℕ) → length (ends_to ids p from m) ≡ m
  unfolding ends_to
  ends-length from = tab-length (λ i. from + length (edges_to ids p (suc i))) m

  module _
      {first n : ℕ} {s q u : Pass} {ts ls fs ws wk : List ℕ} {a : List (List ℕ)} {ts' ls' fs' ws' wk' : List ℕ} {a' : List (List ℕ)} {ts'' ls'' fs'' ws'' wk'' : List ℕ} {a'' : List (List ℕ)}
      (v : Walked ids p first m s q ts ls fs ws wk a ts' ls' fs' ws' wk' a') (w : Walked ids p' (first + m) n q u ts' ls' fs' ws' wk' a' ts'' ls'' fs'' ws'' wk'' a'')
    where
      pub walk_on : Walked ids p first (m + n) s u ts ls fs ws wk a ts'' ls'' fs'' ws'' wk'' a''
      walk_on =
          let es = edges_to ids p m in
          let es' = edges_to ids p' n in
          let at : first + m + 1 ≡ first + 1 + m = omega arith in
          record {
            targets = w.targets ∙ rw (v.targets, v.next, edges_both n, map-append edge_target es es') (sets_append ts (map edge_target es) (map edge_target es') s.edges (length es) (sym (length-map es edge_target)));
            labels = w.labels ∙ rw (v.labels, v.next, edges_both n, map-append edge_label es es') (sets_append ls (map edge_label es) (map edge_label es') s.edges (length es) (sym (length-map es edge_label)));
            objects = w.objects ∙ rw (v.objects, v.next_weak, from_both first n) (sets_append fs (from_to ids p first m) (from_to ids p' (first + m) n) s.weak (length (weak_to ids p m)) (sym (from-length ids p first m)));
            weaks = w.weaks ∙ rw (v.weaks, v.next_weak, weak_both n) (sets_append ws (weak_to ids p m) (weak_to ids p' n) s.weak (length (weak_to ids p m)) refl);
            ends = w.ends ∙ rw (v.ends, at, ends_both s.edges q.edges n v.next) (sets_append wk (ends_to ids p s.edges m) (ends_to ids p' q.edges n) (first + 1) m (sym (ends-length s.edges)));
            next = rw (edges_both n) (omega (arith, v.next, w.next, length-append es es'));
            next_weak = rw (weak_both n) (omega (arith, v.next_weak, w.next_weak, length-append (weak_to ids p m) (weak_to ids p' n)));
            lost = omega (arith, v.lost, w.lost, missing_both n);
            slots = rw (both (λ o. o.slots) n) (row_on v.slots w.slots);
            elements = rw (both (λ o. o.elements) n) (row_on v.elements w.elements);
            statics = rw (both (λ o. o.statics) n) (row_on v.statics w.statics);
            loaders = rw (both (λ o. o.loaders) n) (row_on v.loaders w.loaders);
            table = λ t. w.table (v.table t);
          }

same_parts : (x : Input) (first m : ℕ) (wk wk' : List ℕ) → ((i : ℕ) → wk' ! (first + m + i + 1) ≡ wk ! (first + m + i + 1)) → (i : ℕ) → parts_from x wk' (first + m) i ≡ parts_from x wk first (m + i)
unfolding parts_from
same_parts x first m wk wk' h i =
    let z : first + (m + i) ≡ first + m + i = omega arith in
    rw (z, h i)

-- A pass that goes on where another ended finds the marks of its objects as they were.
pub cut_range : {ids : List ℕ} (x : Input) {first m n : ℕ} {s q u : Pass} {ts ls fs ws wk : List ℕ} {a : List (List ℕ)} {ts' ls' fs' ws' wk' : List ℕ} {a' : List (List ℕ)} {ts'' ls'' fs'' ws'' wk'' : List ℕ} {a'' : List (List ℕ)}
    → Walked ids (parts_from x wk first) first m s q ts ls fs ws wk a ts' ls' fs' ws' wk' a' → Walked ids (parts_from x wk' (first + m)) (first + m) n q u ts' ls' fs' ws' wk' a' ts'' ls'' fs'' ws'' wk'' a''
    → Walked ids (parts_from x wk first) first (m + n) s u ts ls fs ws wk a ts'' ls'' fs'' ws'' wk'' a''
cut_range {ids} x {first} {m} {wk = wk} {wk' = wk'} v w = walk_on ids (parts_from x wk first) (parts_from x wk' (first + m)) m (same_parts x first m wk wk' (λ i. mark_kept (parts_from x wk first) v (first + m + i + 1) (omega arith))) v w
