-- A pass over a range, one object more. Assumes nothing.
use Prim.Native.Nat.{ℕ, zero, suc, ◌+◌, ◌≤◌, ◌<◌}
use native.Mathlib.Nat.{add-zero}
use native.Mathlib.Numerals.{add-one}
use native.Mathlib.Omega.{arith}
use mathlib.Core.Path.{◌≡◌, refl, sym, ap, ◌∙◌}
use mathlib.Core.List.{List, [], ◌∷◌, ◌++◌, map}
use lib.Dec.{leb}
use lib.ListN.{length, length-append, length-map, length-replicate, set, replicate}
use lib.Seq.{sets, length-sets, get_or-set_other}
use Rattle.columns.specs.Lists.{◌!◌, tab, sort}
use Rattle.columns.proofs.Lists.{tab-length}
use Rattle.columns.proofs.Sums.{map-append, length-collect, total_mono}
use Rattle.sort.proofs.Sorted.{sort-length}
use Rattle.rules.specs.Edges.{Ref, Edge}
use Rattle.edge_append.specs.Append.{edges_among, weak_among, missing_among, edge_target, edge_label}
use Rattle.edge_append.specs.Account.{row, row_with, RowIn, AccountIn, account_with}
use Rattle.edge_append.specs.Object.{RefParts, together, ObjectReady, Done}
use Rattle.edge_pass.specs.Walk.{edges_to, weak_to, from_to, missing_to, ends_to, cells, RowGrown, Walked, WalkRoom}
use Rattle.edge_append.specs.declared.Pass.{Pass}
use Rattle.edge_append.proofs.Appending.{sets_append, edges-append, weak-append, missing-append}

pub row_same : {ids r : List ℕ} → RowGrown ids r r []
unfolding edges_among weak_among missing_among
row_same = record { edges = sym (add-zero _); weak = sym (add-zero _); missing = sym (add-zero _) }

row-with : (ids r : List ℕ) (rs : List Ref) → RowGrown ids r (row_with ids r rs) rs
unfolding row_with
row-with ids r rs = record { edges = refl; weak = refl; missing = refl }

pub row_on : {ids r r' r'' : List ℕ} {rs qs : List Ref} → RowGrown ids r r' rs → RowGrown ids r' r'' qs → RowGrown ids r r'' (rs ++ qs)
row_on {ids} {rs = rs} {qs = qs} g h = record {
  edges = rw (edges-append ids rs qs) (omega (arith, g.edges, h.edges, length-append (edges_among ids rs) (edges_among ids qs)));
  weak = rw (weak-append ids rs qs) (omega (arith, g.weak, h.weak, length-append (weak_among ids rs) (weak_among ids qs)));
  missing = omega (arith, g.missing, h.missing, missing-append ids rs qs);
}

pub walk_none : {ids : List ℕ} (p : ℕ → RefParts) {first : ℕ} {s : Pass} {ts ls fs ws wk : List ℕ} {a : List (List ℕ)} → Walked ids p first 0 s s ts ls fs ws wk a ts ls fs ws wk a
unfolding edges_to weak_to from_to missing_to ends_to tab
walk_none p = record {
  targets = refl;
  labels = refl;
  objects = refl;
  weaks = refl;
  ends = refl;
  next = sym (add-zero _);
  next_weak = sym (add-zero _);
  lost = sym (add-zero _);
  slots = row_same;
  elements = row_same;
  statics = row_same;
  loaders = row_same;
  table = λ e. e;
}

-- as many numbers as targets
pub from-length : (ids : List ℕ) (p : ℕ → RefParts) (first n : ℕ) → length (from_to ids p first n) ≡ length (weak_to ids p n)
unfolding from_to weak_to
from-length ids p first zero = refl
from-length ids p first (suc n) =
    let vs = weak_among ids (together (p n)) in
    length-append (from_to ids p first n) (replicate (length vs) (first + n))
    ∙ omega (arith, from-length ids p first n, length-replicate (length vs) (first + n), sort-length vs, length-append (weak_to ids p n) (sort leb vs))

-- where the object's edges end is written behind the ends before
ends_more : (ids : List ℕ) (p : ℕ → RefParts) (first n e : ℕ) (wk : List ℕ) {wk' : List ℕ} {u : ℕ} → wk' ≡ sets wk (first + 1) (ends_to ids p e n) → u ≡ e + length (edges_to ids p (suc n))
    → set wk' (first + n + 1) u ≡ sets wk (first + 1) (ends_to ids p e (suc n))
unfolding ends_to tab
ends_more ids p first n e wk w h =
    let at : first + n + 1 ≡ first + 1 + n = omega arith in
    let us = ends_to ids p e n in
    rw (w, at, h) (sets_append wk us ((e + length (edges_to ids p (suc n))) ∷ []) (first + 1) n (sym (tab-length (λ i. e + length (edges_to ids p (suc i))) n)))

module _
    {ids : List ℕ} (p : ℕ → RefParts) {first n : ℕ} {s q : Pass} {ts ls fs ws wk : List ℕ} {a : List (List ℕ)} {ts' ls' fs' ws' wk' : List ℕ} {a' : List (List ℕ)}
    (w : Walked ids p first n s q ts ls fs ws wk a ts' ls' fs' ws' wk' a')
  where
    pub walk_more : {u : Pass} {ts'' ls'' fs'' ws'' wk'' : List ℕ} {a'' : List (List ℕ)} → Done ids (p n) (first + n) q u ts' ls' fs' ws' a' ts'' ls'' fs'' ws'' a''
        → wk'' ≡ set wk' (first + n + 1) u.edges → Walked ids p first (n + 1) s u ts ls fs ws wk a ts'' ls'' fs'' ws'' wk'' a''
    unfolding edges_to weak_to from_to missing_to account_with row_with cells
    walk_more {u} d o =
        let es = edges_to ids p n in
        let fresh = edges_among ids (together (p n)) in
        let vs = weak_among ids (together (p n)) in
        let next : u.edges ≡ s.edges + length (es ++ fresh) = omega (arith, w.next, d.object.next, length-append es fresh) in
        rw (add-one n)
        (record {
          targets = d.object.targets ∙ rw (w.targets, w.next, map-append edge_target es fresh) (sets_append ts (map edge_target es) (map edge_target fresh) s.edges (length es) (sym (length-map es edge_target)));
          labels = d.object.labels ∙ rw (w.labels, w.next, map-append edge_label es fresh) (sets_append ls (map edge_label es) (map edge_label fresh) s.edges (length es) (sym (length-map es edge_label)));
          objects = d.object.objects ∙ rw (w.objects, w.next_weak) (sets_append fs (from_to ids p first n) (replicate (length vs) (first + n)) s.weak (length (weak_to ids p n)) (sym (from-length ids p first n)));
          weaks = d.object.weaks ∙ rw (w.weaks, w.next_weak) (sets_append ws (weak_to ids p n) (sort leb vs) s.weak (length (weak_to ids p n)) refl);
          ends = o ∙ ends_more ids p first n s.edges wk w.ends next;
          next = next;
          next_weak = omega (arith, w.next_weak, d.object.next_weak, sort-length vs, length-append (weak_to ids p n) (sort leb vs));
          lost = omega (arith, w.lost, d.object.lost);
          slots = row_on w.slots (rw d.account (row-with ids (row a' 0) (p n).slots));
          elements = row_on w.elements (rw d.account (row-with ids (row a' 1) (p n).elements));
          statics = row_on w.statics (rw d.account (row-with ids (row a' 2) (p n).statics));
          loaders = row_on w.loaders (rw d.account (row-with ids (row a' 3) (p n).loaders));
          table = λ e. rw d.account;
        })

-- Room for a range is room for each of its objects.
module _ (ids : List ℕ) (p : ℕ → RefParts) (k n : ℕ) (h : k < n) where
  edges_fit : length (edges_to ids p k) + length (edges_among ids (together (p k))) ≤ length (edges_to ids p n)
  unfolding edges_to
  edges_fit =
      let f : ℕ → List Edge = λ i. edges_among ids (together (p i)) in
      rw (length-collect f k, length-collect f n) (total_mono (λ i. length (f i)) n k h)

  weak_fit : length (weak_to ids p k) + length (weak_among ids (together (p k))) ≤ length (weak_to ids p n)
  unfolding weak_to
  weak_fit =
      let f : ℕ → List ℕ = λ i. sort leb (weak_among ids (together (p i))) in
      let m = total_mono (λ i. length (f i)) n k h in
      omega (arith, m, length-collect f k, length-collect f n, sort-length (weak_among ids (together (p k))))

  missing_fit : missing_to ids p k + missing_among ids (together (p k)) ≤ missing_to ids p n
  unfolding missing_to
  missing_fit = total_mono (λ i. missing_among ids (together (p i))) n k h

pub walk_ready : {ids : List ℕ} (p : ℕ → RefParts) {first k : ℕ} {s q : Pass} {ts ls fs ws wk : List ℕ} {a : List (List ℕ)} {ts' ls' fs' ws' wk' : List ℕ} {a' : List (List ℕ)}
    → Walked ids p first k s q ts ls fs ws wk a ts' ls' fs' ws' wk' a' → {n : ℕ} → WalkRoom ids p n s (length ts) (length ls) (length fs) (length ws) → k < n → AccountIn a' q
    → ObjectReady ids (p k) q (length ts') (length ls') (length fs') (length ws') a'
walk_ready {ids} p {first} {k} {s} {q} {ts} {ls} {fs} {ws} w {n} r h i =
    let e = edges_fit ids p k n h in
    let v = weak_fit ids p k n h in
    record {
      room = record {
        rising = r.rising;
        few = r.few;
        targets = omega (arith, e, w.next, r.targets, ap length w.targets, length-sets ts s.edges (map edge_target (edges_to ids p k)));
        labels = omega (arith, e, w.next, r.labels, ap length w.labels, length-sets ls s.edges (map edge_label (edges_to ids p k)));
        weaks = omega (arith, v, w.next_weak, r.weaks, ap length w.weaks, length-sets ws s.weak (weak_to ids p k));
        missing = omega (arith, missing_fit ids p k n h, w.lost, r.missing);
      };
      objects = omega (arith, v, w.next_weak, r.objects, ap length w.objects, length-sets fs s.weak (from_to ids p first k));
      account = i;
    }

-- The account of an object stays within the state.
module _ (ids : List ℕ) (p : RefParts) where
  edges-four : length (edges_among ids (together p)) ≡ length (edges_among ids p.slots) + (length (edges_among ids p.elements) + (length (edges_among ids p.statics) + length (edges_among ids p.loaders)))
  unfolding together
  edges-four =
      rw (edges-append ids p.slots (p.elements ++ (p.statics ++ p.loaders)), edges-append ids p.elements (p.statics ++ p.loaders), edges-append ids p.statics p.loaders)
      (length-append (edges_among ids p.slots) _ ∙ ap (λ (n : ℕ). length (edges_among ids p.slots) + n) (length-append (edges_among ids p.elements) _ ∙ ap (λ (n : ℕ). length (edges_among ids p.elements) + n) (length-append (edges_among ids p.statics) (edges_among ids p.loaders))))

  weak-four : length (weak_among ids (together p)) ≡ length (weak_among ids p.slots) + (length (weak_among ids p.elements) + (length (weak_among ids p.statics) + length (weak_among ids p.loaders)))
  unfolding together
  weak-four =
      rw (weak-append ids p.slots (p.elements ++ (p.statics ++ p.loaders)), weak-append ids p.elements (p.statics ++ p.loaders), weak-append ids p.statics p.loaders)
      (length-append (weak_among ids p.slots) _ ∙ ap (λ (n : ℕ). length (weak_among ids p.slots) + n) (length-append (weak_among ids p.elements) _ ∙ ap (λ (n : ℕ). length (weak_among ids p.elements) + n) (length-append (weak_among ids p.statics) (weak_among ids p.loaders))))

  missing-four : missing_among ids (together p) ≡ missing_among ids p.slots + (missing_among ids p.elements + (missing_among ids p.statics + missing_among ids p.loaders))
  unfolding together
  missing-four = omega (arith, missing-append ids p.slots (p.elements ++ (p.statics ++ p.loaders)), missing-append ids p.elements (p.statics ++ p.loaders), missing-append ids p.statics p.loaders)

  row_within : (r : List ℕ) {s q : Pass} (rs : List Ref) → RowIn r s → s.edges + length (edges_among ids rs) ≤ q.edges → s.weak + length (weak_among ids rs) ≤ q.weak → s.missing + missing_among ids rs ≤ q.missing → RowIn (row_with ids r rs) q
  unfolding row_with
  row_within r rs h e w m = record { edges = omega (arith, h.edges); weak = omega (arith, h.weak); missing = omega (arith, h.missing) }

pub done-account : {ids : List ℕ} {p : RefParts} {o : ℕ} {s q : Pass} {ts ls fs ws : List ℕ} {a : List (List ℕ)} {ts' ls' fs' ws' : List ℕ} {a' : List (List ℕ)}
    → Done ids p o s q ts ls fs ws a ts' ls' fs' ws' a' → AccountIn a s → AccountIn a' q
unfolding account_with
done-account {ids} {p} {a = a} d i =
    let e = edges-four ids p in
    let v = weak-four ids p in
    let m = missing-four ids p in
    let b = d.object in
    rw d.account
    (record {
      slots = row_within ids p (row a 0) p.slots i.slots (omega (arith, e, b.next)) (omega (arith, v, b.next_weak)) (omega (arith, m, b.lost));
      elements = row_within ids p (row a 1) p.elements i.elements (omega (arith, e, b.next)) (omega (arith, v, b.next_weak)) (omega (arith, m, b.lost));
      statics = row_within ids p (row a 2) p.statics i.statics (omega (arith, e, b.next)) (omega (arith, v, b.next_weak)) (omega (arith, m, b.lost));
      loaders = row_within ids p (row a 3) p.loaders i.loaders (omega (arith, e, b.next)) (omega (arith, v, b.next_weak)) (omega (arith, m, b.lost));
    })

-- The marks of the objects that are still to come stand as they were.
sets_beyond : (l us : List ℕ) (i j : ℕ) → i + length us ≤ j → sets l i us ! j ≡ l ! j
sets_beyond l [] i j h = refl
sets_beyond l (u ∷ us) i j h = sets_beyond (set l i u) us (suc i) j (omega arith) ∙ get_or-set_other l i j u 0 (λ e. omega arith)

pub mark_kept : {ids : List ℕ} (p : ℕ → RefParts) {first k : ℕ} {s q : Pass} {ts ls fs ws wk : List ℕ} {a : List (List ℕ)} {ts' ls' fs' ws' wk' : List ℕ} {a' : List (List ℕ)}
    → Walked ids p first k s q ts ls fs ws wk a ts' ls' fs' ws' wk' a' → (j : ℕ) → first + k < j → wk' ! j ≡ wk ! j
unfolding ends_to
mark_kept {ids} p {first} {k} {s} {wk = wk} w j h =
    ap (λ (l : List ℕ). l ! j) w.ends ∙ sets_beyond wk (ends_to ids p s.edges k) (first + 1) j (omega (arith, tab-length (λ i. s.edges + length (edges_to ids p (suc i))) k))
