-- Appending goes on where it ended, and room for a whole list is room for each part of it. Assumes nothing.
use Prim.Native.Nat.{ℕ, suc, ◌+◌, ◌-◌, ◌<◌}
use native.Mathlib.Nat.{add-zero}
use native.Mathlib.Numerals.{add-one}
use native.Mathlib.Omega.{arith}
use mathlib.Core.Path.{◌≡◌, refl, sym, ap, ◌∙◌}
use mathlib.Core.List.{List, [], ◌∷◌, ◌++◌, map}
use lib.ListN.{length, length-append, length-map}
use lib.Seq.{length-sets}
use Rattle.columns.specs.Lists.{collect, tab}
use Rattle.columns.proofs.Sums.{flat_append, map-append, sum-append, collect_cut}
use Rattle.rules.specs.Edges.{Ref, ref_edge, ref_weak, ref_missing}
use Rattle.edge_append.specs.Append.{edges_among, weak_among, missing_among, edge_target, edge_label, EdgeRoom, Appended}
use Rattle.edge_append.specs.declared.Pass.{Pass}
pub use Rattle.edge_weak.proofs.Filled.{sets_append}

-- What two lists come to, one after the other.
module _ (ids : List ℕ) (rs qs : List Ref) where
  pub edges-append : edges_among ids (rs ++ qs) ≡ edges_among ids rs ++ edges_among ids qs
  unfolding edges_among
  edges-append = flat_append (ref_edge ids) rs qs

  pub weak-append : weak_among ids (rs ++ qs) ≡ weak_among ids rs ++ weak_among ids qs
  unfolding weak_among
  weak-append = flat_append (ref_weak ids) rs qs

  pub missing-append : missing_among ids (rs ++ qs) ≡ missing_among ids rs + missing_among ids qs
  unfolding missing_among
  missing-append = sum-append (ref_missing ids) rs qs

pub appended_none : {ids : List ℕ} {s : Pass} {ts ls ws : List ℕ} → Appended ids [] s s ts ls ws ts ls ws
unfolding edges_among weak_among missing_among
appended_none = record { targets = refl; labels = refl; weaks = refl; next = sym (add-zero _); next_weak = sym (add-zero _); lost = sym (add-zero _) }

module _ {ids : List ℕ} {rs : List Ref} {s q : Pass} {ts ls ws ts' ls' ws' : List ℕ} (a : Appended ids rs s q ts ls ws ts' ls' ws') where
  pub appended_on : {qs : List Ref} {u : Pass} {ts'' ls'' ws'' : List ℕ} → Appended ids qs q u ts' ls' ws' ts'' ls'' ws'' → Appended ids (rs ++ qs) s u ts ls ws ts'' ls'' ws''
  appended_on {qs} {u} b =
      let es = edges_among ids rs in
      let fs = edges_among ids qs in
      record {
        targets = b.targets ∙ rw (a.targets, a.next, edges-append ids rs qs, map-append edge_target es fs) (sets_append ts (map edge_target es) (map edge_target fs) s.edges (length es) (sym (length-map es edge_target)));
        labels = b.labels ∙ rw (a.labels, a.next, edges-append ids rs qs, map-append edge_label es fs) (sets_append ls (map edge_label es) (map edge_label fs) s.edges (length es) (sym (length-map es edge_label)));
        weaks = b.weaks ∙ rw (a.weaks, a.next_weak, weak-append ids rs qs) (sets_append ws (weak_among ids rs) (weak_among ids qs) s.weak (length (weak_among ids rs)) refl);
        next = rw (edges-append ids rs qs) (omega (arith, a.next, b.next, length-append es fs));
        next_weak = rw (weak-append ids rs qs) (omega (arith, a.next_weak, b.next_weak, length-append (weak_among ids rs) (weak_among ids qs)));
        lost = omega (arith, a.lost, b.lost, missing-append ids rs qs);
      }

  pub same_targets : length ts' ≡ length ts
  same_targets = ap length a.targets ∙ length-sets ts s.edges (map edge_target (edges_among ids rs))

  pub same-labels : length ls' ≡ length ls
  same-labels = ap length a.labels ∙ length-sets ls s.edges (map edge_label (edges_among ids rs))

  pub same-weak : length ws' ≡ length ws
  same-weak = ap length a.weaks ∙ length-sets ws s.weak (weak_among ids rs)

  pub room_rest : {qs : List Ref} → EdgeRoom ids (rs ++ qs) s (length ts) (length ls) (length ws) → EdgeRoom ids qs q (length ts') (length ls') (length ws')
  room_rest {qs} m =
      let es = edges_among ids rs in
      let fs = edges_among ids qs in
      record {
        rising = m.rising;
        few = m.few;
        targets = omega (arith, same_targets, a.next, m.targets, ap length (edges-append ids rs qs), length-append es fs);
        labels = omega (arith, same-labels, a.next, m.labels, ap length (edges-append ids rs qs), length-append es fs);
        weaks = omega (arith, same-weak, a.next_weak, m.weaks, ap length (weak-append ids rs qs), length-append (weak_among ids rs) (weak_among ids qs));
        missing = omega (arith, a.lost, m.missing, missing-append ids rs qs);
      }

pub room_first : {ids : List ℕ} {rs : List Ref} (qs : List Ref) {s : Pass} {nt nl nw : ℕ} → EdgeRoom ids (rs ++ qs) s nt nl nw → EdgeRoom ids rs s nt nl nw
room_first {ids} {rs} qs m = record {
  rising = m.rising;
  few = m.few;
  targets = omega (arith, m.targets, ap length (edges-append ids rs qs), length-append (edges_among ids rs) (edges_among ids qs));
  labels = omega (arith, m.labels, ap length (edges-append ids rs qs), length-append (edges_among ids rs) (edges_among ids qs));
  weaks = omega (arith, m.weaks, ap length (weak-append ids rs qs), length-append (weak_among ids rs) (weak_among ids qs));
  missing = omega (arith, m.missing, missing-append ids rs qs);
}

-- The first k of n parts, and the next.
module _ (f : ℕ → List Ref) where
  module _ {ids : List ℕ} {s q : Pass} {ts ls ws ts' ls' ws' : List ℕ} (k : ℕ) (a : Appended ids (collect f k) s q ts ls ws ts' ls' ws') where
    pub more_parts : {u : Pass} {ts'' ls'' ws'' : List ℕ} → Appended ids (f k) q u ts' ls' ws' ts'' ls'' ws'' → Appended ids (collect f (k + 1)) s u ts ls ws ts'' ls'' ws''
    more_parts b = rw (add-one k) (appended_on a b)

    pub room_part : (n : ℕ) → k < n → EdgeRoom ids (collect f n) s (length ts) (length ls) (length ws) → EdgeRoom ids (f k) q (length ts') (length ls') (length ws')
    room_part n h m =
        let e : n ≡ suc k + (n - suc k) = omega arith in
        room_rest a (room_first (collect (λ i. f (suc k + i)) (n - suc k)) (rw (← collect_cut f (suc k) (n - suc k), ← e) m))

  pub parts-end : {ids : List ℕ} {s q : Pass} {ts ls ws ts' ls' ws' : List ℕ} (k n : ℕ) → k ≡ n → Appended ids (collect f k) s q ts ls ws ts' ls' ws' → Appended ids (collect f n) s q ts ls ws ts' ls' ws'
  parts-end k n e a = rw (← e) a

-- The same where each part is one reference, however it is written.
module _ (g : ℕ → Ref) where
  pub tab_none : {ids : List ℕ} {s : Pass} {ts ls ws : List ℕ} → Appended ids (tab g 0) s s ts ls ws ts ls ws
  unfolding tab
  tab_none = appended_none

  module _ {ids : List ℕ} {s q : Pass} {ts ls ws ts' ls' ws' : List ℕ} (k : ℕ) (a : Appended ids (tab g k) s q ts ls ws ts' ls' ws') {r : Ref} (e : r ≡ g k) where
    pub tab_more : {u : Pass} {ts'' ls'' ws'' : List ℕ} → Appended ids (r ∷ []) q u ts' ls' ws' ts'' ls'' ws'' → Appended ids (tab g (k + 1)) s u ts ls ws ts'' ls'' ws''
    unfolding tab
    tab_more b = more_parts (λ i. g i ∷ []) k a (rw (← e) b)

    pub tab_room : (n : ℕ) → k < n → EdgeRoom ids (tab g n) s (length ts) (length ls) (length ws) → EdgeRoom ids (r ∷ []) q (length ts') (length ls') (length ws')
    unfolding tab
    tab_room n h m = rw e (room_part (λ i. g i ∷ []) k a n h m)

  pub tab-end : {ids : List ℕ} {s q : Pass} {ts ls ws ts' ls' ws' : List ℕ} (k n : ℕ) → k ≡ n → Appended ids (tab g k) s q ts ls ws ts' ls' ws' → Appended ids (tab g n) s q ts ls ws ts' ls' ws'
  unfolding tab
  tab-end = parts-end (λ i. g i ∷ [])
