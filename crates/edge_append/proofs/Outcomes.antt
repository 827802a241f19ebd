-- What becomes of one reference, by the tests that decide it, and what it appends. Assumes nothing.
use Prim.Native.Nat.{ℕ, zero, suc, ◌+◌, ◌^◌, ◌≤◌, ◌<◌}
use native.Mathlib.Nat.{add-zero}
use native.Mathlib.Omega.{arith}
use mathlib.Core.Path.{◌≡◌, refl, sym, ap, ◌∙◌}
use mathlib.Core.Bool.{Bool, true, false}
use mathlib.Core.List.{List, [], ◌∷◌, map, append-nil}
use mathlib.Core.Option.{Option, some, none}
use borrow.Author.Tests.{eq-eqb, ne_eqb}
use lib.ListN.{length, set}
use lib.Seq.{sets}
use Rattle.columns.specs.Lists.{find}
use Rattle.columns.specs.Ranks.{rank}
use Rattle.lookup.specs.Lookup.{lookup_of, placed}
use Rattle.std.specs.Prelude.{Result, Ok, Err}
use Rattle.rules.specs.Edges.{Ref, Outcome, edge, weak, missing, nothing, absent, outcome, edge_of, weak_of, missing_of}
use Rattle.edge_append.specs.Append.{kind_of, ref_of, edges_among, weak_among, missing_among, edge_target, edge_label, with_edge, with_weak, with_missing, EdgeRoom, Appended}
use Rattle.edge_append.specs.declared.Pass.{Pass}

pub record Becomes (ids : List ℕ) (r : Ref) (u : Outcome) : Type 0 where
  pub told : outcome ids r ≡ u

-- What the lookup answers, as the rules have it.
abbrev answered : Result ℕ ℕ → Option ℕ
answered (Ok i) = some i
answered (Err p) = none

answered-placed : (f : Option ℕ) (p : ℕ) → answered (placed f p) ≡ f
answered-placed (some i) p = refl
answered-placed none p = refl

found_as : (ids : List ℕ) (id : ℕ) {v : Result ℕ ℕ} → v ≡ lookup_of ids id → find ids id ≡ answered v
unfolding lookup_of
found_as ids id e = sym (answered-placed (find ids id) (rank ids id)) ∙ sym (ap answered e)

module _ (ids : List ℕ) (kind label : ℕ) (kept : Bool) (id : ℕ) where
  pub zero-nothing : id ≡ 0 → Becomes ids (ref_of kind label kept id) nothing
  unfolding outcome
  zero-nothing e = record { told = rw (eq-eqb id 0 e) }

  module _ (h : id ≡ 0 → ⊥) where
    pub kept-edge : {t : ℕ} → Ok t ≡ lookup_of ids id → kept ≡ true → Becomes ids (ref_of kind label kept id) (edge t)
    unfolding outcome
    kept-edge f k = record { told = rw (ne_eqb id 0 h, found_as ids id f, k) }

    pub other_weak : {t : ℕ} → Ok t ≡ lookup_of ids id → kept ≡ false → Becomes ids (ref_of kind label kept id) (weak t)
    unfolding outcome
    other_weak f k = record { told = rw (ne_eqb id 0 h, found_as ids id f, k) }

    pub lost-missing : {p : ℕ} → Err p ≡ lookup_of ids id → kind < 3 → Becomes ids (ref_of kind label kept id) missing
    unfolding outcome
    lost-missing f k = record { told = rw (ne_eqb id 0 h, found_as ids id f) (counted kind k) }
      where
        counted : (k : ℕ) → k < 3 → absent (kind_of k) ≡ missing
        counted zero h = refl
        counted (suc zero) h = refl
        counted (suc (suc zero)) h = refl
        counted (suc (suc (suc k))) h = absurd (omega arith)

    pub loader_nothing : {p : ℕ} → Err p ≡ lookup_of ids id → 3 ≤ kind → Becomes ids (ref_of kind label kept id) nothing
    unfolding outcome
    loader_nothing f k = record { told = rw (ne_eqb id 0 h, found_as ids id f) (passed kind k) }
      where
        passed : (k : ℕ) → 3 ≤ k → absent (kind_of k) ≡ nothing
        passed zero h = absurd (omega arith)
        passed (suc zero) h = absurd (omega arith)
        passed (suc (suc zero)) h = absurd (omega arith)
        passed (suc (suc (suc k))) h = refl

-- What the reference of an outcome appends.
module _ {ids : List ℕ} {r : Ref} {u : Outcome} (e : Becomes ids r u) where
  one-edges : edges_among ids (r ∷ []) ≡ edge_of r.label u
  unfolding edges_among
  one-edges = append-nil (edge_of r.label (outcome ids r)) ∙ ap (edge_of r.label) e.told

  one-weak : weak_among ids (r ∷ []) ≡ weak_of u
  unfolding weak_among
  one-weak = append-nil (weak_of (outcome ids r)) ∙ ap weak_of e.told

  one-missing : missing_among ids (r ∷ []) ≡ missing_of u
  unfolding missing_among
  one-missing = add-zero _ ∙ ap missing_of e.told

  pub one_room : {s : Pass} {nt nl nw : ℕ} → EdgeRoom ids (r ∷ []) s nt nl nw
      → (s.edges + length (edge_of r.label u) ≤ nt) × (s.edges + length (edge_of r.label u) ≤ nl) × (s.weak + length (weak_of u) ≤ nw) × (s.missing + missing_of u < 2 ^ 64)
  one_room m = (rw (← one-edges) m.targets, rw (← one-edges) m.labels, rw (← one-weak) m.weaks, rw (← one-missing) m.missing)

  one_appended : (s q : Pass) (ts ls ws ts' ls' ws' : List ℕ)
      → ts' ≡ sets ts s.edges (map edge_target (edge_of r.label u)) → ls' ≡ sets ls s.edges (map edge_label (edge_of r.label u)) → ws' ≡ sets ws s.weak (weak_of u)
      → q.edges ≡ s.edges + length (edge_of r.label u) → q.weak ≡ s.weak + length (weak_of u) → q.missing ≡ s.missing + missing_of u
      → Appended ids (r ∷ []) s q ts ls ws ts' ls' ws'
  one_appended s q ts ls ws ts' ls' ws' a b d f g h =
      record { targets = rw one-edges a; labels = rw one-edges b; weaks = rw one-weak d; next = rw one-edges f; next_weak = rw one-weak g; lost = rw one-missing h }

module _ {ids : List ℕ} {r : Ref} {s q : Pass} {ts ls ws : List ℕ} where
  pub nothing_appended : Becomes ids r nothing → q ≡ s → Appended ids (r ∷ []) s q ts ls ws ts ls ws
  nothing_appended e f = rw f (one_appended e s s ts ls ws ts ls ws refl refl refl (sym (add-zero _)) (sym (add-zero _)) (sym (add-zero _)))

  pub missing_appended : Becomes ids r missing → q ≡ with_missing s → Appended ids (r ∷ []) s q ts ls ws ts ls ws
  missing_appended e f = rw f (one_appended e s (with_missing s) ts ls ws ts ls ws refl refl refl (sym (add-zero _)) (sym (add-zero _)) refl)

  module _ {t t' : ℕ} (told : t' ≡ t) where
    pub weak_appended : Becomes ids r (weak t) → q ≡ with_weak s → Appended ids (r ∷ []) s q ts ls ws ts ls (set ws s.weak t')
    weak_appended e f = rw f (one_appended e s (with_weak s) ts ls ws ts ls _ refl refl (ap (set ws s.weak) told) (sym (add-zero _)) refl (sym (add-zero _)))

    pub edge_appended : Becomes ids r (edge t) → q ≡ with_edge s → Appended ids (r ∷ []) s q ts ls ws (set ts s.edges t') (set ls s.edges r.label) ws
    edge_appended e f = rw f (one_appended e s (with_edge s) ts ls ws _ _ ws (ap (set ts s.edges) told) refl refl refl (sym (add-zero _)) (sym (add-zero _)))
