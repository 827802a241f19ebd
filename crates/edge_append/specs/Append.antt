-- What a list of references appends: to the edges, to the weak targets and to the missing, from a pass state on. Assumes nothing.
use Rattle.std.specs.Prelude.{ℕ, zero, suc, ◌+◌, ◌^◌, ◌≤◌, ◌<◌, ◌≡◌, Bool, List, map, length}
use Rattle.std.proofs.lemmas.List.Edits.{sets}
use Rattle.columns.specs.Lists.{flat, sum}
use Rattle.columns.specs.Ranks.{Rises}
use Rattle.rules.specs.Edges.{Kind, slot, element, static, loader, Ref, Edge, ref_edge, ref_weak, ref_missing}
use Rattle.edge_append.specs.declared.Pass.{Pass}

-- One id more: found and kept, found and not kept, or missing.
abbrev pub with_edge : Pass → Pass
with_edge s = record { edges = s.edges + 1; weak = s.weak; missing = s.missing }

abbrev pub with_weak : Pass → Pass
with_weak s = record { edges = s.edges; weak = s.weak + 1; missing = s.missing }

abbrev pub with_missing : Pass → Pass
with_missing s = record { edges = s.edges; weak = s.weak; missing = s.missing + 1 }

-- "Slot, element, static, loader": the kinds by number.
abbrev pub kind_of : ℕ → Kind
kind_of zero = slot
kind_of (suc zero) = element
kind_of (suc (suc zero)) = static
kind_of (suc (suc (suc n))) = loader

abbrev pub ref_of : ℕ → ℕ → Bool → ℕ → Ref
ref_of kind label kept id = record { kind = kind_of kind; label = label; kept = kept; id = id }

-- What a list of references comes to, in order: `edges_of`, `weak_targets` and `missing_at` are these of an object's references.
unfoldable pub edges_among : List ℕ → List Ref → List Edge
edges_among ids rs = flat (ref_edge ids) rs

unfoldable pub weak_among : List ℕ → List Ref → List ℕ
weak_among ids rs = flat (ref_weak ids) rs

unfoldable pub missing_among : List ℕ → List Ref → ℕ
missing_among ids rs = sum (ref_missing ids) rs

abbrev pub edge_target : Edge → ℕ
edge_target e = e.target

abbrev pub edge_label : Edge → ℕ
edge_label e = e.label

-- The ids can be searched and numbered in 32 bits, and columns of nt targets, nl labels and nw weak targets have room for what the references append.
pub record EdgeRoom (ids : List ℕ) (rs : List Ref) (s : Pass) (nt nl nw : ℕ) : Type 0 where
  pub rising : Rises ids
  pub few : length ids ≤ 2 ^ 32
  pub targets : s.edges + length (edges_among ids rs) ≤ nt
  pub labels : s.edges + length (edges_among ids rs) ≤ nl
  pub weaks : s.weak + length (weak_among ids rs) ≤ nw
  pub missing : s.missing + missing_among ids rs < 2 ^ 64

-- The references appended: each column written from where the state stood, and the state behind them. Nothing else is touched.
pub record Appended (ids : List ℕ) (rs : List Ref) (s q : Pass) (ts ls ws ts' ls' ws' : List ℕ) : Type 0 where
  pub targets : ts' ≡ sets ts s.edges (map edge_target (edges_among ids rs))
  pub labels : ls' ≡ sets ls s.edges (map edge_label (edges_among ids rs))
  pub weaks : ws' ≡ sets ws s.weak (weak_among ids rs)
  pub next : q.edges ≡ s.edges + length (edges_among ids rs)
  pub next_weak : q.weak ≡ s.weak + length (weak_among ids rs)
  pub lost : q.missing ≡ s.missing + missing_among ids rs
