-- What a pass over a range of objects leaves: the parts p 0, p 1, .. of its objects, one after the other. Assumes nothing.
use Rattle.std.specs.Prelude.{ℕ, suc, ◌+◌, ◌^◌, ◌≤◌, ◌<◌, ◌≡◌, List, [], ◌∷◌, map, leb, length, replicate}
use Rattle.std.proofs.lemmas.List.Edits.{sets}
use Rattle.columns.specs.Lists.{◌!◌, collect, tab, total, sort}
use Rattle.columns.specs.Ranks.{Rises}
use Rattle.rules.specs.Edges.{Ref, Edge}
use Rattle.edge_append.specs.Append.{edges_among, weak_among, missing_among, edge_target, edge_label}
use Rattle.edge_append.specs.Account.{row}
use Rattle.edge_append.specs.Object.{RefParts, together}
use Rattle.edge_append.specs.declared.Pass.{Pass}

unfoldable pub edges_to : List ℕ → (ℕ → RefParts) → ℕ → List Edge
edges_to ids p n = collect (λ i. edges_among ids (together (p i))) n

-- each object's weak targets sorted, and its number beside each
unfoldable pub weak_to : List ℕ → (ℕ → RefParts) → ℕ → List ℕ
weak_to ids p n = collect (λ i. sort leb (weak_among ids (together (p i)))) n

unfoldable pub from_to : List ℕ → (ℕ → RefParts) → ℕ → ℕ → List ℕ
from_to ids p first n = collect (λ i. replicate (length (weak_among ids (together (p i)))) (first + i)) n

unfoldable pub missing_to : List ℕ → (ℕ → RefParts) → ℕ → ℕ
missing_to ids p n = total (λ i. missing_among ids (together (p i))) n

-- where each object's edges end, if the range's begin at e
unfoldable pub ends_to : List ℕ → (ℕ → RefParts) → ℕ → ℕ → List ℕ
ends_to ids p e n = tab (λ i. e + length (edges_to ids p (suc i))) n

-- The account by its cells: four rows of three.
abbrev three : List ℕ → List ℕ
three r = r ! 0 ∷ r ! 1 ∷ r ! 2 ∷ []

unfoldable pub cells : List (List ℕ) → List (List ℕ)
cells a = three (row a 0) ∷ three (row a 1) ∷ three (row a 2) ∷ three (row a 3) ∷ []

-- A row of the account has become another: each cell counts what the references of its kind came to, too.
pub record RowGrown (ids r r' : List ℕ) (rs : List Ref) : Type 0 where
  pub edges : r' ! 0 ≡ r ! 0 + length (edges_among ids rs)
  pub weak : r' ! 1 ≡ r ! 1 + length (weak_among ids rs)
  pub missing : r' ! 2 ≡ r ! 2 + missing_among ids rs

-- The pass over the first n objects of a range, from one state to another, in the columns and in the account.
pub record Walked
    (ids : List ℕ) (p : ℕ → RefParts) (first n : ℕ) (s q : Pass)
    (ts ls fs ws wk : List ℕ) (a : List (List ℕ)) (ts' ls' fs' ws' wk' : List ℕ) (a' : List (List ℕ))
    : Type 0 where
  pub targets : ts' ≡ sets ts s.edges (map edge_target (edges_to ids p n))
  pub labels : ls' ≡ sets ls s.edges (map edge_label (edges_to ids p n))
  pub objects : fs' ≡ sets fs s.weak (from_to ids p first n)
  pub weaks : ws' ≡ sets ws s.weak (weak_to ids p n)
  pub ends : wk' ≡ sets wk (first + 1) (ends_to ids p s.edges n)
  pub next : q.edges ≡ s.edges + length (edges_to ids p n)
  pub next_weak : q.weak ≡ s.weak + length (weak_to ids p n)
  pub lost : q.missing ≡ s.missing + missing_to ids p n
  pub slots : RowGrown ids (row a 0) (row a' 0) (collect (λ i. (p i).slots) n)
  pub elements : RowGrown ids (row a 1) (row a' 1) (collect (λ i. (p i).elements) n)
  pub statics : RowGrown ids (row a 2) (row a' 2) (collect (λ i. (p i).statics) n)
  pub loaders : RowGrown ids (row a 3) (row a' 3) (collect (λ i. (p i).loaders) n)
  pub table : a ≡ cells a → a' ≡ cells a'

-- There is room for the first n objects of a range: in columns of nt targets, nl labels, nf and nw weak pairs.
pub record WalkRoom (ids : List ℕ) (p : ℕ → RefParts) (n : ℕ) (s : Pass) (nt nl nf nw : ℕ) : Type 0 where
  pub rising : Rises ids
  pub few : length ids ≤ 2 ^ 32
  pub targets : s.edges + length (edges_to ids p n) ≤ nt
  pub labels : s.edges + length (edges_to ids p n) ≤ nl
  pub objects : s.weak + length (weak_to ids p n) ≤ nf
  pub weaks : s.weak + length (weak_to ids p n) ≤ nw
  pub missing : s.missing + missing_to ids p n < 2 ^ 64
