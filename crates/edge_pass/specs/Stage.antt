-- The edge stage of a build: what it is handed, and what it leaves where the answer so far accepts. Assumes nothing.
use Rattle.std.specs.Prelude.{ℕ, ◌+◌, ◌≤◌, ◌<◌, ◌≡◌, true, List, Result, Ok, Err, length}
use Rattle.columns.specs.Lists.{◌!◌}
use Rattle.columns.specs.Columns.{over, accepts}
use Rattle.rules.specs.declared.Counts.{Counts}
use Rattle.rules.specs.declared.Refusal.{Refusal}
use Rattle.rules.specs.Types.{built_says}
use Rattle.rules.specs.Input.{Input, object_count, classes_at}
use Rattle.rules.specs.Edges.{graph}
use Rattle.rules.specs.Places.{place_count}
use Rattle.rules.specs.Needs.{need_weak}
use Rattle.rules.specs.Verdict.{check_says}
use Rattle.rules.specs.Account.{account, no_account}
use Rattle.edge_append.specs.Object.{mark_classes}
use Rattle.edge_append.specs.declared.Pass.{Pass}
use Rattle.edge_pass.specs.Tables.{narrow}

-- An accepted input, room for its places and its weak pairs, a mark behind each object's place, and an account of zeros.
pub record Handed (x : Input) (nt nl nf nw : ℕ) (working : List ℕ) (a : List (List ℕ)) : Type 0 where
  pub accepted : accepts (check_says x) ≡ true
  pub targets : place_count x ≤ nt
  pub labels : place_count x ≤ nl
  pub objects : need_weak x ≤ nf
  pub weaks : need_weak x ≤ nw
  pub offsets : object_count x < length working
  pub front : working ! 0 ≡ 0
  pub marks : (o : ℕ) → o < object_count x → mark_classes (working ! (o + 1)) ≡ classes_at x o
  pub nothing : a ≡ no_account

-- The answer so far with what the pass came to: a refusal stands.
abbrev pub counted : Counts → Pass → Counts
counted c q = record { edges = q.edges; weak = q.weak; roots = c.roots; long = c.long; fields = c.fields; escapes = c.escapes; dangling = q.missing }

abbrev pub with_pass : Result Counts Refusal → Pass → Result Counts Refusal
with_pass (Ok c) q = Ok (counted c q)
with_pass (Err e) q = Err e

-- The same with the edges, the weak pairs and the dangling count of the graph.
unfoldable pub edges_said : Input → Result Counts Refusal → Result Counts Refusal
edges_said x v = with_pass v (record { edges = length (graph x).targets; weak = length (graph x).weak_from; missing = (graph x).dangling })

pub record Edged (x : Input) (v r : Result Counts Refusal) (ts ls fs ws wk ts' ls' fs' ws' wk' : List ℕ) (a' : List (List ℕ)) : Type 0 where
  pub answer : r ≡ edges_said x v
  pub targets : accepts (built_says v) ≡ true → ts' ≡ over (graph x).targets ts
  pub labels : accepts (built_says v) ≡ true → ls' ≡ over (graph x).labels ls
  pub objects : accepts (built_says v) ≡ true → fs' ≡ over (graph x).weak_from fs
  pub weaks : accepts (built_says v) ≡ true → ws' ≡ over (graph x).weak_to ws
  pub offsets : accepts (built_says v) ≡ true → wk' ≡ over (graph x).offsets wk
  pub account : accepts (built_says v) ≡ true → a' ≡ account x

-- The stage is lent only the columns that a pass reads, p: there is a whole input that has them, and is handed over.
pub record HandedFrom (p : Input) (nt nl nf nw : ℕ) (working : List ℕ) (a : List (List ℕ)) : Type 0 where
  pub whole : Input
  pub read : narrow whole ≡ p
  pub handed : Handed whole nt nl nf nw working a

-- What the stage leaves, by each whole input that has them and is handed over where the answer so far accepts.
abbrev pub EdgedFrom : Input → Result Counts Refusal → Result Counts Refusal
    → List ℕ → List ℕ → List ℕ → List ℕ → List ℕ → List (List ℕ) → List ℕ → List ℕ → List ℕ → List ℕ → List ℕ → List (List ℕ) → Type 0
EdgedFrom p v r ts ls fs ws wk a ts' ls' fs' ws' wk' a' =
    (x : Input) → narrow x ≡ p → (accepts (built_says v) ≡ true → Handed x (length ts) (length ls) (length fs) (length ws) wk a)
    → Edged x v r ts ls fs ws wk ts' ls' fs' ws' wk' a'
