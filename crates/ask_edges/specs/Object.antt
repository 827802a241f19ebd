-- All edges of an object, into two lent columns: what the call answers and leaves, on any columns. Assumes nothing.
use Rattle.std.specs.Prelude.{ℕ, ◌+◌, ◌-◌, ◌<◌, min, ◌≡◌, Bool, cond, List, [], ◌∷◌, Result, eqb, ltb, leb, length}
use Rattle.columns.specs.Lists.{◌!◌, tab, first_place, any_of}
use Rattle.columns.specs.Columns.{over, accepts}
use Rattle.rules.specs.Edges.{Edge}
use Rattle.rules.specs.Labels.{Coded}
use Rattle.rules.specs.Parts.{no_object}
use Rattle.rules.specs.Questions.{Columns, objects_in, into_says, EdgesLeft, edges_into}
use Rattle.labels.specs.declared.Unread.{Unread}
use Rattle.labels.specs.Reading.{step_back, walk_back}
use Rattle.ask_reader.specs.declared.ReadEdge.{ReadEdge}
use Rattle.ask_reader.specs.Read.{read_edge_says, with_label}
use Rattle.ask_span.specs.Graph.{span_in}
-- the steps that read no edge: how many edges are written, the answer, the end
pub use Rattle.ask_reader.specs.Own.{OwnSettled}
unfoldable pub use Rattle.ask_reader.specs.Own.{own_room, own_says}

-- Edge k of the object whose edges begin at e cannot be read: its target is none of so many objects, or its label cannot be read from those before it.
unfoldable pub unread : ℕ → List ℕ → Coded → ℕ → ℕ → Bool
unread objects ts d e k = any_of (no_object objects ts (e + k) ∷ eqb (length (walk_back d e k)) 0 ∷ [])

-- the target and the label of edge k, and n edges, where they can be read
abbrev pub target_met : List ℕ → ℕ → ℕ → ℕ
target_met ts e k = ts ! (e + k)

abbrev pub label_met : Coded → ℕ → ℕ → ℕ
label_met d e k = walk_back d e k ! 0

unfoldable pub edges_met : List ℕ → Coded → ℕ → ℕ → List Edge
edges_met ts d e n = tab (λ k. record { target = target_met ts e k; label = label_met d e k }) n

-- INDEX of the object and COLUMNS of its span; COLUMNS where an edge cannot be read; ROOM 23; else how many edges there are.
unfoldable pub edges_found : Columns → ℕ → ℕ → ℕ → EdgesLeft
edges_found c o a b =
    let s = span_in c o in
    let n = s ! 2 - s ! 1 in
    let es = edges_met c.targets c.labels (s ! 1) n in
    let read = first_place (unread (objects_in c) c.targets c.labels (s ! 1)) n in
    edges_into (cond (accepts s) (cond (ltb read n) (12 ∷ o ∷ []) (into_says es a b)) s) es a b

-- what a call left, as one value
abbrev pub left_edges : List ℕ → List ℕ → List ℕ → EdgesLeft
left_edges says targets labels = record { says = says; targets = targets; labels = labels }

-- What is read at each of n positions is the edge there: its target, where that is one of so many objects, and its label.
abbrev pub ReadsEdges : (ℕ → ℕ → Result ReadEdge Unread → Type 0) → ℕ → List ℕ → Coded → ℕ → ℕ → Type 0
ReadsEdges post objects ts d e n =
    (k next : ℕ) (r : Result ReadEdge Unread) → k < n → post k next r
    → read_edge_says r ≡ cond (leb objects (ts ! (e + k))) [] (with_label (ts ! (e + k)) (step_back d e k next))

-- n edges are read in order up to one that cannot be, and those that have room are written.
pub record OwnRead (objects : ℕ) (ts : List ℕ) (d : Coded) (e n room r : ℕ) (t₀ l₀ t l : List ℕ) : Type 0 where
  pub read : r ≡ first_place (unread objects ts d e) n
  pub targets : t ≡ over (tab (target_met ts e) (min r room)) t₀
  pub labels : l ≡ over (tab (label_met d e) (min r room)) l₀
