-- WHO HOLDS AN OBJECT: what the questions on the incoming side answer, on the left, by the objects' own edges, on the right. There are n objects; object o has the
-- edges es o, which begin at off o. Assumes nothing.
use Rattle.std.specs.Prelude.{ℕ, suc, ◌+◌, ◌-◌, ◌≤◌, ◌<◌, ◌≡◌, cond, List, [], ◌∷◌, eqb, ltb, length}
use Rattle.columns.specs.Lists.{◌!◌, total, one, count}
use Rattle.columns.specs.Ranks.{Rises}
use Rattle.rules.specs.Edges.{Edge}
use Rattle.rules.specs.Questions.{plainly}
use Rattle.rules.specs.Incoming.{Incoming, edge_targets, holder_objects, holder_places}
use Rattle.ask_span.specs.Reading.{count_of, span_part}
use Rattle.incoming_ask.specs.Entries.{in_span, entry_of}

-- entry k of the holders, or INDEX
unfoldable pub holder_at : List ℕ → List ℕ → ℕ → List ℕ
holder_at objects places k = cond (ltb k (length places)) (0 ∷ objects ! k ∷ places ! k ∷ []) (11 ∷ k ∷ [])

-- how many edges go to the objects before t
abbrev pub held_before : ℕ → (ℕ → ℕ) → (ℕ → List Edge) → ℕ → ℕ
held_before n off es t = total (λ i. length (holder_places n off es i)) t

pub record Held (i : Incoming) (n : ℕ) (off : ℕ → ℕ) (es : ℕ → List Edge) (t : ℕ) : Type 0 where
  pub span : in_span i t ≡ plainly n t (0 ∷ held_before n off es t ∷ held_before n off es (suc t) ∷ [])
  pub in_degree : count_of (in_span i t) ≡ plainly n t (0 ∷ length (holder_places n off es t) ∷ [])
  pub sources_of : t < n → span_part (in_span i t) i.sources ≡ holder_objects n es t
  pub places_of : t < n → span_part (in_span i t) i.places ≡ holder_places n off es t
  pub entry_at : (k : ℕ) → entry_of i t k ≡ plainly n t (holder_at (holder_objects n es t) (holder_places n off es t) k)

-- Place e is that of an edge of object o, whose target is t.
pub record Back (n : ℕ) (off : ℕ → ℕ) (es : ℕ → List Edge) (t o e : ℕ) : Type 0 where
  pub object : o < n
  pub begun : off o ≤ e
  pub edge : e - off o < length (es o)
  pub target : edge_targets (es o) ! (e - off o) ≡ t

-- The entries of t are its edges exactly: they rise, each edge to t stands there once and no other edge does, and each entry leads back to its edge.
pub record Exactly (objects places : List ℕ) (n : ℕ) (off : ℕ → ℕ) (es : ℕ → List Edge) (t : ℕ) : Type 0 where
  pub rises : Rises places
  pub paired : length objects ≡ length places
  pub once : (o k : ℕ) → o < n → k < length (es o) → count (off o + k) places ≡ one (eqb (edge_targets (es o) ! k) t)
  pub back : (q : ℕ) → q < length places → Back n off es t (objects ! q) (places ! q)
