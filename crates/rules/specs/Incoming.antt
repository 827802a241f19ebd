-- "Who points here" (M-103 of document 02): the edges of finished columns by their targets, the columns that hold them, and what inverting answers and leaves.
-- Assumes nothing.
use Rattle.std.specs.Prelude.{ℕ, suc, ◌+◌, ◌≤◌, ◌<◌, ◌≡◌, Bool, true, not, List, [], ◌∷◌, ◌++◌, map, eqb, leb, ltb, length, take}
use Rattle.columns.specs.Lists.{◌!◌, collect, tab, places, total, one, all_of}
use Rattle.columns.specs.Columns.{zeros, accepts, leaves}
use Rattle.store.specs.Blocked.{Blocked, blocked_of, blocked, blocks_of, long_rows, read_back}
use Rattle.rules.specs.Input.{Input}
use Rattle.rules.specs.Demand.{tally}
use Rattle.rules.specs.Edges.{Edge}
use Rattle.rules.specs.Needs.{buffer}
use Rattle.rules.specs.Verdict.{first_of, at}
use Rattle.rules.specs.Questions.{Columns, objects_in, offset_at, edges_in, reads_back}

-- how many edges the objects have
unfoldable pub edge_total : Columns → ℕ
edge_total c = total (edges_in c) (objects_in c)

-- the places of object o's edges to t in the target column
unfoldable pub places_to : Columns → ℕ → ℕ → List ℕ
places_to c t o = map (λ k. offset_at c o + k) (places (λ k. eqb (c.targets ! (offset_at c o + k)) t) (edges_in c o))

-- "For each object, its referring objects and the edge's place in the target column, rising." "Weak pairs are left out."
unfoldable pub sources_in : Columns → ℕ → List ℕ
sources_in c t = collect (λ o. map (λ e. o) (places_to c t o)) (objects_in c)

unfoldable pub places_in : Columns → ℕ → List ℕ
places_in c t = collect (places_to c t) (objects_in c)

-- where the entries of t begin; one offset more than objects
unfoldable pub in_offset : Columns → ℕ → ℕ
in_offset c t = total (λ i. length (places_in c i)) t

unfoldable pub in_offsets : Columns → List ℕ
in_offsets c = tab (in_offset c) (suc (objects_in c))

-- Who holds t by the objects' own edges: for each edge to t, in order, its object and its place. Object o has the edges es o, which begin at off o.
abbrev pub edge_targets : List Edge → List ℕ
edge_targets es = map (λ (e : Edge). e.target) es

abbrev pub places_at : ℕ → List ℕ → List ℕ
places_at t xs = places (λ k. eqb (xs ! k) t) (length xs)

unfoldable pub holder_objects : ℕ → (ℕ → List Edge) → ℕ → List ℕ
holder_objects objects es t = collect (λ o. map (λ k. o) (places_at t (edge_targets (es o)))) objects

unfoldable pub holder_places : ℕ → (ℕ → ℕ) → (ℕ → List Edge) → ℕ → List ℕ
holder_places objects off es t = collect (λ o. map (λ k. off o + k) (places_at t (edge_targets (es o)))) objects

-- The incoming side of a graph: "in lent columns with blocked offsets".
pub record Incoming : Type 0 where
  pub sources : List ℕ
  pub places : List ℕ
  pub offsets : Blocked

unfoldable pub incoming_of : Columns → Incoming
incoming_of c = record { sources = collect (sources_in c) (objects_in c); places = collect (places_in c) (objects_in c); offsets = blocked (in_offsets c) }

-- "COLUMNS at the lowest object that can't be read back." One beyond document 01's limits, of objects and of places, counts as such (docs/DECISIONS.md).
unfoldable pub can_read : Columns → ℕ → Bool
can_read c o = all_of (reads_back c o ∷ ltb o 67108864 ∷ leb (offset_at c (suc o)) 268435456 ∷ [])

unfoldable pub unreadable : Columns → List ℕ
unreadable c = places (λ o. not (can_read c o)) (objects_in c)

-- What inverting asks of the spans: each object's two offsets read, do not fall and end within the targets and the limit; the targets are objects.
pub record Spanned (c : Columns) : Type 0 where
  pub few : objects_in c ≤ 67108864
  pub starts : (o : ℕ) → o < objects_in c → accepts (read_back c.offsets o) ≡ true
  pub stops : (o : ℕ) → o < objects_in c → accepts (read_back c.offsets (suc o)) ≡ true
  pub climbs : (o : ℕ) → o < objects_in c → offset_at c o ≤ offset_at c (suc o)
  pub within : (o : ℕ) → o < objects_in c → offset_at c (suc o) ≤ length c.targets
  pub limited : (o : ℕ) → o < objects_in c → offset_at c (suc o) ≤ 268435456
  pub objects : (o k : ℕ) → o < objects_in c → k < edges_in c o → c.targets ! (offset_at c o + k) < objects_in c

-- The lengths of the seven columns that inverting is lent.
pub record InRooms : Type 0 where
  pub sources : ℕ
  pub places : ℕ
  pub bases : ℕ
  pub short : ℕ
  pub long_at : ℕ
  pub long_value : ℕ
  pub working : ℕ

-- ".. then ROOM 10 for the entries and 11 for the offsets", long and working offsets among these.
unfoldable pub short_of_incoming : Columns → InRooms → List ℕ
short_of_incoming c r =
    let m = suc (objects_in c) in
    let l = long_rows (in_offsets c) in
    buffer 10 (ltb r.sources (edge_total c) ∷ ltb r.places (edge_total c) ∷ [])
    ++ buffer 11 (ltb r.bases (blocks_of m) ∷ ltb r.short m ∷ ltb r.working m ∷ ltb r.long_at l ∷ ltb r.long_value l ∷ [])

-- What inverting answers: on acceptance how many entries and how many long rows there are,
unfoldable pub invert_says : Columns → InRooms → List ℕ
invert_says c r = first_of (at 12 (unreadable c) ++ at 9 (short_of_incoming c r)) (0 ∷ edge_total c ∷ long_rows (in_offsets c) ∷ [])

-- and what it leaves: "all the new columns are zero after each" refusal. The working offsets are work space, and zero always.
pub record InLeft : Type 0 where
  pub says : List ℕ
  pub sources : List ℕ
  pub places : List ℕ
  pub bases : List ℕ
  pub short : List ℕ
  pub long_at : List ℕ
  pub long_value : List ℕ
  pub working : List ℕ

unfoldable pub invert_left : Columns → InRooms → InLeft
invert_left c r =
    let says = invert_says c r in
    let i = incoming_of c in
    record {
      says = says;
      sources = leaves says i.sources r.sources;
      places = leaves says i.places r.places;
      bases = leaves says i.offsets.bases r.bases;
      short = leaves says i.offsets.short r.short;
      long_at = leaves says i.offsets.long_at r.long_at;
      long_value = leaves says i.offsets.long_value r.long_value;
      working = zeros r.working;
    }

-- "Queries take the used parts, at the lengths a build returns": of what inverting the columns of so many objects left.
unfoldable pub used_incoming : ℕ → InLeft → Incoming
used_incoming objects l = record {
  sources = take (l.says ! 1) l.sources;
  places = take (l.says ! 1) l.places;
  offsets = blocked_of (take (blocks_of (suc objects)) l.bases) (take (suc objects) l.short) (take (l.says ! 2) l.long_at) (take (l.says ! 2) l.long_value);
}

-- "Whoever holds t": how often object o holds t's id, counted from the input alone: in its slots that fit, in its elements, and in the object statics
-- and the loader of the class found at o.
unfoldable pub holds : Input → ℕ → ℕ → ℕ
holds x o t = let f : ℕ → ℕ = λ v. one (eqb v (x.objects.ids ! t)) in tally f f x o

-- The columns lent, of those that a clause names: `read` is `now`, `entry` or `exit`.
module _ {A : Type 0} (read : A → List ℕ) where
  abbrev pub in_room : A → A → A → A → A → A → A → InRooms
  in_room sources places bases short long_at long_value working = record {
    sources = length (read sources);
    places = length (read places);
    bases = length (read bases);
    short = length (read short);
    long_at = length (read long_at);
    long_value = length (read long_value);
    working = length (read working);
  }

  abbrev pub in_left : List ℕ → A → A → A → A → A → A → A → InLeft
  in_left says sources places bases short long_at long_value working = record {
    says = says;
    sources = read sources;
    places = read places;
    bases = read bases;
    short = read short;
    long_at = read long_at;
    long_value = read long_value;
    working = read working;
  }

  abbrev pub in_columns : A → A → A → A → A → A → Incoming
  in_columns sources places bases short long_at long_value =
      record { sources = read sources; places = read places; offsets = blocked_of (read bases) (read short) (read long_at) (read long_value) }
