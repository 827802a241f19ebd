-- Places squeezed are the edges, edges never exceed places, and the cuts of passes do not show. Assumes nothing.
use Prim.Native.Nat.{ℕ, zero, suc, ◌+◌, ◌≤◌, zero-le}
use native.Mathlib.Nat.{add-zero, zero-add, add-suc, add_assoc}
use native.Mathlib.Omega.{arith}
use mathlib.Core.Path.{◌≡◌, refl, sym, ap, ap₂, ◌∙◌}
use mathlib.Core.Bool.{Bool, true, false, cond, not}
use mathlib.Core.List.{List, [], ◌∷◌, ◌++◌, append-nil}
use mathlib.Core.Option.{Option, none, some}
use lib.Dec.{eqb}
use lib.ListN.{length, replicate}
use Rattle.columns.specs.Lists.{flat, collect, total, sum, find, found, sort}
use Rattle.columns.proofs.Sums.{flat_append, total-le}
use Rattle.rules.specs.Input.{Input, Route, Route.copied, Route.raw, object_count}
use Rattle.rules.specs.Edges.{Kind, slot, element, static, loader, Ref, Outcome, Edge, edge, weak, missing, nothing, settled, outcome, edge_of, ref_edge}
use Rattle.rules.specs.Edges.{edges_of, edges, refs, slot_refs, other_refs, Pair, pair_le, pairs_of, weak_pairs, missing_at, graph}
use Rattle.rules.specs.Places.{place_of, takes, has_place, ref_place, places_of, unread, squeeze, place_count, Pass, begun, absorb, pass, passes}
use Rattle.rules.proofs.Acceptance.{Passed, places_few}
use Rattle.rules.proofs.Demand.{edge_count}

pub squeeze-append : {A : Type 0} (ps qs : List (Option A)) → squeeze (ps ++ qs) ≡ squeeze ps ++ squeeze qs
squeeze-append [] qs = refl
squeeze-append (none ∷ ps) qs = squeeze-append ps qs
squeeze-append (some a ∷ ps) qs = ap (λ (l : List _). a ∷ l) (squeeze-append ps qs)

pub squeeze_holes : {A : Type 0} (n : ℕ) → squeeze {A = A} (replicate n none) ≡ []
squeeze_holes zero = refl
squeeze_holes (suc n) = squeeze_holes n

-- one place, whatever came of the reference
one_place : (l : ℕ) (o : Outcome) → squeeze (place_of l o ∷ []) ≡ edge_of l o
one_place l (edge t) = refl
one_place l (weak t) = refl
one_place l missing = refl
one_place l nothing = refl

-- no place, only where there is no edge
taken : (l : ℕ) (z : Bool) (k : Kind) (b : Bool) (f : Option ℕ)
    → squeeze (cond (takes k b (not z) (found f)) (place_of l (cond z nothing (settled k b f)) ∷ []) []) ≡ edge_of l (cond z nothing (settled k b f))
taken l true slot true f = refl
taken l true slot false f = refl
taken l true element b f = refl
taken l true static b f = refl
taken l true loader b f = refl
taken l false slot true none = refl
taken l false slot false none = refl
taken l false slot true (some t) = refl
taken l false slot false (some t) = refl
taken l false element b f = one_place l (settled element b f)
taken l false static b none = refl
taken l false static b (some t) = one_place l (settled static b (some t))
taken l false loader b none = refl
taken l false loader b (some t) = one_place l (settled loader b (some t))

ref_place_lem : (t : Route) (ids : List ℕ) (r : Ref) → squeeze (ref_place t ids r) ≡ ref_edge ids r
unfolding ref_place has_place outcome
ref_place_lem (copied c) ids r = taken r.label (eqb r.id 0) r.kind r.kept (find ids r.id)
ref_place_lem (raw w) ids r = one_place r.label (outcome ids r)

refs-place : (t : Route) (ids : List ℕ) (rs : List Ref) → squeeze (flat (ref_place t ids) rs) ≡ flat (ref_edge ids) rs
refs-place t ids [] = refl
refs-place t ids (r ∷ rs) = squeeze-append (ref_place t ids r) (flat (ref_place t ids) rs) ∙ ap₂ ◌++◌ (ref_place_lem t ids r) (refs-place t ids rs)

pub squeezed : (x : Input) (o : ℕ) → squeeze (places_of x o) ≡ edges_of x o
unfolding places_of edges_of refs
squeezed x o =
    let t = x.route in
    let ids = x.objects.ids in
    squeeze-append (flat (ref_place t ids) (slot_refs x o) ++ replicate (unread x o) none) (flat (ref_place t ids) (other_refs x o))
    ∙ ap₂ ◌++◌ (squeeze-append (flat (ref_place t ids) (slot_refs x o)) (replicate (unread x o) none)
    ∙ ap₂ ◌++◌ (refs-place t ids (slot_refs x o)) (squeeze_holes (unread x o)) ∙ append-nil (flat (ref_edge ids) (slot_refs x o)))
    (refs-place t ids (other_refs x o))
    ∙ sym (flat_append (ref_edge ids) (slot_refs x o) (other_refs x o))

-- "Squeezing closes all holes, keeping order": all places, object by object, squeezed, are all edges.
pub squeezed_all : (x : Input) (n : ℕ) → squeeze (collect (places_of x) n) ≡ collect (edges_of x) n
squeezed_all x zero = refl
squeezed_all x (suc n) = squeeze-append (collect (places_of x) n) (places_of x n) ∙ ap₂ ◌++◌ (squeezed_all x n) (squeezed x n)

squeeze_fewer : {A : Type 0} (ps : List (Option A)) → length (squeeze ps) ≤ length ps
squeeze_fewer [] = zero-le
squeeze_fewer (none ∷ ps) = omega (arith, squeeze_fewer ps)
squeeze_fewer (some a ∷ ps) = omega (arith, squeeze_fewer ps)

-- Edges never exceed places, so their number is within the limit.
pub edges_within : (x : Input) → length (graph x).targets ≤ place_count x
unfolding place_count
edges_within x =
    rw (edge_count x) (total-le _ _ (object_count x) (λ o l. omega (arith, ap length (squeezed x o), squeeze_fewer (places_of x o))))

pub edges_few : (x : Input) → Passed x → length (graph x).targets ≤ 268435456
edges_few x h = omega (arith, edges_within x, places_few x h)

-- One pass that goes on where another ended is one pass over both.
module _ (x : Input) where
  pub cut : (from m n : ℕ) (p : Pass) → pass x (from + m) n (pass x from m p) ≡ pass x from (m + n) p
  cut from m zero p = rw (add-zero m)
  cut from m (suc n) p = rw (add-suc m n, add_assoc from m n) (ap (absorb x (from + (m + n))) (cut from m n p))

  pub cuts : (from : ℕ) (ns : List ℕ) (p : Pass) → passes x from ns p ≡ pass x from (sum (λ n. n) ns) p
  cuts from [] p = refl
  cuts from (n ∷ ns) p = cuts (from + n) ns (pass x from n p) ∙ cut from n (sum (λ n. n) ns) p

  -- one pass over the first n objects
  all_edges : (n : ℕ) → (pass x 0 n begun).edges ≡ collect (edges_of x) n
  all_edges zero = refl
  all_edges (suc n) = rw (zero-add n) (ap (λ (es : List Edge). es ++ edges_of x n) (all_edges n))

  all_weak : (n : ℕ) → (pass x 0 n begun).weak ≡ collect (pairs_of x) n
  all_weak zero = refl
  all_weak (suc n) = rw (zero-add n) (ap (λ (ps : List Pair). ps ++ pairs_of x n) (all_weak n))

  all_missing : (n : ℕ) → (pass x 0 n begun).missing ≡ total (missing_at x) n
  all_missing zero = refl
  all_missing (suc n) = rw (zero-add n) (ap (λ (k : ℕ). k + missing_at x n) (all_missing n))

  -- "The cuts don't show in the graph": however the objects are cut into passes, they come to all edges, all weak pairs and the dangling count.
  module _ (ns : List ℕ) (e : sum (λ n. n) ns ≡ object_count x) where
    once : passes x 0 ns begun ≡ pass x 0 (object_count x) begun
    once = cuts 0 ns begun ∙ ap (λ (n : ℕ). pass x 0 n begun) e

    pub cut_edges : (passes x 0 ns begun).edges ≡ edges x
    unfolding edges
    cut_edges = ap (λ (p : Pass). p.edges) once ∙ all_edges (object_count x)

    pub cut_weak : sort pair_le (passes x 0 ns begun).weak ≡ weak_pairs x
    unfolding weak_pairs
    cut_weak = ap (λ (p : Pass). sort pair_le p.weak) once ∙ ap (sort pair_le) (all_weak (object_count x))

    pub cut_missing : (passes x 0 ns begun).missing ≡ (graph x).dangling
    unfolding graph
    cut_missing = ap (λ (p : Pass). p.missing) once ∙ all_missing (object_count x)
