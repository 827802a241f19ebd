-- An accepted build meets PARTS. Assumes nothing.
use Prim.Native.Nat.{ℕ, zero, suc, ◌+◌, ◌-◌, ◌≤◌, ◌<◌}
use native.Mathlib.Nat.{le_refl}
use native.Mathlib.Omega.{arith}
use mathlib.Core.Path.{◌≡◌, refl, sym, ap, ap₂, ◌∙◌, subst}
use mathlib.Core.Bool.{Bool, true, false, cond, ◌&&◌, ◌||◌}
use mathlib.Core.List.{List, [], ◌∷◌, ◌++◌, map, append-nil}
use mathlib.Core.Option.{Option, none, some}
use lib.Dec.{eqb, leb, ltb}
use lib.ListN.{length, get_or, length-map}
use lib.Seq.{ext_get_or}
use borrow.Author.Tests.{le-leb, lt-ltb, leb-false, ltb-false, eq-eqb}
use Rattle.columns.specs.Lists.{◌!◌, collect, tab, flat, total, part, find, sort, all_of, any_of}
use Rattle.columns.proofs.Lists.{tab-length, tab-at, map_at}
use Rattle.columns.proofs.Sums.{flat_append, map-append, map-collect, length-collect, total_ext, part-collect, part_at}
use Rattle.columns.proofs.Every.{Every, every_append, every-collect, every-flat, every-places, every-tab, every_map, every_index, every-sort, every-distinct}
use Rattle.columns.proofs.Every.{every-at, sort-chain, chain-at}
use Rattle.columns.proofs.Tests.{or_true, or_false}
use Rattle.columns.proofs.Search.{find-get}
use Rattle.rules.specs.Types.{loader_label, array_element_label, is_element}
use Rattle.rules.specs.Input.{Input, object_count, class_count, read_slots, element_count, static_total, is_object_static, found_at, classes_at}
use Rattle.rules.specs.Edges.{Kind, slot, element, static, loader, Ref, Edge, Outcome, edge, weak, missing, nothing, settled, edge_of, weak_of, outcome}
use Rattle.rules.specs.Edges.{ref_edge, ref_weak, refs, slot_refs, other_refs, slot_ref, element_ref, static_ref, loader_ref, static_refs, class_refs, edges_of}
use Rattle.rules.specs.Edges.{weak_targets, edges, offset, Pair, pair_le, pairs_of, weak_pairs, distinct_roots, graph}
use Rattle.rules.specs.Labels.{expected, own}
use Rattle.rules.specs.Needs.{objects_of}
use Rattle.rules.specs.Parts.{degree, is_named, pair_at, parts_faults}
use Rattle.rules.specs.Questions.{edges_at}
use Rattle.rules.proofs.Acceptance.{Passed, names_few, slot_small, static_name, elements_few, root_in}
use Rattle.rules.proofs.Slots.{read-le}
use Rattle.rules.proofs.Demand.{offset_at_lem, degree-of}
use Rattle.rules.proofs.Rising.{Rising, after_all, rising_append, after-append, Fields, fields_rise, fields-after, rising_at}
use Rattle.rules.proofs.Meets.{Meets, no_faults}

-- one more reference, of element n
next-rises : (b : List ℕ) (n : ℕ) (u : Outcome) → Rising 0 b × (after_all 0 b ≤ n)
    → Rising 0 (b ++ map (λ (e : Edge). e.label) (edge_of (array_element_label + n) u ++ [])) ×
    (after_all 0 (b ++ map (λ (e : Edge). e.label) (edge_of (array_element_label + n) u ++ [])) ≤ suc n)
next-rises b n (edge t) h = (
  rising_append 0 b ((array_element_label + n) ∷ []) h.0 ((λ e. omega arith), tt),
  rw
      (after-append 0 b ((array_element_label + n) ∷ []), le-leb array_element_label (array_element_label + n) (omega arith)) (omega arith),
)
next-rises b n (weak t) h = rw (append-nil b) (h.0, omega arith)
next-rises b n missing h = rw (append-nil b) (h.0, omega arith)
next-rises b n nothing h = rw (append-nil b) (h.0, omega arith)

-- an edge keeps the label of its reference, and leads to an object; so does a weak pair
keeps-label : (P : ℕ → Type 0) (l : ℕ) (u : Outcome) → P l → Every (λ (e : Edge). P e.label) (edge_of l u)
keeps-label P l (edge t) h = (h, tt)
keeps-label P l (weak t) h = tt
keeps-label P l missing h = tt
keeps-label P l nothing h = tt

-- of two pairs one comes before the other
pub either_pair : (p q : Pair) → pair_le p q ≡ false → pair_le q p ≡ true
either_pair p q e = go (ltb q.object p.object) refl
  where
    go : (b : Bool) → ltb q.object p.object ≡ b → b || (eqb q.object p.object && leb q.target p.target) ≡ true
    go true s = refl
    go false s =
        let a = or_false (ltb p.object q.object) (eqb p.object q.object && leb p.target q.target) e in
        let same : p.object ≡ q.object = omega (arith, ltb-false p.object q.object a.0, ltb-false q.object p.object s) in
        let less : q.target < p.target = leb-false p.target q.target (rw (eq-eqb p.object q.object same) at a.1) in
        rw (eq-eqb q.object p.object (sym same), le-leb q.target p.target (omega arith))

anything : (rs : List Ref) → Every (λ (r : Ref). Unit {0}) rs
anything [] = tt
anything (r ∷ rs) = (tt, anything rs)

module _ (ids : List ℕ) where
  leads : (r : Ref) → Every (λ (e : Edge). e.target < length ids) (ref_edge ids r) × Every (λ t. t < length ids) (ref_weak ids r)
  unfolding outcome
  leads r = go (eqb r.id 0) r.kind r.kept (find ids r.id) refl
    where
      absent_leads : (k : Kind)
          → Every (λ (e : Edge). e.target < length ids) (edge_of r.label (settled k true none)) × Every (λ t. t < length ids) (weak_of (settled k true none))
      absent_leads slot = (tt, tt)
      absent_leads element = (tt, tt)
      absent_leads static = (tt, tt)
      absent_leads loader = (tt, tt)

      go : (z : Bool) (k : Kind) (b : Bool) (u : Option ℕ) → find ids r.id ≡ u
          → Every (λ (e : Edge). e.target < length ids) (edge_of r.label (cond z nothing (settled k b u))) × Every (λ t. t < length ids)
          (weak_of (cond z nothing (settled k b u)))
      go true k b u e = (tt, tt)
      go false k b none e = absent_leads k
      go false k true (some t) e = (((find-get ids r.id t e).0, tt), tt)
      go false k false (some t) e = (tt, ((find-get ids r.id t e).0, tt))

module _ (x : Input) where
  abbrev ids : List ℕ
  ids = x.objects.ids

  abbrev n : ℕ
  n = object_count x

  abbrev label : Edge → ℕ
  label e = e.label

  abbrev target : Edge → ℕ
  target e = e.target

  -- the labels of the edges that references give
  abbrev lab : List Ref → List ℕ
  lab rs = map label (flat (ref_edge ids) rs)

  lab-append : (rs ss : List Ref) → lab (rs ++ ss) ≡ lab rs ++ lab ss
  lab-append rs ss = ap (map label) (flat_append (ref_edge ids) rs ss) ∙ map-append label (flat (ref_edge ids) rs) (flat (ref_edge ids) ss)

  lab-keeps : (P : ℕ → Type 0) (rs : List Ref) → Every (λ (r : Ref). P r.label) rs → Every P (lab rs)
  lab-keeps P rs h =
      every_map (λ (e : Edge). P e.label) P label (λ e p. p) (flat (ref_edge ids) rs)
      (every-flat (λ (r : Ref). P r.label) (λ (e : Edge). P e.label) (ref_edge ids) (λ r p. keeps-label P r.label (outcome ids r) p) rs h)

  -- elements in order: after n of them, n may come next
  elements_rise : (o n : ℕ) → Rising 0 (lab (tab (element_ref x o) n)) × (after_all 0 (lab (tab (element_ref x o) n)) ≤ n)
  unfolding tab element_ref
  elements_rise o zero = (tt, le_refl 0)
  elements_rise o (suc n) =
      rw (lab-append (tab (element_ref x o) n) (element_ref x o n ∷ []))
      (next-rises (lab (tab (element_ref x o) n)) n (outcome ids (element_ref x o n)) (elements_rise o n))

  module _ (h : Passed x) where
    -- the labels of slots, and of a class's statics and loader
    module _ (P : ℕ → Type 0) (name : (l : ℕ) → l < x.schema.names → P l) where
      slots_are : (o : ℕ) → o < n → Every (λ (r : Ref). P r.label) (slot_refs x o)
      unfolding slot_refs slot_ref
      slots_are o l = every-tab (λ (r : Ref). P r.label) (slot_ref x o) (read_slots x o) (λ k m. name _ (slot_small x h.sound o k l (omega (arith, read-le x o))))

      class_are : P loader_label → (c : ℕ) → c < class_count x.schema → Every (λ (r : Ref). P r.label) (class_refs x.schema c)
      unfolding class_refs static_refs static_ref loader_ref
      class_are q c l =
          every_append (λ (r : Ref). P r.label) (collect (static_refs x.schema c) (static_total x.schema c)) (loader_ref x.schema c ∷ [])
          (every-collect (λ (r : Ref). P r.label) (static_refs x.schema c) (static_total x.schema c) (λ k m. go k m (is_object_static x.schema c k)))
          (q, tt)
        where
          go : (k : ℕ) → k < static_total x.schema c → (b : Bool) → Every (λ (r : Ref). P r.label) (cond b (static_ref x.schema c k ∷ []) [])
          go k m true = (name _ (static_name x h.sound c l k m), tt)
          go k m false = tt

      classes_are : P loader_label → (o : ℕ) → Every (λ (r : Ref). P r.label) (flat (class_refs x.schema) (classes_at x o))
      unfolding classes_at
      classes_are q o =
          every-flat (λ c. (c < class_count x.schema) × (found_at x o c ≡ true)) (λ (r : Ref). P r.label) (class_refs x.schema)
          (λ c f. class_are q c f.0) (classes_at x o) (every-places (found_at x o) (class_count x.schema))

      refs_are : P loader_label → ((k : ℕ) → k < 268435456 → P (array_element_label + k)) → (o : ℕ) → o < n → Every (λ (r : Ref). P r.label) (refs x o)
      unfolding refs other_refs element_ref
      refs_are q e o l =
          every_append (λ (r : Ref). P r.label) (slot_refs x o) (other_refs x o) (slots_are o l)
          (every_append (λ (r : Ref). P r.label) (tab (element_ref x o) (element_count x o)) (flat (class_refs x.schema) (classes_at x o))
          (every-tab (λ (r : Ref). P r.label) (element_ref x o) (element_count x o) (λ k m. e k (omega (arith, elements_few x h.sound o l))))
          (classes_are q o))

      labels_are : P loader_label → ((k : ℕ) → k < 268435456 → P (array_element_label + k)) → (o : ℕ) → o < n → Every P (map label (edges_of x o))
      unfolding edges_of
      labels_are q e o l = lab-keeps P (refs x o) (refs_are q e o l)

    -- Elements strictly rise among the labels of one object's edges.
    edges_rise : (o : ℕ) → o < n → Rising 0 (map label (edges_of x o))
    unfolding edges_of refs other_refs
    edges_rise o l =
        let es = tab (element_ref x o) (element_count x o) in
        let cs = flat (class_refs x.schema) (classes_at x o) in
        let field : (l : ℕ) → l < x.schema.names → l < array_element_label = λ l m. omega (arith, names_few x h.sound) in
        let slots : Fields (lab (slot_refs x o)) = lab-keeps (λ l. l < array_element_label) (slot_refs x o) (slots_are (λ l. l < array_element_label) field o l) in
        let classes : Fields (lab cs) = lab-keeps (λ l. l < array_element_label) cs (classes_are (λ l. l < array_element_label) field (omega arith) o) in
        rw (lab-append (slot_refs x o) (es ++ cs), lab-append es cs)
        (rising_append 0 (lab (slot_refs x o)) (lab es ++ lab cs) (fields_rise 0 (lab (slot_refs x o)) slots)
        (rw (fields-after 0 (lab (slot_refs x o)) slots)
        (rising_append 0 (lab es) (lab cs) (elements_rise o (element_count x o)).0 (fields_rise _ (lab cs) classes))))

  -- One column of the edges: object o's part of it is that column of o's edges.
  module _ (f : Edge → ℕ) where
    abbrev of : ℕ → List ℕ
    of o = map f (edges_of x o)

    column_is : map f (edges x) ≡ collect of n
    unfolding edges
    column_is = map-collect f (edges_of x) n

    offset-of : (o : ℕ) → total (λ i. length (of i)) o ≡ offset x o
    unfolding offset
    offset-of o = total_ext _ _ o (λ i l. length-map (edges_of x i) f)

    column-part : (o : ℕ) → o < n → part (map f (edges x)) ((graph x).offsets ! o) ((graph x).offsets ! suc o) ≡ of o
    column-part o h = rw (column_is, offset_at_lem x o (omega arith), offset_at_lem x (suc o) h, ← offset-of o, ← offset-of (suc o)) (part-collect of n o h)

    column-at : (o k : ℕ) → o < n → k < length (edges_of x o) → map f (edges x) ! ((graph x).offsets ! o + k) ≡ of o ! k
    column-at o k h l = sym (part_at (map f (edges x)) ((graph x).offsets ! o) ((graph x).offsets ! suc o) k (omega (arith, degree-of x o h)))
        ∙ ap (λ (xs : List ℕ). xs ! k) (column-part o h)

    column-length : length (map f (edges x)) ≡ offset x n
    column-length = ap length column_is ∙ length-collect of n ∙ offset-of n

  pub objects_are : objects_of (graph x) ≡ n
  unfolding graph
  objects_are = ap (λ (k : ℕ). k - 1) (tab-length (offset x) (suc n)) ∙ omega arith

  pub own-labels : (o : ℕ) → o < n → own (graph x).offsets (graph x).labels o ≡ map label (edges_of x o)
  unfolding graph
  own-labels o h = column-part label o h

  -- The edges of the plain columns are the edges of each object.
  pub edges-plain : (o : ℕ) → o < n → edges_at (graph x) o ≡ edges_of x o
  unfolding edges_at graph
  edges-plain o h =
      let size : degree (graph x).offsets o ≡ length (edges_of x o) = degree-of x o h in
      let same : length (edges_at (graph x) o) ≡ length (edges_of x o) = tab-length _ (degree (graph x).offsets o) ∙ size in
      ext_get_or none_edge (edges_at (graph x) o) (edges_of x o) same (λ k l. one k (omega arith))
    where
      none_edge : Edge
      none_edge = record { target = 0; label = 0 }

      one : (k : ℕ) → k < length (edges_of x o) → get_or (edges_at (graph x) o) k none_edge ≡ get_or (edges_of x o) k none_edge
      one k l =
          tab-at (λ k. record { target = (graph x).targets ! ((graph x).offsets ! o + k); label = (graph x).labels ! ((graph x).offsets ! o + k) }) none_edge
          (degree (graph x).offsets o) k (omega (arith, degree-of x o h))
          ∙ rw (column-at target o k h l, column-at label o k h l, map_at target none_edge (edges_of x o) k l, map_at label none_edge (edges_of x o) k l)

  -- every edge leads to an object, and every weak pair has its ends among them
  every_target : Every (λ t. t < n) (graph x).targets
  unfolding graph edges edges_of
  every_target =
      every_map (λ (e : Edge). e.target < n) (λ t. t < n) target (λ e p. p) (edges x)
      (every-collect (λ (e : Edge). e.target < n) (edges_of x) n
      (λ o l. every-flat (λ (r : Ref). Unit {0}) (λ (e : Edge). e.target < n) (ref_edge ids) (λ r u. (leads ids r).0) (refs x o) (anything (refs x o))))

  abbrev Within : Pair → Type 0
  Within p = (p.object < n) × (p.target < n)

  every-pair : Every Within (weak_pairs x)
  unfolding weak_pairs weak_targets
  every-pair =
      every-sort Within pair_le (collect (pairs_of x) n)
      (every-collect Within (pairs_of x) n (λ o l. every_map (λ t. t < n) Within _ (λ t p. (l, p)) (weak_targets x o)
      (every-flat (λ (r : Ref). Unit {0}) (λ t. t < n) (ref_weak ids) (λ r u. (leads ids r).1) (refs x o) (anything (refs x o)))))

  abbrev none_pair : Pair
  none_pair = record { object = 0; target = 0 }

  pair_is : (i : ℕ) → i < length (weak_pairs x) → pair_at (graph x).weak_from (graph x).weak_to i ≡ get_or (weak_pairs x) i none_pair
  unfolding graph
  pair_is i l = rw (map_at (λ (p : Pair). p.object) none_pair (weak_pairs x) i l, map_at (λ (p : Pair). p.target) none_pair (weak_pairs x) i l)

  -- An accepted build meets PARTS.
  module _ (h : Passed x) where
    label-named : (o k : ℕ) → o < n → k < length (edges_of x o) → is_named x.schema.names (map label (edges_of x o) ! k) ≡ true
    unfolding any_of all_of
    label-named o k l m =
        every-at (λ l. is_named x.schema.names l ≡ true) 0 (map label (edges_of x o))
        (labels_are h (λ l. is_named x.schema.names l ≡ true)
        (λ l q. rw (lt-ltb l x.schema.names q, lt-ltb l 4294967296 (omega (arith, names_few x h.sound))))
        (rw (le-leb loader_label loader_label (omega arith), or_true (ltb loader_label x.schema.names), lt-ltb loader_label 4294967296 (omega arith)))
        (λ k q. rw (le-leb loader_label (array_element_label + k) (omega arith), or_true (ltb (array_element_label + k) x.schema.names), lt-ltb (array_element_label + k) 4294967296 (omega arith))) o l)
        k (omega (arith, length-map (edges_of x o) label))

    rising_own : (o k : ℕ) → o < n → k < length (edges_of x o) → is_element (map label (edges_of x o) ! k) ≡ true
        → expected (map label (edges_of x o)) k ≤ map label (edges_of x o) ! k - array_element_label
    rising_own o k l m t = rising_at (map label (edges_of x o)) k (edges_rise h o l) (omega (arith, length-map (edges_of x o) label)) t

    -- numbers of objects, as the columns say it
    within : (o : ℕ) → o < objects_of (graph x) → o < n
    within o l = omega (arith, objects_are)

    below : (v : ℕ) → v < n → v < objects_of (graph x)
    below v l = omega (arith, objects_are)

    size : (o k : ℕ) → o < n → k < degree (graph x).offsets o → k < length (edges_of x o)
    size o k l m = omega (arith, degree-of x o l)

    offsets_some : 0 < length (graph x).offsets
    unfolding graph
    offsets_some = rw (tab-length (offset x) (suc n)) (omega arith)

    offsets_start : (graph x).offsets ! 0 ≡ 0
    unfolding offset
    offsets_start = offset_at_lem x 0 (omega arith)

    offsets_rise : (o : ℕ) → o < n → (graph x).offsets ! o ≤ (graph x).offsets ! suc o
    unfolding offset
    offsets_rise o l = rw (offset_at_lem x o (omega arith), offset_at_lem x (suc o) l) (omega arith)

    offsets-end : (graph x).offsets ! objects_of (graph x) ≡ length (graph x).labels
    unfolding graph
    offsets-end = ap (λ (o : ℕ). (graph x).offsets ! o) objects_are ∙ offset_at_lem x n (le_refl n) ∙ sym (column-length label)

    pairs-length : length (graph x).weak_from ≡ length (weak_pairs x)
    unfolding graph
    pairs-length = length-map (weak_pairs x) _

    pair_within : (i : ℕ) → i < length (graph x).weak_from → Within (pair_at (graph x).weak_from (graph x).weak_to i)
    pair_within i l = let l' : i < length (weak_pairs x) =
        omega (arith, pairs-length) in subst Within (sym (pair_is i l')) (every-at Within none_pair (weak_pairs x) every-pair i l')

    pairs_sorted : (i : ℕ) → suc i < length (graph x).weak_from
        → pair_le (pair_at (graph x).weak_from (graph x).weak_to i) (pair_at (graph x).weak_from (graph x).weak_to (suc i)) ≡ true
    unfolding weak_pairs
    pairs_sorted i l =
        let l' : suc i < length (weak_pairs x) = omega (arith, pairs-length) in
        ap₂ pair_le (pair_is i (omega arith)) (pair_is (suc i) l')
        ∙ chain-at pair_le none_pair (weak_pairs x) (sort-chain pair_le either_pair (collect (pairs_of x) n)) i l'

    every_root : Every (λ r. r < n) (graph x).roots
    unfolding graph distinct_roots
    every_root = every-distinct (λ r. r < n) (sort leb x.roots) (every-sort (λ r. r < n) leb x.roots (every_index (λ r. r < n) x.roots (root_in x h)))

    even-columns : length (graph x).targets ≡ length (graph x).labels
    unfolding graph
    even-columns = length-map (edges x) target ∙ sym (length-map (edges x) label)

    pub build_meets : Meets x.schema.names (graph x)
    build_meets = record {
      some = offsets_some;
      starts = offsets_start;
      rises = λ o l. offsets_rise o (within o l);
      ends = offsets-end;
      named = λ o k l m. rw (own-labels o (within o l)) (label-named o k (within o l) (size o k (within o l) m));
      elements = λ o k l m. rw (own-labels o (within o l)) (rising_own o k (within o l) (size o k (within o l) m));
      counted = even-columns;
      targets = λ e l. below _ (every-at (λ t. t < n) 0 (graph x).targets every_target e l);
      weak_from = λ i l. below _ (pair_within i l).0;
      weak_to = λ i l. below _ (pair_within i l).1;
      weak_sorted = pairs_sorted;
      roots = λ i l. below _ (every-at (λ r. r < n) 0 (graph x).roots every_root i l);
    }

    -- "PARTS": `from_parts`, handed what an accepted build came to, finds no fault in it.
    pub build_parts : parts_faults x.schema.names (graph x) ≡ []
    build_parts = no_faults x.schema.names (graph x) build_meets
