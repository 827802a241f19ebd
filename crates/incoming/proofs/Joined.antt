-- WHO POINTS HERE, JOINED TO THE BUILDS. Of what an accepted build left, or an accepted `from_parts`, inverting is refused for room alone. Of what it then leaves, each
-- question's answer is that on the edges of the input. "Nobody holds it" is an in-degree of 0, in both directions. No premise but acceptance. Assumes nothing.
use Prim.Native.Nat.{ℕ, suc, ◌+◌, ◌-◌, ◌≤◌, ◌<◌}
use native.Mathlib.Omega.{arith}
use mathlib.Core.Path.{◌≡◌, refl, sym, ap, ap₂, ◌∙◌}
use mathlib.Core.Logic.{◌⊎◌, inl, inr}
use mathlib.Core.Bool.{true, false}
use mathlib.Core.List.{List, [], ◌∷◌, map}
use lib.Dec.{eqb}
use lib.ListN.{length}
use borrow.Author.Tests.{lt-ltb, le-ltb}
use Rattle.columns.specs.Lists.{◌!◌, one, count}
use Rattle.columns.specs.Columns.{accepts}
use Rattle.columns.proofs.Lists.{lt_or_ge, tab-length, tab-at}
use Rattle.columns.proofs.Sums.{collect_ext, total_ext, map-tab}
use Rattle.rules.specs.Input.{Input, Schema, object_count}
use Rattle.rules.specs.Edges.{Parts, Edge, edges_of, offset, graph}
use Rattle.rules.specs.Needs.{Lent, Rooms, objects_of}
use Rattle.rules.specs.Verdict.{build_says}
use Rattle.rules.specs.Parts.{parts_says}
use Rattle.rules.specs.Built.{BuildLeft, build_left, used_columns, PartsLeft, parts_left, used_parts}
use Rattle.rules.specs.Questions.{Columns, columns_of, objects_in, offset_at, edges_in, edge_at, edges_read, edges_at, reads_back, plainly, weak_read}
use Rattle.rules.specs.Incoming.{InRooms, InLeft, Incoming, places_to, sources_in, places_in, in_offset, incoming_of, invert_says, invert_left, used_incoming, Spanned}
use Rattle.rules.specs.Incoming.{edge_targets, places_at, holder_objects, holder_places, holds, unreadable, can_read, short_of_incoming, edge_total, in_offsets}
use Rattle.rules.proofs.Acceptance.{Passed, build_passed}
use Rattle.rules.proofs.Used.{used_columns_lem}
use Rattle.rules.proofs.Handed.{parts-passed, parts_few, used_parts_lem}
use Rattle.rules.proofs.Asked.{objects-same, offset-back, edges-back}
use Rattle.rules.proofs.Finished.{edges-read}
use Rattle.rules.proofs.Incoming.{can_spanned, invert_read, used_incoming_lem, entries_rise, entry-once, entry_source, sources_length}
use Rattle.rules.proofs.Holders.{objects-built, offset-built, built_none, kept_none, only_room, no_entries_lem, holders_weak}
use Rattle.ask_span.specs.Graph.{strong}
use Rattle.ask_span.specs.Reading.{count_of, span_part}
use Rattle.incoming_ask.specs.Entries.{in_span}
use Rattle.incoming_ask.proofs.Entries.{entry_refused}
use Rattle.incoming.specs.Held.{holder_at, held_before, Held, Exactly}
use Rattle.incoming.proofs.Asked.{holder_places_lem, holder_objects_lem, spans, next_is, sources_part, places-part, entry_is, none_there}

-- an answer of an object that exists, and of one that does not
each_way : (n t : ℕ) {says answer : List ℕ} → (t < n → says ≡ answer) → (n ≤ t → says ≡ 11 ∷ t ∷ []) → says ≡ plainly n t answer
each_way n t {says} {answer} a b = go (lt_or_ge t n)
  where
    go : (t < n) ⊎ (n ≤ t) → says ≡ plainly n t answer
    go (inl l) = a l ∙ rw (lt-ltb t n l)
    go (inr l) = b l ∙ rw (le-ltb t n l)

-- Of columns whose objects can all be read, by the edges read.
module _ (c : Columns) (h : Spanned c) (t : ℕ) where
  begins : (j : ℕ) → in_offset c j ≡ held_before (objects_in c) (offset_at c) (edges_read c) j
  unfolding in_offset
  begins j = total_ext _ _ j (λ i l. ap length (holder_places_lem c i))

  count_is : t < objects_in c → count_of (in_span (incoming_of c) t) ≡ 0 ∷ length (places_in c t) ∷ []
  unfolding count_of accepts
  count_is l = ap count_of (spans c h t l) ∙ ap (λ (k : ℕ). 0 ∷ k ∷ []) (next_is c h t)

  held-read : Held (incoming_of c) (objects_in c) (offset_at c) (edges_read c) t
  unfolding count_of accepts
  held-read =
      let none = none_there c h t in
      record {
        span = each_way _ t (λ l. spans c h t l ∙ ap₂ (λ (a b : ℕ). 0 ∷ a ∷ b ∷ []) (begins t) (begins (suc t))) none;
        in_degree = each_way _ t (λ l. count_is l ∙ ap (λ (xs : List ℕ). 0 ∷ length xs ∷ []) (holder_places_lem c t)) (λ l. ap count_of (none l));
        sources_of = λ l. sources_part c h t l ∙ holder_objects_lem c t;
        places_of = λ l. places-part c h t l ∙ holder_places_lem c t;
        entry_at = λ k. each_way _ t (λ l. entry_is c h t l k ∙ ap₂ (λ (a b : List ℕ). holder_at a b k) (holder_objects_lem c t) (holder_places_lem c t)) (λ l. entry_refused (incoming_of c) t k (none l) refl);
      }

-- The same of edges and offsets that are equal, object by object.
module _ {n : ℕ} {off off' : ℕ → ℕ} {es es' : ℕ → List Edge} (same-off : (o : ℕ) → o < n → off o ≡ off' o) (same-es : (o : ℕ) → o < n → es o ≡ es' o) where
  objects_ext : (t : ℕ) → holder_objects n es t ≡ holder_objects n es' t
  unfolding holder_objects
  objects_ext t = collect_ext _ _ n (λ o l. ap (λ (xs : List Edge). map (λ k. o) (places_at t (edge_targets xs))) (same-es o l))

  places_ext : (t : ℕ) → holder_places n off es t ≡ holder_places n off' es' t
  unfolding holder_places
  places_ext t = collect_ext _ _ n (λ o l. ap₂ (λ (a : ℕ) (xs : List Edge). map (λ k. a + k) (places_at t (edge_targets xs))) (same-off o l) (same-es o l))

  before_ext : (t : ℕ) → held_before n off es t ≡ held_before n off' es' t
  before_ext t = total_ext _ _ t (λ i l. ap length (places_ext i))

  held_ext : {i : Incoming} {t : ℕ} → Held i n off es t → Held i n off' es' t
  held_ext {i} {t} h = record {
    span = h.span ∙ ap₂ (λ (a b : ℕ). plainly n t (0 ∷ a ∷ b ∷ [])) (before_ext t) (before_ext (suc t));
    in_degree = h.in_degree ∙ ap (λ (xs : List ℕ). plainly n t (0 ∷ length xs ∷ [])) (places_ext t);
    sources_of = λ l. h.sources_of l ∙ objects_ext t;
    places_of = λ l. h.places_of l ∙ places_ext t;
    entry_at = λ k. h.entry_at k ∙ ap₂ (λ (a b : List ℕ). plainly n t (holder_at a b k)) (objects_ext t) (places_ext t);
  }

  exactly_ext : {objects places : List ℕ} {t : ℕ} → Exactly objects places n off es t → Exactly objects places n off' es' t
  exactly_ext {objects} {places} {t} h = record {
    rises = h.rises;
    paired = h.paired;
    once = λ o k l m.
        let e = same-es o l in
        let k_in : k < length (es o) = omega (arith, ap length e) in
        ap (λ (a : ℕ). count (a + k) places) (sym (same-off o l)) ∙ h.once o k l k_in ∙ ap (λ (xs : List Edge). one (eqb (edge_targets xs ! k) t)) e;
    back = λ q m.
        let b = h.back q m in
        let e = same-es (objects ! q) b.object in
        let f = same-off (objects ! q) b.object in
        record {
          object = b.object;
          begun = omega (arith, f, b.begun);
          edge = omega (arith, f, b.edge, ap length e);
          target = ap₂ (λ (a : ℕ) (xs : List Edge). edge_targets xs ! (places ! q - a)) (sym f) (sym e) ∙ b.target;
        };
  }

-- one law for another number of objects
held_for : {i : Incoming} {m n : ℕ} {off : ℕ → ℕ} {es : ℕ → List Edge} {t : ℕ} → m ≡ n → Held i m off es t → Held i n off es t
held_for e h = rw (← e) h

exactly_for : {a b : List ℕ} {m n : ℕ} {off : ℕ → ℕ} {es : ℕ → List Edge} {t : ℕ} → m ≡ n → Exactly a b m off es t → Exactly a b n off es t
exactly_for e h = rw (← e) h

-- The entries of readable columns are their edges exactly.
module _ (c : Columns) (h : Spanned c) (t : ℕ) where
  many : (o : ℕ) → length (edges_read c o) ≡ edges_in c o
  unfolding edges_read
  many o = tab-length (edge_at c o) (edges_in c o)

  target_at_lem : (o k : ℕ) → k < edges_in c o → edge_targets (edges_read c o) ! k ≡ c.targets ! (offset_at c o + k)
  unfolding edges_read
  target_at_lem o k l =
      ap (λ (xs : List ℕ). xs ! k) (map-tab (λ (e : Edge). e.target) (edge_at c o) (edges_in c o)) ∙ tab-at (λ k. c.targets ! (offset_at c o + k)) 0 (edges_in c o) k l

  exactly-read : Exactly (sources_in c t) (places_in c t) (objects_in c) (offset_at c) (edges_read c) t
  exactly-read = record {
    rises = entries_rise c h.climbs t;
    paired = sources_length c t;
    once = λ o k l m.
        let k_in : k < edges_in c o = omega (arith, many o) in
        entry-once c h.climbs t o k l k_in ∙ ap (λ (a : ℕ). one (eqb a t)) (sym (target_at_lem o k k_in));
    back = λ q m.
        let s = entry_source c t q m in
        let o = sources_in c t ! q in
        let e = places_in c t ! q in
        let k_in : e - offset_at c o < edges_in c o = omega (arith, s.from, s.to) in
        let whole : offset_at c o + (e - offset_at c o) ≡ e = omega (arith, s.from) in
        record {
          object = s.object;
          begun = s.from;
          edge = omega (arith, many o, k_in);
          target = target_at_lem o (e - offset_at c o) k_in ∙ ap (λ (j : ℕ). c.targets ! j) whole ∙ s.target;
        };
  }

-- inverting is not lent the weak pairs
pub weak_apart : (c : Columns) (r : InRooms) → invert_left (strong c) r ≡ invert_left c r
unfolding invert_left invert_says unreadable can_read reads_back short_of_incoming edge_total incoming_of in_offsets in_offset sources_in places_in places_to
weak_apart c r = refl

-- What inverting left of columns, accepted: the incoming side of these columns.
module _ (c : Columns) (r : InRooms) (l : InLeft) (left : l ≡ invert_left (strong c) r) (ok : accepts l.says ≡ true) where
  is_left : l ≡ invert_left c r
  is_left = left ∙ weak_apart c r

  accepted : accepts (invert_says c r) ≡ true
  unfolding invert_left
  accepted = ap (λ (z : InLeft). accepts z.says) (sym is_left) ∙ ok

  spanned : Spanned c
  spanned = can_spanned c (invert_read c r accepted)

  side : used_incoming (objects_in c) l ≡ incoming_of c
  side = ap (used_incoming (objects_in c)) is_left ∙ used_incoming_lem c r accepted

-- Where every object can be read, only ROOM refuses.
module _ (c : Columns) (none : unreadable c ≡ []) where
  room_alone : (r : InRooms) (l : InLeft) → l ≡ invert_left (strong c) r → accepts l.says ≡ false → (l.says ≡ 9 ∷ 10 ∷ []) ⊎ (l.says ≡ 9 ∷ 11 ∷ [])
  unfolding invert_left
  room_alone r l left refused = go (only_room c r none (ap accepts (sym says) ∙ refused))
    where
      says : l.says ≡ invert_says c r
      says = ap (λ (z : InLeft). z.says) (left ∙ weak_apart c r)

      go : (invert_says c r ≡ 9 ∷ 10 ∷ []) ⊎ (invert_says c r ≡ 9 ∷ 11 ∷ []) → (l.says ≡ 9 ∷ 10 ∷ []) ⊎ (l.says ≡ 9 ∷ 11 ∷ [])
      go (inl e) = inl (says ∙ e)
      go (inr e) = inr (says ∙ e)

-- THE BUILD: b is what its contract says that the call left.
module _ (x : Input) (rooms : Rooms) (b : BuildLeft) (built : b ≡ build_left x rooms) (fine : accepts b.says ≡ true) where
  abbrev n : ℕ
  n = object_count x

  abbrev c : Columns
  c = used_columns n b

  abbrev g : Columns
  g = columns_of x.schema (graph x)

  said : accepts (build_says x rooms) ≡ true
  unfolding build_left
  said = ap (λ (z : BuildLeft). accepts z.says) (sym built) ∙ fine

  passed : Passed x
  passed = build_passed x rooms said

  used : c ≡ g
  used = ap (used_columns n) built ∙ used_columns_lem x rooms said

  -- "On a build's columns no refusal but ROOM."
  pub built_room : (r : InRooms) (l : InLeft) → l ≡ invert_left (strong c) r → accepts l.says ≡ false → (l.says ≡ 9 ∷ 10 ∷ []) ⊎ (l.says ≡ 9 ∷ 11 ∷ [])
  built_room r l left refused = room_alone g (built_none x passed) r l (left ∙ ap (λ (z : Columns). invert_left (strong z) r) used) refused

  -- l is what inverting left of these columns, accepted; i its used parts.
  module _ (r : InRooms) (l : InLeft) (left : l ≡ invert_left (strong c) r) (ok : accepts l.says ≡ true) (t : ℕ) where
    abbrev i : Incoming
    i = used_incoming n l

    on_graph : l ≡ invert_left (strong g) r
    on_graph = left ∙ ap (λ (z : Columns). invert_left (strong z) r) used

    i_is : i ≡ incoming_of g
    i_is = ap (λ (k : ℕ). used_incoming k l) (sym (objects-built x passed)) ∙ side g r l on_graph ok

    pub build_held : Held i n (offset x) (edges_of x) t
    build_held =
        rw i_is
        (held_ext (λ o l. offset-built x passed o (omega arith)) (edges-read x passed)
        (held_for (objects-built x passed) (held-read g (spanned g r l on_graph ok) t)))

    -- the parts of an object that exists are its entries
    module _ (there : t < n) where
      in_graph : t < objects_in g
      in_graph = omega (arith, objects-built x passed)

      sources_are : span_part (in_span i t) i.sources ≡ sources_in g t
      sources_are = ap (λ (z : Incoming). span_part (in_span z t) z.sources) i_is ∙ sources_part g (spanned g r l on_graph ok) t in_graph

      places_are : span_part (in_span i t) i.places ≡ places_in g t
      places_are = ap (λ (z : Incoming). span_part (in_span z t) z.places) i_is ∙ places-part g (spanned g r l on_graph ok) t in_graph

      pub build_exactly : Exactly (span_part (in_span i t) i.sources) (span_part (in_span i t) i.places) n (offset x) (edges_of x) t
      build_exactly =
          rw (sources_are, places_are)
          (exactly_ext (λ o l. offset-built x passed o (omega arith)) (edges-read x passed)
          (exactly_for (objects-built x passed) (exactly-read g (spanned g r l on_graph ok) t)))

      degree : count_of (in_span i t) ≡ 0 ∷ length (places_in g t) ∷ []
      degree = ap (λ (z : Incoming). count_of (in_span z t)) i_is ∙ count_is g (spanned g r l on_graph ok) t in_graph

      -- "Nobody holds object t": the in-degree is 0 exactly where no object of the input has an edge to t.
      pub nobody_holds :
          (count_of (in_span i t) ≡ 0 ∷ 0 ∷ [] → (o : ℕ) → o < n → count t (edge_targets (edges_of x o)) ≡ 0)
          × (((o : ℕ) → o < n → count t (edge_targets (edges_of x o)) ≡ 0) → count_of (in_span i t) ≡ 0 ∷ 0 ∷ [])
      nobody_holds = (
        λ e. (no_entries_lem x passed t).0 (ap (λ (xs : List ℕ). xs ! 1) (sym degree ∙ e)),
        λ none. degree ∙ ap (λ (k : ℕ). 0 ∷ k ∷ []) ((no_entries_lem x passed t).1 none),
      )

      -- Demand 3 from the other end: whoever holds t, counted from the input alone, is an entry of t, a weak pair to t, or nobody.
      pub whoever_holds : (o : ℕ) → o < n → holds x o t ≡ count o (span_part (in_span i t) i.sources) + count t (weak_read c o)
      whoever_holds o l = rw (sources_are, used) (holders_weak x passed o t l there)

-- `from_parts` likewise, on the plain columns that were handed over.
module _ (s : Schema) (p : Parts) (lent : Lent) (b : PartsLeft) (handed : b ≡ parts_left s p lent) (fine : accepts b.says ≡ true) where
  abbrev cp : Columns
  cp = used_parts p b

  abbrev gp : Columns
  gp = columns_of s p

  parts_said : accepts (parts_says s p lent) ≡ true
  unfolding parts_left
  parts_said = ap (λ (z : PartsLeft). accepts z.says) (sym handed) ∙ fine

  parts_used : cp ≡ gp
  parts_used = ap (used_parts p) handed ∙ used_parts_lem s p lent parts_said

  pub parts_room : (r : InRooms) (l : InLeft) → l ≡ invert_left (strong cp) r → accepts l.says ≡ false → (l.says ≡ 9 ∷ 10 ∷ []) ⊎ (l.says ≡ 9 ∷ 11 ∷ [])
  parts_room r l left refused = room_alone gp (kept_none s p lent parts_said) r l (left ∙ ap (λ (z : Columns). invert_left (strong z) r) parts_used) refused

  module _ (r : InRooms) (l : InLeft) (left : l ≡ invert_left (strong cp) r) (ok : accepts l.says ≡ true) (t : ℕ) where
    abbrev ip : Incoming
    ip = used_incoming (objects_of p) l

    parts-graph : l ≡ invert_left (strong gp) r
    parts-graph = left ∙ ap (λ (z : Columns). invert_left (strong z) r) parts_used

    objects_are : objects_in gp ≡ objects_of p
    objects_are = objects-same s p (parts-passed s p lent parts_said).parts (parts_few s p lent parts_said)

    ip_is : ip ≡ incoming_of gp
    ip_is = ap (λ (k : ℕ). used_incoming k l) (sym objects_are) ∙ side gp r l parts-graph ok

    offset-kept : (o : ℕ) → o < objects_of p → offset_at gp o ≡ p.offsets ! o
    offset-kept o m = ap (λ (a : List ℕ). a ! 1) (offset-back s p (parts-passed s p lent parts_said).parts (parts_few s p lent parts_said) o (omega arith))

    pub parts_held : Held ip (objects_of p) (λ o. p.offsets ! o) (edges_at p) t
    parts_held =
        rw ip_is
        (held_ext offset-kept (edges-back s p (parts-passed s p lent parts_said).parts (parts_few s p lent parts_said))
        (held_for objects_are (held-read gp (spanned gp r l parts-graph ok) t)))
