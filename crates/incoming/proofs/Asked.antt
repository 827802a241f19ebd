-- The questions on the incoming side of columns whose objects can all be read: each answer is that on the objects' own edges. Assumes nothing.
use Prim.Native.Nat.{ℕ, suc, ◌+◌, ◌-◌, ◌≤◌, ◌<◌, min}
use native.Mathlib.Numerals.{add-one}
use native.Mathlib.Omega.{arith}
use mathlib.Core.Path.{◌≡◌, sym, ap, ap₂, ◌∙◌}
use mathlib.Core.Logic.{◌⊎◌, inl, inr}
use mathlib.Core.Bool.{cond}
use mathlib.Core.List.{List, [], ◌∷◌, map, map-map}
use lib.Dec.{ltb}
use lib.ListN.{length}
use borrow.Author.Tests.{lt-ltb, le-ltb, le-leb}
use Rattle.columns.specs.Lists.{◌!◌, total, part, all_of}
use Rattle.columns.specs.Columns.{accepts}
use Rattle.columns.proofs.Lists.{lt_or_ge, tab-length, tab-at}
use Rattle.columns.proofs.Sums.{collect_ext, total_ext, total-le-total, part_at, part-collect}
use Rattle.store.specs.Blocked.{blocked, read_back, above_at}
use Rattle.store.proofs.Theorems.{reads_back_lem}
use Rattle.store.proofs.Verdict.{climbs_high}
use Rattle.rules.specs.Questions.{Columns, objects_in, offset_at, edges_read}
use Rattle.rules.specs.Incoming.{edge_total, sources_in, places_in, in_offset, in_offsets, Incoming, incoming_of, Spanned, edge_targets, places_at}
use Rattle.rules.specs.Incoming.{holder_objects, holder_places}
use Rattle.rules.proofs.Incoming.{entry_source, sources_length, offsets-length, entries-total, edge-total, sources_total, places-total}
use Rattle.rules.proofs.Holders.{to_read}
use Rattle.ask_span.specs.Reading.{span_of, ended, span_part}
use Rattle.ask_span.proofs.Spans.{part_is}
use Rattle.incoming_ask.specs.Entries.{in_span, in_objects, entry_in, entry_of}
use Rattle.incoming_ask.proofs.Entries.{no_entry, is_entry, entry_spanned}
use Rattle.incoming.specs.Held.{holder_at}
use Rattle.incoming.proofs.Whole.{offsets_climb}

-- the entries of t by the edges read
pub holder_places_lem : (c : Columns) (t : ℕ) → places_in c t ≡ holder_places (objects_in c) (offset_at c) (edges_read c) t
unfolding places_in holder_places
holder_places_lem c t = collect_ext _ _ (objects_in c) (λ o l. to_read c t o)

pub holder_objects_lem : (c : Columns) (t : ℕ) → sources_in c t ≡ holder_objects (objects_in c) (edges_read c) t
unfolding sources_in holder_objects
holder_objects_lem c t =
    collect_ext _ _ (objects_in c) (λ o l. ap (map (λ e. o)) (to_read c t o) ∙ map-map (λ e. o) (λ k. offset_at c o + k) (places_at t (edge_targets (edges_read c o))))

module _ (c : Columns) (h : Spanned c) (t : ℕ) where
  abbrev n : ℕ
  n = objects_in c

  abbrev i : Incoming
  i = incoming_of c

  abbrev vs : List ℕ
  vs = in_offsets c

  objects_in_lem : length i.offsets.short - 1 ≡ n
  unfolding incoming_of blocked
  objects_in_lem =
      let long : length i.offsets.short ≡ suc n = tab-length (λ j. min (above_at vs j) 65535) (length vs) ∙ offsets-length c in
      omega (arith, long)

  offset_is : (j : ℕ) → j ≤ n → vs ! j ≡ in_offset c j
  unfolding in_offsets
  offset_is j l = tab-at (in_offset c) 0 (suc n) j (omega arith)

  total_is : in_offset c n ≡ edge_total c
  total_is = entries-total c h.objects

  within : (j : ℕ) → j ≤ n → in_offset c j ≤ edge_total c
  unfolding in_offset
  within j l =
      let z : n ≡ j + (n - j) = omega arith in
      omega (arith, total_is, total-le-total (λ i. length (places_in c i)) j (n - j), ap (total (λ i. length (places_in c i))) z)

  -- fewer edges than document 01's limit of places
  few : edge_total c ≤ 268435456
  few = omega (arith, edge-total c h.climbs, go (lt_or_ge 0 n))
    where
      go : (0 < n) ⊎ (n ≤ 0) → offset_at c n - offset_at c 0 ≤ 268435456
      go (inl l) = let last : suc (n - 1) ≡ n = omega arith in omega (arith, ap (offset_at c) last, h.limited (n - 1) (omega arith))
      go (inr l) = let none : n ≡ 0 = omega arith in omega (arith, ap (offset_at c) none)

  back : (j : ℕ) → j ≤ n → read_back i.offsets j ≡ 0 ∷ in_offset c j ∷ []
  unfolding incoming_of
  back j l =
      reads_back_lem vs j (omega (arith, offsets-length c)) (omega (arith, offset_is j l, within j l, few)) (omega (arith, climbs_high vs (offsets_climb c)))
      ∙ ap (λ (v : ℕ). 0 ∷ v ∷ []) (offset_is j l)

  long_sources : length i.sources ≡ edge_total c
  unfolding incoming_of
  long_sources = sources_total c h.objects

  long_places : length i.places ≡ edge_total c
  unfolding incoming_of
  long_places = places-total c h.objects

  climbs_next : in_offset c t ≤ in_offset c (suc t)
  unfolding in_offset
  climbs_next = omega arith

  pub next_is : in_offset c (suc t) - in_offset c t ≡ length (places_in c t)
  unfolding in_offset
  next_is = omega arith

  -- of an object that exists
  module _ (l : t < n) where
    pub spans : in_span i t ≡ 0 ∷ in_offset c t ∷ in_offset c (suc t) ∷ []
    unfolding span_of ended all_of accepts
    spans =
        rw (
          objects_in_lem,
          lt-ltb t n l,
          add-one t,
          back t (omega arith),
          back (suc t) l,
          le-leb (in_offset c t) (in_offset c (suc t)) climbs_next,
          le-leb (in_offset c (suc t)) (length i.sources) (omega (arith, long_sources, within (suc t) l)),
          le-leb (in_offset c (suc t)) (length i.places) (omega (arith, long_places, within (suc t) l)),
        )

    pub sources_part : span_part (in_span i t) i.sources ≡ sources_in c t
    unfolding incoming_of in_offset
    sources_part =
        ap (λ (says : List ℕ). span_part says i.sources) spans
        ∙ part_is i.sources (in_offset c t) (in_offset c (suc t)) climbs_next (omega (arith, long_sources, within (suc t) l))
        ∙ ap₂ (part i.sources) (starts t) (starts (suc t)) ∙ part-collect (sources_in c) n t l
      where
        starts : (j : ℕ) → in_offset c j ≡ total (λ i. length (sources_in c i)) j
        starts j = total_ext _ _ j (λ i m. sym (sources_length c i))

    pub places-part : span_part (in_span i t) i.places ≡ places_in c t
    unfolding incoming_of in_offset
    places-part =
        ap (λ (says : List ℕ). span_part says i.places) spans
        ∙ part_is i.places (in_offset c t) (in_offset c (suc t)) climbs_next (omega (arith, long_places, within (suc t) l)) ∙ part-collect (places_in c) n t l

    -- entry k stands at the k-th place of these parts
    module _ (k : ℕ) (m : k < length (places_in c t)) where
      inside : k < in_offset c (suc t) - in_offset c t
      inside = omega (arith, next_is)

      source_at : i.sources ! (in_offset c t + k) ≡ sources_in c t ! k
      source_at =
          sym (part_at i.sources (in_offset c t) (in_offset c (suc t)) k inside)
          ∙ ap (λ (xs : List ℕ). xs ! k) (sym (part_is i.sources (in_offset c t) (in_offset c (suc t)) climbs_next (omega (arith, long_sources, within (suc t) l))) ∙ ap (λ (says : List ℕ). span_part says i.sources) (sym spans) ∙ sources_part)

      place_at : i.places ! (in_offset c t + k) ≡ places_in c t ! k
      place_at =
          sym (part_at i.places (in_offset c t) (in_offset c (suc t)) k inside)
          ∙ ap (λ (xs : List ℕ). xs ! k) (sym (part_is i.places (in_offset c t) (in_offset c (suc t)) climbs_next (omega (arith, long_places, within (suc t) l))) ∙ ap (λ (says : List ℕ). span_part says i.places) (sym spans) ∙ places-part)

    pub entry_is : (k : ℕ) → entry_of i t k ≡ holder_at (sources_in c t) (places_in c t) k
    unfolding holder_at
    entry_is k = entry_spanned i t k spans ∙ go (lt_or_ge k (length (places_in c t)))
      where
        go : (k < length (places_in c t)) ⊎ (length (places_in c t) ≤ k)
            → entry_in i.sources i.places (in_offset c t) (in_offset c (suc t)) (in_objects i) t k
            ≡ cond (ltb k (length (places_in c t))) (0 ∷ sources_in c t ! k ∷ places_in c t ! k ∷ []) (11 ∷ k ∷ [])
        go (inl m) =
            let low : i.sources ! (in_offset c t + k) < in_objects i = omega (arith, source_at k m, objects_in_lem, (entry_source c t k m).object) in
            is_entry i.sources i.places (in_offset c t) (in_offset c (suc t)) (in_objects i) t k (inside k m) low
            ∙ rw (lt-ltb k (length (places_in c t)) m, source_at k m, place_at k m)
        go (inr m) =
            no_entry i.sources i.places (in_offset c t) (in_offset c (suc t)) (in_objects i) t k (omega (arith, next_is)) ∙ rw (le-ltb k (length (places_in c t)) m)

  -- of one that does not
  pub none_there : n ≤ t → in_span i t ≡ 11 ∷ t ∷ []
  unfolding span_of
  none_there l = rw (objects_in_lem, le-ltb t n l)
