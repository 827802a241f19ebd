-- The incoming side (M-103): the entries of an object rise and lead back to their edges, each edge stands there once, and nothing else does; and what
-- inverting gives where it accepts and where it refuses. Assumes nothing.
use Prim.Native.Nat.{ℕ, zero, suc, ◌+◌, ◌-◌, ◌*◌, ◌≤◌, ◌<◌, min}
use native.Mathlib.Nat.{not-suc-le-zero, sub_self}
use native.Mathlib.Omega.{arith}
use native.Mathlib.Decide.{dec_lt}
use mathlib.Core.Path.{◌≡◌, refl, sym, ap, ◌∙◌}
use mathlib.Core.Logic.{◌⊎◌, inl, inr}
use mathlib.Core.Bool.{Bool, true, false, not}
use mathlib.Core.List.{List, [], ◌∷◌, ◌++◌, map, map-map}
use lib.Dec.{eqb}
use lib.ListN.{length, take, length-map}
use borrow.Author.Tests.{eqb-true, leb-true, leb-false, ltb-true, not-true, not-false}
use Rattle.columns.specs.Lists.{◌!◌, collect, places, total, one, count}
use Rattle.columns.specs.Columns.{zeros, accepts, leaves}
use Rattle.columns.specs.Ranks.{Rises}
use Rattle.columns.proofs.Lists.{lt_or_ge, map_at, tab-length, places_rise}
use Rattle.columns.proofs.Every.{Every, every_map, every-places}
use Rattle.columns.proofs.Sums.{total_ext, length-collect, map-append}
use Rattle.columns.proofs.Tests.{each_of, any_false, append-empty, no_places, places_none}
use Rattle.columns.proofs.Counts.{places_count}
use Rattle.columns.proofs.Parts.{places_ext}
use Rattle.columns.proofs.Written.{used_part}
use Rattle.columns.proofs.Placing.{every_more, map_ext, total_swap, places_split, each_value, count_shift, owner_at, owner_count}
use Rattle.store.specs.Blocked.{Blocked, blocked_of, blocked, blocks_of, long_rows, above_at}
use Rattle.std.specs.Prelude.{Result}
use Rattle.rules.specs.declared.Inverse.{Inverse}
use Rattle.rules.specs.declared.InvertError.{InvertError}
use Rattle.rules.specs.Types.{inverted_says}
use Rattle.rules.specs.Verdict.{first_of, at}
use Rattle.rules.specs.Parts.{no_object}
use Rattle.rules.specs.Questions.{Columns, objects_in, offset_at, edges_in, reads_back}
use Rattle.rules.specs.Incoming.{edge_total, places_to, places_in, sources_in, in_offset, in_offsets, Incoming, incoming_of, can_read, unreadable, Spanned}
use Rattle.rules.specs.Incoming.{InRooms, short_of_incoming, invert_says, InLeft, invert_left, used_incoming}
use Rattle.rules.proofs.Types.{one_inverted}
use Rattle.rules.proofs.Acceptance.{refuse_append, refuse_at, at-empty}

-- An entry as it leads back to its edge: the object o has the place e among its edges, and the edge there goes to t.
pub record Source (c : Columns) (t o e : ℕ) : Type 0 where
  pub object : o < objects_in c
  pub from : offset_at c o ≤ e
  pub to : e < offset_at c (suc o)
  pub target : c.targets ! e ≡ t

module _ (c : Columns) where
  -- "An entry leads back to its edge": a place of o's edges, whose target is t.
  pub entry-back : (t o : ℕ) → Every (λ e. (offset_at c o ≤ e) × (e < offset_at c o + edges_in c o) × (c.targets ! e ≡ t)) (places_to c t o)
  unfolding places_to
  entry-back t o =
      every_map (λ k. (k < edges_in c o) × (eqb (c.targets ! (offset_at c o + k)) t ≡ true)) _ (λ k. offset_at c o + k)
      (λ k h. (omega arith, omega (arith, h.0), eqb-true _ _ h.1)) (places (λ k. eqb (c.targets ! (offset_at c o + k)) t) (edges_in c o)) (every-places _ (edges_in c o))

  -- each entry has its object
  pub sources_length : (t : ℕ) → length (sources_in c t) ≡ length (places_in c t)
  unfolding sources_in places_in
  sources_length t =
      length-collect (λ o. map (λ e. o) (places_to c t o)) (objects_in c) ∙ total_ext _ _ (objects_in c) (λ o l. length-map (places_to c t o) (λ e. o))
      ∙ sym (length-collect (places_to c t) (objects_in c))

  -- Object and place of an entry stand at one place of the two columns.
  pub entry_source : (t q : ℕ) → q < length (places_in c t) → Source c t (sources_in c t ! q) (places_in c t ! q)
  unfolding sources_in places_in
  entry_source t q l = owner_at (places_to c t) (Source c t) (objects_in c) each q l
    where
      each : (o : ℕ) → o < objects_in c → Every (Source c t o) (places_to c t o)
      each o m =
          every_more _ (Source c t o) (λ e h. record { object = m; from = h.0; to = omega (arith, h.0, h.1); target = h.2 }) (places_to c t o) (entry-back t o)

  -- an object stands among the sources of t once for each of its edges to t
  pub source_count : (t o : ℕ) → o < objects_in c → count o (sources_in c t) ≡ length (places_to c t o)
  unfolding sources_in
  source_count t o l = owner_count (places_to c t) (objects_in c) o l

-- Of columns whose offsets do not fall.
module _ (c : Columns) (climbs : (o : ℕ) → o < objects_in c → offset_at c o ≤ offset_at c (suc o)) where
  abbrev first : ℕ
  first = offset_at c 0

  abbrev is_to : ℕ → ℕ → Bool
  is_to t i = eqb (c.targets ! (first + i)) t

  starts : (m : ℕ) → m ≤ objects_in c → first ≤ offset_at c m
  starts zero h = omega arith
  starts (suc m) h = omega (arith, starts m (omega arith), climbs m h)

  -- the edges lie one behind the other: they are as many as places from the first offset to the last
  total-flat : (m : ℕ) → m ≤ objects_in c → total (edges_in c) m ≡ offset_at c m - first
  total-flat zero h = sym (sub_self (offset_at c 0))
  total-flat (suc m) h = omega (arith, total-flat m (omega arith), starts m (omega arith), climbs m h)

  pub edge-total : edge_total c ≡ offset_at c (objects_in c) - first
  unfolding edge_total
  edge-total = total-flat (objects_in c) (omega arith)

  -- and all places to t, object by object, are those among all edges
  pub flat-places : (t m : ℕ) → m ≤ objects_in c → collect (places_to c t) m ≡ map (λ i. first + i) (places (is_to t) (offset_at c m - first))
  unfolding places_to places
  flat-places t zero h = rw (sub_self (offset_at c 0))
  flat-places t (suc m) h =
      let a = offset_at c m - first in
      let d = edges_in c m in
      let s = starts m (omega arith) in
      let z : offset_at c (suc m) - first ≡ a + d = omega (arith, s, climbs m h) in
      let same : (k : ℕ) → first + (a + k) ≡ offset_at c m + k = λ k. omega (arith, s) in
      ap (λ (xs : List ℕ). xs ++ places_to c t m) (flat-places t m (omega arith))
      ∙ ap (λ (xs : List ℕ). map (λ i. first + i) (places (is_to t) a) ++ xs)
      (ap (map (λ k. offset_at c m + k)) (places_ext _ _ d (λ k l. ap (λ (e : ℕ). eqb (c.targets ! e) t) (sym (same k))))
      ∙ map_ext _ _ (λ k. sym (same k)) (places (λ k. is_to t (a + k)) d) ∙ sym (map-map (λ i. first + i) (λ k. a + k) (places (λ k. is_to t (a + k)) d)))
      ∙ sym (map-append (λ i. first + i) (places (is_to t) a) (map (λ k. a + k) (places (λ k. is_to t (a + k)) d)))
      ∙ ap (map (λ i. first + i)) (sym (places_split (is_to t) a d))
      ∙ ap (λ (k : ℕ). map (λ i. first + i) (places (is_to t) k)) (sym z)

  -- the entries of t: the places to t among all edges, which rise
  pub places-flat : (t : ℕ) → places_in c t ≡ map (λ i. first + i) (places (is_to t) (offset_at c (objects_in c) - first))
  unfolding places_in
  places-flat t = flat-places t (objects_in c) (omega arith)

  -- "Rising."
  pub entries_rise : (t : ℕ) → Rises (places_in c t)
  entries_rise t p q l m =
      let xs = places (is_to t) (offset_at c (objects_in c) - first) in
      let n : length (map (λ i. first + i) xs) ≡ length xs = length-map xs (λ i. first + i) in
      let b : q < length xs = omega (arith, ap length (places-flat t)) in
      rw (places-flat t, map_at (λ i. first + i) 0 xs p (omega arith), map_at (λ i. first + i) 0 xs q b)
      (omega (arith, places_rise (is_to t) (offset_at c (objects_in c) - first) p q l b))

  ends : (o k : ℕ) → o < objects_in c → k < edges_in c o → (m : ℕ) → suc o ≤ m → m ≤ objects_in c → offset_at c o + k < offset_at c m
  ends o k l h zero s z = absurd (not-suc-le-zero s)
  ends o k l h (suc m) s z = go (dec_lt o m) (λ a. ends o k l h m a (omega arith))
    where
      go : Dec (o < m) → (suc o ≤ m → offset_at c o + k < offset_at c m) → offset_at c o + k < offset_at c (suc m)
      go (yes a) ih = omega (arith, ih a, climbs m z)
      go (no a) ih = let e : m ≡ o = omega arith in rw e (omega arith)

  -- "Each edge stands there exactly once": edge k of object o among the entries of its target, and among no other's.
  pub entry-once : (t o k : ℕ) → o < objects_in c → k < edges_in c o → count (offset_at c o + k) (places_in c t) ≡ one (eqb (c.targets ! (offset_at c o + k)) t)
  entry-once t o k l h =
      let i = offset_at c o + k - first in
      let e : first + i ≡ offset_at c o + k = omega (arith, starts o (omega arith)) in
      let b : i < offset_at c (objects_in c) - first = omega (arith, ends o k l h (objects_in c) l (omega arith), starts o (omega arith)) in
      rw (places-flat t, ← e)
      (count_shift first i (places (is_to t) (offset_at c (objects_in c) - first)) ∙ places_count (is_to t) (offset_at c (objects_in c) - first) i b)

-- Of columns whose targets are objects.
module _ (c : Columns) (objects : (o k : ℕ) → o < objects_in c → k < edges_in c o → c.targets ! (offset_at c o + k) < objects_in c) where
  -- "Each edge stands there exactly once, nothing else does": as many entries as edges.
  pub entries-total : in_offset c (objects_in c) ≡ edge_total c
  unfolding in_offset edge_total places_in places_to
  entries-total =
      total_ext _ _ (objects_in c) (λ t l. length-collect (places_to c t) (objects_in c))
      ∙ total_swap (λ t o. length (places_to c t o)) (objects_in c) (objects_in c)
      ∙ total_ext _ _ (objects_in c)
      (λ o l. total_ext _ _ (objects_in c) (λ t h. length-map (places (λ k. eqb (c.targets ! (offset_at c o + k)) t) (edges_in c o)) (λ k. offset_at c o + k))
      ∙ each_value (λ k. c.targets ! (offset_at c o + k)) (objects_in c) (edges_in c o) (λ k m. objects o k l m))

-- What reading every object gives: all that inverting asks of the spans.
module _ (c : Columns) (can : (o : ℕ) → o < objects_in c → can_read c o ≡ true) where
  module _ (o : ℕ) (l : o < objects_in c) where
    back : reads_back c o ≡ true
    unfolding can_read
    back = each_of _ (can o l) 0

    is_low_lem : o < 67108864
    unfolding can_read
    is_low_lem = ltb-true _ _ (each_of _ (can o l) 1)

    is_limited : offset_at c (suc o) ≤ 268435456
    unfolding can_read
    is_limited = leb-true _ _ (each_of _ (can o l) 2)

    is_object_lem : (k : ℕ) → k < edges_in c o → c.targets ! (offset_at c o + k) < objects_in c
    unfolding reads_back
    is_object_lem k m =
        leb-false _ _ (any_false (λ k. no_object (objects_in c) c.targets (offset_at c o + k)) (edges_in c o) k (not-true _ (each_of _ back 9)) m)

  -- were there more objects, the one at the limit would not read
  few_objects : objects_in c ≤ 67108864
  few_objects = go (lt_or_ge 67108864 (objects_in c))
    where
      go : (67108864 < objects_in c) ⊎ (objects_in c ≤ 67108864) → objects_in c ≤ 67108864
      go (inl l) = absurd (omega (arith, is_low_lem 67108864 l))
      go (inr l) = l

  pub can_spanned : Spanned c
  unfolding reads_back
  can_spanned = record {
    few = few_objects;
    starts = λ o l. each_of _ (back o l) 4;
    stops = λ o l. each_of _ (back o l) 5;
    climbs = λ o l. leb-true _ _ (each_of _ (back o l) 6);
    within = λ o l. leb-true _ _ (each_of _ (back o l) 8);
    limited = is_limited;
    objects = λ o k l m. is_object_lem o l k m;
  }

-- "COLUMNS at the lowest object that can't be read back": none is listed where all read.
pub none_unreadable : (c : Columns) → unreadable c ≡ [] → (o : ℕ) → o < objects_in c → can_read c o ≡ true
unfolding unreadable
none_unreadable c e o l = not-false _ (places_none (λ o. not (can_read c o)) (objects_in c) o e l)

pub all_readable : (c : Columns) → ((o : ℕ) → o < objects_in c → can_read c o ≡ true) → unreadable c ≡ []
unfolding unreadable
all_readable c h = no_places (λ o. not (can_read c o)) (objects_in c) (λ o l. ap not (h o l))

-- What an accepted inversion gives.
module _ (c : Columns) (r : InRooms) (ok : accepts (invert_says c r) ≡ true) where
  nothing-wrong : at 12 (unreadable c) ++ at 9 (short_of_incoming c r) ≡ []
  unfolding invert_says
  nothing-wrong = (refuse_append (refuse_at 12 refl (unreadable c)) (refuse_at 9 refl (short_of_incoming c r))).none_met _ ok

  pub invert_read : (o : ℕ) → o < objects_in c → can_read c o ≡ true
  invert_read = none_unreadable c (at-empty 12 _ (append-empty (at 12 (unreadable c)) _ nothing-wrong).0)

  pub invert_room : short_of_incoming c r ≡ []
  invert_room = at-empty 9 _ (append-empty (at 12 (unreadable c)) _ nothing-wrong).1

  pub invert_says_lem : invert_says c r ≡ 0 ∷ edge_total c ∷ long_rows (in_offsets c) ∷ []
  unfolding invert_says
  invert_says_lem = ap (λ (fs : List (List ℕ)). first_of fs (0 ∷ edge_total c ∷ long_rows (in_offsets c) ∷ [])) nothing-wrong

-- How long the columns are: the entries of all objects, and one offset more than objects.
pub offsets-length : (c : Columns) → length (in_offsets c) ≡ suc (objects_in c)
unfolding in_offsets
offsets-length c = tab-length (in_offset c) (suc (objects_in c))

module _ (c : Columns) (objects : (o k : ℕ) → o < objects_in c → k < edges_in c o → c.targets ! (offset_at c o + k) < objects_in c) where
  pub places-total : length (collect (places_in c) (objects_in c)) ≡ edge_total c
  unfolding in_offset
  places-total = length-collect (places_in c) (objects_in c) ∙ entries-total c objects

  pub sources_total : length (collect (sources_in c) (objects_in c)) ≡ edge_total c
  unfolding in_offset
  sources_total =
      length-collect (sources_in c) (objects_in c) ∙ total_ext _ _ (objects_in c) (λ t l. sources_length c t) ∙ entries-total c objects

-- sides that are equal column by column
alike : {a a' b b' : List ℕ} {d d' : Blocked} → a ≡ a' → b ≡ b' → d ≡ d'
    → ◌≡◌ {A = Incoming} (record { sources = a; places = b; offsets = d }) (record { sources = a'; places = b'; offsets = d' })
alike e1 e2 e3 = cc

module _ (c : Columns) (r : InRooms) (ok : accepts (invert_says c r) ≡ true) where
  abbrev says : List ℕ
  says = invert_says c r

  kept : (xs : List ℕ) (m n : ℕ) → length xs ≡ n → take n (leaves says xs m) ≡ xs
  kept xs m n e = used_part says xs (leaves says xs m) m n ok refl e

  said : (i : ℕ) → says ! i ≡ (0 ∷ edge_total c ∷ long_rows (in_offsets c) ∷ []) ! i
  said i = ap (λ (a : List ℕ). a ! i) (invert_says_lem c r ok)

  used_offsets : blocked_of
      (take (blocks_of (suc (objects_in c))) (leaves says (blocked (in_offsets c)).bases r.bases))
      (take (suc (objects_in c)) (leaves says (blocked (in_offsets c)).short r.short))
      (take (says ! 2) (leaves says (blocked (in_offsets c)).long_at r.long_at))
      (take (says ! 2) (leaves says (blocked (in_offsets c)).long_value r.long_value))
      ≡ blocked (in_offsets c)
  unfolding blocked
  used_offsets =
      let vs = in_offsets c in
      let b = blocked vs in
      rw (
        ← offsets-length c,
        said 2,
        kept b.bases r.bases (blocks_of (length vs)) (tab-length (λ b. vs ! (b * 256)) (blocks_of (length vs))),
        kept b.short r.short (length vs) (tab-length (λ i. min (above_at vs i) 65535) (length vs)),
        kept b.long_at r.long_at (long_rows vs) refl,
        kept b.long_value r.long_value (long_rows vs) (length-map b.long_at (λ i. vs ! i)),
      )

  -- "Queries take the used parts, at the lengths a build returns": those are the incoming side of the columns.
  pub used_incoming_lem : used_incoming (objects_in c) (invert_left c r) ≡ incoming_of c
  unfolding used_incoming invert_left incoming_of
  used_incoming_lem =
      let objects = (can_spanned c (invert_read c r ok)).objects in
      alike
      (kept (collect (sources_in c) (objects_in c)) r.sources (says ! 1) (sources_total c objects ∙ sym (said 1)))
      (kept (collect (places_in c) (objects_in c)) r.places (says ! 1) (places-total c objects ∙ sym (said 1)))
      used_offsets

-- "All the new columns are zero after each" refusal.
abbrev pub zero_incoming : Columns → InRooms → InLeft
zero_incoming c r = record {
  says = invert_says c r;
  sources = zeros r.sources;
  places = zeros r.places;
  bases = zeros r.bases;
  short = zeros r.short;
  long_at = zeros r.long_at;
  long_value = zeros r.long_value;
  working = zeros r.working;
}

pub refused_incoming : (c : Columns) (r : InRooms) → accepts (invert_says c r) ≡ false → invert_left c r ≡ zero_incoming c r
unfolding invert_left leaves
refused_incoming c r e = rw e

-- No second outcome satisfies the promise: the answer's number and values, and all that is left.
pub one_inversion : (c : Columns) (rooms : InRooms) {r r' : Result Inverse InvertError} {l l' : InLeft} → inverted_says r ≡ invert_says c rooms → l ≡ invert_left c rooms
    → inverted_says r' ≡ invert_says c rooms
    → l' ≡ invert_left c rooms → (r ≡ r') × (l ≡ l')
one_inversion c rooms {r} {r'} e f e' f' = (one_inverted r r' (e ∙ sym e'), f ∙ sym f')
