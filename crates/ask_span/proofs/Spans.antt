-- Spans, parts and weak rows: an answer is in order and inside, and over columns of which the object reads back it is the rules' answer. Assumes nothing.
use mathlib.Core.Path.{◌≡◌, refl, sym, ap, ◌∙◌}
use mathlib.Core.Logic.{⊎_elim}
use mathlib.Core.Bool.{Bool, true, false, cond, ◌&&◌, false≢true}
use mathlib.Core.List.{List, [], ◌∷◌, map}
use Prim.Native.Nat.{ℕ, suc, ◌+◌, ◌-◌, ◌≤◌, ◌<◌}
use native.Mathlib.Omega.{arith}
use native.Mathlib.Numerals.{add-one}
use borrow.Author.Tests.{leb-true, le-leb, lt-ltb, le-ltb, ltb-true, ltb-false, eqb-true, eqb-false, not-true, not-false}
use lib.Dec.{ltb, leb, eqb}
use lib.ListN.{length}
use Rattle.columns.specs.Lists.{◌!◌, all_of}
use Rattle.columns.specs.Columns.{accepts}
use Rattle.columns.specs.Ranks.{Climbs, rank, bisect}
use Rattle.columns.proofs.Lists.{lt_or_ge, tab-length}
use Rattle.columns.proofs.Tests.{each_of, any_false, second_fails}
use Rattle.columns.proofs.Ranks.{bisect_climbs, climbs_next, rank_within}
use Rattle.store.specs.Blocked.{Blocked, read_back}
use Rattle.rules.specs.Edges.{Edge, pair_le}
use Rattle.rules.specs.Parts.{pair_at, unsorted}
use Rattle.rules.specs.Questions.{Columns, asked, objects_in, offset_at, edges_in, edge_at, edges_read, reads_back, weak_reads, span, edge_count, weak_referents, Promised}
use Rattle.rules.proofs.Asked.{targets-part}
use Rattle.rules.proofs.Weak.{Sorted, pair_climbs}
use Rattle.ask_span.specs.Reading.{ended, span_of, count_of, span_part, weak_end, weak_rows_of}
-- the part that a span says, where it is one of the column's
pub use Rattle.ask_part.proofs.Parts.{part_falls, part_past, part_is}

abbrev tests : List ℕ → List ℕ → ℕ → ℕ → List Bool
tests first next codes targets = accepts first ∷ accepts next ∷ leb (first ! 1) (next ! 1) ∷ leb (next ! 1) codes ∷ leb (next ! 1) targets ∷ []

-- a span that is answered does not fall, and ends within codes and targets
pub record Inside (codes targets a b : ℕ) : Type 0 where
  pub ordered : a ≤ b
  pub coded : b ≤ codes
  pub targeted : b ≤ targets

ended_inside : (first next : List ℕ) (codes targets o : ℕ) {a b : ℕ} → ended first next codes targets o ≡ 0 ∷ a ∷ b ∷ [] → Inside codes targets a b
unfolding ended
ended_inside first next codes targets o {a} {b} e = go (all_of (tests first next codes targets)) refl e
  where
    go : (t : Bool) → all_of (tests first next codes targets) ≡ t → cond t (0 ∷ first ! 1 ∷ next ! 1 ∷ []) (12 ∷ o ∷ []) ≡ 0 ∷ a ∷ b ∷ [] → Inside codes targets a b
    go true h e =
        let start : first ! 1 ≡ a = ap (λ (xs : List ℕ). xs ! 1) e in
        let end : next ! 1 ≡ b = ap (λ (xs : List ℕ). xs ! 2) e in
        record {
          ordered = omega (arith, leb-true (first ! 1) (next ! 1) (each_of (tests first next codes targets) h 2));
          coded = omega (arith, leb-true (next ! 1) codes (each_of (tests first next codes targets) h 3));
          targeted = omega (arith, leb-true (next ! 1) targets (each_of (tests first next codes targets) h 4));
        }
    go false h e = absurd (omega (arith, ap (λ (xs : List ℕ). xs ! 0) e))

-- where one of the two offsets is refused
pub first_refused : (first next : List ℕ) (codes targets o : ℕ) → accepts first ≡ false → 12 ∷ o ∷ [] ≡ ended first next codes targets o
unfolding ended all_of
first_refused first next codes targets o f = rw f

pub next_refused : (first next : List ℕ) (codes targets o : ℕ) → accepts next ≡ false → 12 ∷ o ∷ [] ≡ ended first next codes targets o
unfolding ended all_of
next_refused first next codes targets o f = rw f (go (accepts first))
  where
    go : (b : Bool) → 12 ∷ o ∷ [] ≡ cond (b && false) (0 ∷ first ! 1 ∷ next ! 1 ∷ []) (12 ∷ o ∷ [])
    go true = refl
    go false = refl

pub span_inside : (c : Blocked) (codes targets o : ℕ) {a b : ℕ} → span_of c codes targets o ≡ 0 ∷ a ∷ b ∷ [] → Inside codes targets a b
unfolding span_of
span_inside c codes targets o {a} {b} e = go (ltb o (length c.short - 1)) e
  where
    go : (t : Bool) → cond t (ended (read_back c o) (read_back c (o + 1)) codes targets o) (11 ∷ o ∷ []) ≡ 0 ∷ a ∷ b ∷ [] → Inside codes targets a b
    go true e = ended_inside (read_back c o) (read_back c (o + 1)) codes targets o e
    go false e = absurd (omega (arith, ap (λ (xs : List ℕ). xs ! 0) e))

-- and is of an object that exists
pub span_exists : (c : Blocked) (codes targets o : ℕ) {a b : ℕ} → span_of c codes targets o ≡ 0 ∷ a ∷ b ∷ [] → o < length c.short - 1
unfolding span_of
span_exists c codes targets o {a} {b} e = go (ltb o (length c.short - 1)) refl e
  where
    go : (t : Bool) → ltb o (length c.short - 1) ≡ t → cond t (ended (read_back c o) (read_back c (o + 1)) codes targets o) (11 ∷ o ∷ []) ≡ 0 ∷ a ∷ b ∷ [] → o < length c.short - 1
    go true h e = ltb-true o (length c.short - 1) h
    go false h e = absurd (omega (arith, ap (λ (xs : List ℕ). xs ! 0) e))

-- a refusal is the count's, too
pub count_refused : {says : List ℕ} (at : List ℕ) → says ≡ at → accepts says ≡ false → says ≡ count_of at
unfolding count_of
count_refused at e f = let z : accepts at ≡ false = ap accepts (sym e) ∙ f in rw z e

-- An answer that is asked of an object and is not COLUMNS was asked of one that reads.
pub asked_reads : (c : Columns) (o : ℕ) (reads : Bool) (answer says : List ℕ) → (o < objects_in c → reads ≡ true → says ≡ answer) → (objects_in c ≤ o → says ≡ 11 ∷ o ∷ [])
    → eqb (asked c o reads answer ! 0) 12 ≡ false → says ≡ asked c o reads answer
unfolding asked
asked_reads c o reads answer says inside outside = go (ltb o (objects_in c)) refl reads refl
  where
    go : (t : Bool) → ltb o (objects_in c) ≡ t → (r : Bool) → reads ≡ r → eqb (cond t (cond r answer (12 ∷ o ∷ [])) (11 ∷ o ∷ []) ! 0) 12 ≡ false
        → says ≡ cond t (cond r answer (12 ∷ o ∷ [])) (11 ∷ o ∷ [])
    go true t true r e = inside (ltb-true _ _ t) r
    go true t false r e = absurd (false≢true (sym e))
    go false t r q e = outside (ltb-false _ _ t)

-- an answer of three cases that is COLUMNS gives the object
columns_only : (t u : Bool) (o : ℕ) (values : List ℕ) → eqb (cond t (cond u (0 ∷ values) (12 ∷ o ∷ [])) (11 ∷ o ∷ []) ! 0) 12 ≡ true → cond t (cond u (0 ∷ values) (12 ∷ o ∷ [])) (11 ∷ o ∷ []) ≡ 12 ∷ o ∷ []
columns_only true true o values e = absurd (false≢true e)
columns_only true false o values e = refl
columns_only false u o values e = absurd (false≢true e)

-- the rank of the next number is no smaller
pub rank-next : (xs : List ℕ) (x : ℕ) → rank xs x ≤ rank xs (suc x)
unfolding rank
rank-next [] x = omega arith
rank-next (a ∷ xs) x =
    ⊎_elim
    (λ h. rw (lt-ltb a x h, lt-ltb a (suc x) (omega arith)) (omega (arith, rank-next xs x)))
    (λ h. rw (le-ltb a x h) (omega (arith, rank-next xs x)))
    (lt_or_ge a x)

all_five : {a b d e f : Bool} → a ≡ true → b ≡ true → d ≡ true → e ≡ true → f ≡ true → all_of (a ∷ b ∷ d ∷ e ∷ f ∷ []) ≡ true
unfolding all_of
all_five a b d e f = rw (a, b, d, e, f)

module _ (c : Columns) (o : ℕ) where
  abbrev codes : ℕ
  codes = length c.labels.codes

  abbrev targets : ℕ
  targets = length c.targets

  -- of an object that reads back the offsets read, and the span is theirs
  pub span-read : o < objects_in c → reads_back c o ≡ true → span_of c.offsets codes targets o ≡ 0 ∷ offset_at c o ∷ offset_at c (suc o) ∷ []
  unfolding span_of ended reads_back
  span-read l h =
      let t = each_of _ h in
      rw (lt-ltb o (objects_in c) l, add-one o) (five (t 4) (t 5) (t 6) (t 7) (t 8))
    where
      five : accepts (read_back c.offsets o) ≡ true → accepts (read_back c.offsets (suc o)) ≡ true → leb (offset_at c o) (offset_at c (suc o)) ≡ true
          → leb (offset_at c (suc o)) codes ≡ true → leb (offset_at c (suc o)) targets ≡ true
          → cond (all_of (tests (read_back c.offsets o) (read_back c.offsets (suc o)) codes targets)) (0 ∷ offset_at c o ∷ offset_at c (suc o) ∷ []) (12 ∷ o ∷ []) ≡ 0 ∷ offset_at c o ∷ offset_at c (suc o) ∷ []
      five a b d e f = ap (λ (z : Bool). cond z (0 ∷ offset_at c o ∷ offset_at c (suc o) ∷ []) (12 ∷ o ∷ [])) (all_five a b d e f)

  pub span_none : objects_in c ≤ o → span_of c.offsets codes targets o ≡ 11 ∷ o ∷ []
  unfolding span_of
  span_none l = rw (le-ltb o (objects_in c) l)

  -- COLUMNS is given with the object
  pub span-columns : eqb (span_of c.offsets codes targets o ! 0) 12 ≡ true → span_of c.offsets codes targets o ≡ 12 ∷ o ∷ []
  unfolding span_of ended
  span-columns = columns_only (ltb o (objects_in c)) (all_of (tests (read_back c.offsets o) (read_back c.offsets (o + 1)) codes targets)) o _

  -- `span` keeps the promise over any columns, and so does the count.
  pub span_promised : Promised o (span_of c.offsets codes targets o) (span c o)
  unfolding span
  span_promised = record { answered = asked_reads c o (reads_back c o) _ _ span-read span_none; columns = span-columns }

  count-read : o < objects_in c → reads_back c o ≡ true → count_of (span_of c.offsets codes targets o) ≡ 0 ∷ length (edges_read c o) ∷ []
  unfolding count_of accepts edges_read
  count-read l h = ap count_of (span-read l h) ∙ ap (λ (n : ℕ). 0 ∷ n ∷ []) (sym (tab-length (edge_at c o) (edges_in c o)))

  count_index : objects_in c ≤ o → count_of (span_of c.offsets codes targets o) ≡ 11 ∷ o ∷ []
  unfolding count_of accepts
  count_index l = ap count_of (span_none l)

  count-columns : eqb (count_of (span_of c.offsets codes targets o) ! 0) 12 ≡ true → count_of (span_of c.offsets codes targets o) ≡ 12 ∷ o ∷ []
  unfolding count_of
  count-columns = go (accepts says) (span-columns)
    where
      says : List ℕ
      says = span_of c.offsets codes targets o

      go : (t : Bool) → (eqb (says ! 0) 12 ≡ true → says ≡ 12 ∷ o ∷ []) → eqb (cond t (0 ∷ (says ! 2 - says ! 1) ∷ []) says ! 0) 12 ≡ true
          → cond t (0 ∷ (says ! 2 - says ! 1) ∷ []) says ≡ 12 ∷ o ∷ []
      go true h e = absurd (false≢true e)
      go false h e = h e

  pub count_promised : Promised o (count_of (span_of c.offsets codes targets o)) (edge_count c o)
  unfolding edge_count
  count_promised = record { answered = asked_reads c o (reads_back c o) _ _ count-read count_index; columns = count-columns }

  -- The weak rows, where the pairs are sorted.
  pub weak_ordered : weak_reads c ≡ true → Sorted c.weak_from c.weak_to
  unfolding weak_reads Sorted
  weak_ordered h i l = before (any_false (unsorted c.weak_from c.weak_to) _ (suc i) (not-true _ (each_of _ h 1)) l)
    where
      before : unsorted c.weak_from c.weak_to (suc i) ≡ false → pair_le (pair_at c.weak_from c.weak_to i) (pair_at c.weak_from c.weak_to (suc i)) ≡ true
      before e = not-false _ (second_fails _ _ e (lt-ltb 0 (suc i) (omega arith)))

  pub weak_climbs : weak_reads c ≡ true → Climbs c.weak_from
  unfolding Sorted
  weak_climbs h i l = pair_climbs (pair_at c.weak_from c.weak_to i) (pair_at c.weak_from c.weak_to (suc i)) (weak_ordered h i l)

  pub weak_paired : weak_reads c ≡ true → length c.weak_from ≡ length c.weak_to
  unfolding weak_reads
  weak_paired h = eqb-true _ _ (each_of _ h 0)

  -- on pairs that are sorted the rows end at the rank of the next object
  weak-end : weak_reads c ≡ true → weak_end c.weak_from o (rank c.weak_from o) ≡ rank c.weak_from (suc o)
  unfolding weak_end all_of
  weak-end h = go (ltb (rank c.weak_from o) (length c.weak_from)) refl (eqb (c.weak_from ! rank c.weak_from o) o) refl
    where
      go : (a : Bool) → ltb (rank c.weak_from o) (length c.weak_from) ≡ a → (b : Bool) → eqb (c.weak_from ! rank c.weak_from o) o ≡ b
          → cond (all_of (a ∷ b ∷ [])) (bisect c.weak_from (o + 1)) (rank c.weak_from o) ≡ rank c.weak_from (suc o)
      go true e true d = rw (add-one o) (bisect_climbs c.weak_from (suc o) (weak_climbs h))
      go true e false d = rw (← add-one o) (sym (climbs_next c.weak_from o (weak_climbs h) (λ l q. eqb-false _ _ d q)))
      go false e b d = rw (← add-one o) (sym (climbs_next c.weak_from o (weak_climbs h) (λ l q. absurd (omega (arith, ltb-false (rank c.weak_from o) (length c.weak_from) e)))))

  pub weak-read : o < objects_in c → weak_reads c ≡ true → weak_rows_of (length c.offsets.short) c.weak_from c.weak_to o ≡ 0 ∷ rank c.weak_from o ∷ rank c.weak_from (suc o) ∷ []
  unfolding weak_rows_of all_of
  weak-read l h =
      rw (
        lt-ltb o (objects_in c) l,
        bisect_climbs c.weak_from o (weak_climbs h),
        weak-end h,
        le-leb (rank c.weak_from o) (rank c.weak_from (suc o)) (rank-next c.weak_from o),
        le-leb (rank c.weak_from (suc o)) (length c.weak_to) (omega (arith, rank_within c.weak_from (suc o), weak_paired h)),
      )

  pub weak_index : objects_in c ≤ o → weak_rows_of (length c.offsets.short) c.weak_from c.weak_to o ≡ 11 ∷ o ∷ []
  unfolding weak_rows_of
  weak_index l = rw (le-ltb o (objects_in c) l)

  pub weak-columns : eqb (weak_rows_of (length c.offsets.short) c.weak_from c.weak_to o ! 0) 12 ≡ true → weak_rows_of (length c.offsets.short) c.weak_from c.weak_to o ≡ 12 ∷ o ∷ []
  unfolding weak_rows_of
  weak-columns = columns_only (ltb o (objects_in c)) (all_of (leb (bisect c.weak_from o) (weak_end c.weak_from o (bisect c.weak_from o)) ∷ leb (weak_end c.weak_from o (bisect c.weak_from o)) (length c.weak_to) ∷ [])) o _

  pub weak_promised : Promised o (weak_rows_of (length c.offsets.short) c.weak_from c.weak_to o) (weak_referents c o)
  unfolding weak_referents
  weak_promised = record { answered = asked_reads c o (weak_reads c) _ _ weak-read weak_index; columns = weak-columns }

-- The targets of an object that reads back: the part that its span says holds the targets of its edges.
pub targets-read : (c : Columns) (o : ℕ) → o < objects_in c → reads_back c o ≡ true
    → span_part (span_of c.offsets (length c.labels.codes) (length c.targets) o) c.targets ≡ map (λ (e : Edge). e.target) (edges_read c o)
targets-read c o l h =
    let says = span-read c o l h in
    let inside = span_inside c.offsets (length c.labels.codes) (length c.targets) o says in
    ap (λ (s : List ℕ). span_part s c.targets) says
    ∙ part_is c.targets (offset_at c o) (offset_at c (suc o)) inside.ordered inside.targeted
    ∙ sym (targets-part c o inside.targeted)

-- weak rows that are answered end within the targets
pub weak_inside : (short : ℕ) (from to : List ℕ) (o : ℕ) {a b : ℕ} → weak_rows_of short from to o ≡ 0 ∷ a ∷ b ∷ [] → b ≤ length to
unfolding weak_rows_of
weak_inside short from to o {a} {b} e = go (ltb o (short - 1)) (all_of rows) refl e
  where
    end : ℕ
    end = weak_end from o (bisect from o)

    rows : List Bool
    rows = leb (bisect from o) end ∷ leb end (length to) ∷ []

    go : (t u : Bool) → all_of rows ≡ u → cond t (cond u (0 ∷ bisect from o ∷ end ∷ []) (12 ∷ o ∷ [])) (11 ∷ o ∷ []) ≡ 0 ∷ a ∷ b ∷ [] → b ≤ length to
    go true true h e =
        let last : end ≡ b = ap (λ (xs : List ℕ). xs ! 2) e in
        omega (arith, leb-true end (length to) (each_of rows h 1))
    go true false h e = absurd (omega (arith, ap (λ (xs : List ℕ). xs ! 0) e))
    go false u h e = absurd (omega (arith, ap (λ (xs : List ℕ). xs ! 0) e))
