-- Where the long and escape lists rise, an object can be read exactly where its span reads, its targets are objects and a walk gets past its labels.
-- Assumes nothing.
use Prim.Native.Nat.{ℕ, suc, ◌-◌, ◌≤◌, ◌<◌}
use native.Mathlib.Omega.{arith}
use native.Mathlib.Numerals.{add-one}
use mathlib.Core.Path.{◌≡◌, refl, sym, ap, ◌∙◌}
use mathlib.Core.Bool.{Bool, true, false, cond, not}
use mathlib.Core.List.{List, [], ◌∷◌}
use lib.Dec.{eqb, leb, ltb}
use lib.ListN.{length}
use borrow.Author.Tests.{lt-ltb, le-ltb, ltb-true, le-leb, lt-leb, leb-true, leb-false, eqb-true, not-true}
use Rattle.columns.specs.Lists.{◌!◌, any, all_of}
use Rattle.columns.specs.Columns.{accepts}
use Rattle.columns.specs.Ranks.{Rises}
use Rattle.columns.proofs.Ranks.{steps_rise}
use Rattle.columns.proofs.Answers.{accepting}
use Rattle.columns.proofs.Tests.{each_of, any_false, second_fails, and_true}
use Rattle.store.specs.Blocked.{Blocked, read_back}
use Rattle.rules.specs.Questions.{Columns, objects_in, offset_at, edges_in, label_reads, reads_back, rises}
use Rattle.rules.specs.Verdict.{falls}
use Rattle.rules.specs.Incoming.{can_read}
use Rattle.ask_span.specs.Reading.{ended, span_of}
use Rattle.ask_span.proofs.Spans.{span_exists}
use Rattle.incoming_read.specs.Unread.{lists_rise, span_reads}
use Rattle.incoming_read.specs.Steps.{objects_only, walks_past}
use Rattle.incoming_read.proofs.Walked.{walks_past_lem}

-- tests that hold together are one
pub alike : (a b : Bool) → (a ≡ true → b ≡ true) → (b ≡ true → a ≡ true) → a ≡ b
alike true b f g = sym (f refl)
alike false true f g = g refl
alike false false f g = refl

-- the tests of a span
abbrev tests : Blocked → ℕ → ℕ → ℕ → List Bool
tests b codes targets o =
    accepts (read_back b o) ∷ accepts (read_back b (suc o)) ∷ leb (read_back b o ! 1) (read_back b (suc o) ! 1)
    ∷ leb (read_back b (suc o) ! 1) codes ∷ leb (read_back b (suc o) ! 1) targets ∷ []

-- the same as facts, with the limits
pub record SpanMeets (b : Blocked) (codes targets o : ℕ) : Type 0 where
  pub first : accepts (read_back b o) ≡ true
  pub next : accepts (read_back b (suc o)) ≡ true
  pub ordered : read_back b o ! 1 ≤ read_back b (suc o) ! 1
  pub coded : read_back b (suc o) ! 1 ≤ codes
  pub targeted : read_back b (suc o) ! 1 ≤ targets
  pub few : o < 67108864
  pub limited : read_back b (suc o) ! 1 ≤ 268435456

module _ (b : Blocked) (codes targets o : ℕ) (l : o < length b.short - 1) where
  accepts-span : accepts (span_of b codes targets o) ≡ all_of (tests b codes targets o)
  unfolding span_of ended accepts
  accepts-span = rw (lt-ltb o (length b.short - 1) l, add-one o) (go (all_of (tests b codes targets o)))
    where
      go : (t : Bool) → eqb (cond t (0 ∷ read_back b o ! 1 ∷ read_back b (suc o) ! 1 ∷ []) (12 ∷ o ∷ []) ! 0) 0 ≡ t
      go true = refl
      go false = refl

  pub span_meets : span_reads b codes targets o ≡ true → SpanMeets b codes targets o
  unfolding span_reads
  span_meets h =
      let t = each_of (tests b codes targets o) (sym accepts-span ∙ each_of _ h 0) in
      record {
        first = t 0;
        next = t 1;
        ordered = leb-true _ _ (t 2);
        coded = leb-true _ _ (t 3);
        targeted = leb-true _ _ (t 4);
        few = ltb-true _ _ (each_of _ h 1);
        limited = leb-true _ _ (each_of _ h 2);
      }

  pub meets_span : SpanMeets b codes targets o → span_reads b codes targets o ≡ true
  unfolding span_reads all_of
  meets_span m =
      rw (
        accepts-span,
        m.first,
        m.next,
        le-leb _ _ m.ordered,
        le-leb _ _ m.coded,
        le-leb _ _ m.targeted,
        lt-ltb _ _ m.few,
        le-leb _ _ m.limited,
      )

-- a span that is answered is that of the two offsets
pub span-offsets : (b : Blocked) (codes targets o : ℕ) {s e : ℕ} → span_of b codes targets o ≡ 0 ∷ s ∷ e ∷ [] → (s ≡ read_back b o ! 1) × (e ≡ read_back b (suc o) ! 1)
unfolding span_of ended
span-offsets b codes targets o {s} {e} h = go (all_of (tests b codes targets o)) (rw (lt-ltb _ _ (span_exists b codes targets o h), add-one o) at h)
  where
    go : (t : Bool) → cond t (0 ∷ read_back b o ! 1 ∷ read_back b (suc o) ! 1 ∷ []) (12 ∷ o ∷ []) ≡ 0 ∷ s ∷ e ∷ [] → (s ≡ read_back b o ! 1) × (e ≡ read_back b (suc o) ! 1)
    go true q = (sym (ap (λ (xs : List ℕ). xs ! 1) q), sym (ap (λ (xs : List ℕ). xs ! 2) q))
    go false q = absurd (omega (arith, ap (λ (xs : List ℕ). xs ! 0) q))

-- the four lists of columns, tested
abbrev pub risen : Columns → Bool
risen c = lists_rise c.offsets.long_at c.offsets.long_value c.labels.escape_at c.labels.escape_label

tested-rises : (xs : List ℕ) → rises xs ≡ true → Rises xs
unfolding rises
tested-rises xs h = steps_rise xs (λ i m. leb-false _ _ (second_fails _ _ (any_false (falls xs) (length xs) (suc i) (not-true _ h) m) (lt-ltb 0 (suc i) (omega arith))))

pub all_three : {a b d : Bool} → a ≡ true → b ≡ true → d ≡ true → all_of (a ∷ b ∷ d ∷ []) ≡ true
unfolding all_of
all_three a b d = rw (a, b, d)

pub all_four : {a b d e : Bool} → a ≡ true → b ≡ true → d ≡ true → e ≡ true → all_of (a ∷ b ∷ d ∷ e ∷ []) ≡ true
unfolding all_of
all_four a b d e = rw (a, b, d, e)

all_eleven : {a b d e f g h i j k m : Bool} → a ≡ true → b ≡ true → d ≡ true → e ≡ true → f ≡ true → g ≡ true → h ≡ true → i ≡ true → j ≡ true → k ≡ true → m ≡ true
    → all_of (a ∷ b ∷ d ∷ e ∷ f ∷ g ∷ h ∷ i ∷ j ∷ k ∷ m ∷ []) ≡ true
unfolding all_of
all_eleven a b d e f g h i j k m = rw (a, b, d, e, f, g, h, i, j, k, m)

-- the span of an object that can be read
pub span_can : (c : Columns) (o : ℕ) → can_read c o ≡ true → SpanMeets c.offsets (length c.labels.codes) (length c.targets) o
unfolding can_read reads_back
span_can c o h =
    let t = each_of _ (each_of _ h 0) in
    record {
      first = t 4;
      next = t 5;
      ordered = leb-true _ _ (t 6);
      coded = leb-true _ _ (t 7);
      targeted = leb-true _ _ (t 8);
      few = ltb-true _ _ (each_of _ h 1);
      limited = leb-true _ _ (each_of _ h 2);
    }

regroup : (z a b x y : Bool) → z ≡ true → all_of (all_of (z ∷ a ∷ b ∷ []) ∷ x ∷ y ∷ []) ≡ all_of (a ∷ b ∷ x ∷ y ∷ [])
unfolding all_of
regroup z true true x y e = rw e
regroup z true false x y e = rw e
regroup z false b x y e = rw e

module _ (c : Columns) (o : ℕ) where
  abbrev codes : ℕ
  codes = length c.labels.codes

  abbrev targets : ℕ
  targets = length c.targets

  -- what is tested of one object, where the lists rise
  abbrev parts : List Bool
  parts =
      span_reads c.offsets codes targets o
      ∷ objects_only (objects_in c) c.targets (offset_at c o) (edges_in c o)
      ∷ walks_past c.labels (offset_at c o) (edges_in c o)
      ∷ []

  module _ (rise : risen c ≡ true) (l : o < objects_in c) where
    pub walks : walks_past c.labels (offset_at c o) (edges_in c o) ≡ not (any (λ k. not (label_reads c.labels (offset_at c o) k)) (edges_in c o))
    unfolding lists_rise
    walks = walks_past_lem c.labels (tested-rises c.labels.escape_at (each_of _ rise 2)) (eqb-true _ _ (each_of _ rise 3)) (offset_at c o) (edges_in c o)

    apart : can_read c o ≡ true → all_of parts ≡ true
    unfolding can_read reads_back objects_only
    apart h =
        let t = each_of _ (each_of _ h 0) in
        all_three (meets_span c.offsets codes targets o l (span_can c o h)) (t 9) (walks ∙ t 10)

    together : all_of parts ≡ true → can_read c o ≡ true
    unfolding can_read reads_back objects_only lists_rise
    together h =
        let r = each_of _ rise in
        let m = span_meets c.offsets codes targets o l (each_of parts h 0) in
        all_three
        (all_eleven (r 0) (r 1) (r 2) (r 3) m.first m.next (le-leb _ _ m.ordered) (le-leb _ _ m.coded) (le-leb _ _ m.targeted) (each_of parts h 1) (sym walks ∙ each_of parts h 2))
        (lt-ltb _ _ m.few) (le-leb _ _ m.limited)

    pub can_read_lem : can_read c o ≡ all_of parts
    can_read_lem = alike (can_read c o) (all_of parts) apart together

    -- by the span that is answered, or where none is
    pub span-read : {s e : ℕ} → span_of c.offsets codes targets o ≡ 0 ∷ s ∷ e ∷ []
        → can_read c o ≡ all_of (ltb o 67108864 ∷ leb e 268435456 ∷ objects_only (objects_in c) c.targets s (e - s) ∷ walks_past c.labels s (e - s) ∷ [])
    unfolding span_reads
    span-read {s} {e} h =
        let at = span-offsets c.offsets codes targets o h in
        can_read_lem ∙ rw (at.0, at.1)
        (regroup (accepts (span_of c.offsets codes targets o)) (ltb o 67108864) (leb (offset_at c (suc o)) 268435456) (objects_only (objects_in c) c.targets (offset_at c o) (edges_in c o))
        (walks_past c.labels (offset_at c o) (edges_in c o)) (ap accepts h ∙ accepting (s ∷ e ∷ [])))

    pub span-unread : accepts (span_of c.offsets codes targets o) ≡ false → can_read c o ≡ false
    unfolding span_reads all_of
    span-unread h = can_read_lem ∙ rw h

    -- what each test of the answer comes to
    module _ {s e : ℕ} (h : span_of c.offsets codes targets o ≡ 0 ∷ s ∷ e ∷ []) where
      pub read_many : 67108864 ≤ o → false ≡ can_read c o
      unfolding all_of
      read_many a = sym (span-read h ∙ rw (le-ltb o 67108864 a))

      pub read_far : o < 67108864 → 268435456 < e → false ≡ can_read c o
      unfolding all_of
      read_far a b = sym (span-read h ∙ rw (lt-ltb o 67108864 a, lt-leb e 268435456 b))

      module _ (a : o < 67108864) (b : e ≤ 268435456) where
        pub read_out : objects_only (objects_in c) c.targets s (e - s) ≡ false → false ≡ can_read c o
        unfolding all_of
        read_out d = sym (span-read h ∙ rw (lt-ltb o 67108864 a, le-leb e 268435456 b, d))

        pub read_walk : {walk : Bool} → objects_only (objects_in c) c.targets s (e - s) ≡ true → walk ≡ walks_past c.labels s (e - s) → walk ≡ can_read c o
        unfolding all_of
        read_walk d w = w ∙ sym (span-read h ∙ rw (lt-ltb o 67108864 a, le-leb e 268435456 b, d) (and_true (walks_past c.labels s (e - s))))

    pub read_none : {says : List ℕ} → says ≡ span_of c.offsets codes targets o → accepts says ≡ false → false ≡ can_read c o
    read_none h a = sym (span-unread (ap accepts (sym h) ∙ a))
