-- The span of an object whose two offsets are short and of one block; spans in longer columns; and spans told in two columns, position by position. Assumes nothing.
use Rattle.std.proofs.Common.{◌≡◌, ℕ, ◌+◌, ◌-◌, ◌/◌, ◌^◌, ◌<◌, ◌≤◌, Bool, true, false, cond, ltb, leb, ◌⊎◌, List, [], ◌∷◌, length, set, refl, ap, ◌∙◌, inl, inr, arith, length-set, get_or-set_other, get_or-set_same, lt-ltb, ne_eqb, le-leb, leb-true}
use Rattle.columns.specs.Lists.{◌!◌, all_of}
use Rattle.columns.specs.Columns.{accepts}
use Rattle.columns.proofs.Lists.{lt_or_ge}
use Rattle.columns.proofs.Tests.{each_of}
use Rattle.store.specs.Blocked.{Blocked, short_back, read_back}
use Rattle.ask_span.specs.Reading.{ended, span_of}
use Rattle.ask_short.specs.Lean.{short_of}
use Rattle.ask_each_spans.specs.Told.{Few, FewTold, Told, Telling}

-- a short offset is its number above the block's base
short_reads : (bases short : List ℕ) (i : ℕ) → i < length short → (short ! i ≡ 65535 → ⊥) → i / 256 < length bases → bases ! (i / 256) + short ! i < 2 ^ 64
    → read_back (short_of bases short) i ≡ 0 ∷ (bases ! (i / 256) + short ! i) ∷ []
unfolding read_back short_back
short_reads bases short i there is_short based fits =
    rw (lt-ltb i (length short) there, ne_eqb (short ! i) 65535 is_short, lt-ltb (i / 256) (length bases) based, lt-ltb (bases ! (i / 256) + short ! i) (2 ^ 64) fits)

span_is : (b : Blocked) (codes targets o : ℕ) {s e : ℕ} → o < length b.short - 1 → read_back b o ≡ 0 ∷ s ∷ [] → read_back b (o + 1) ≡ 0 ∷ e ∷ [] → s ≤ e → e ≤ codes → e ≤ targets
    → span_of b codes targets o ≡ 0 ∷ s ∷ e ∷ []
unfolding span_of ended accepts all_of
span_is b codes targets o {s} {e} there first next climbs coded targeted =
    rw (lt-ltb o (length b.short - 1) there, first, next, le-leb s e climbs, le-leb e codes coded, le-leb e targets targeted)

-- Two short numbers above one base.
module _ (bases short : List ℕ) (limit o : ℕ) {count : ℕ} (f : Few bases short limit o count) (small : limit < 4294967296) where
  abbrev base : ℕ
  base = bases ! (o / 256)

  next-base : (o + 1) / 256 ≡ o / 256
  next-base = let inner = f.inner in omega arith

  last_fits : base + short ! (o + 1) < 2 ^ 64
  last_fits = omega (arith, f.limited)

  first_reads : read_back (short_of bases short) o ≡ 0 ∷ (base + short ! o) ∷ []
  first_reads = short_reads bases short o (omega (arith, f.placed)) (λ q. omega (arith, f.is_short, f.counted)) f.based (omega (arith, f.counted, last_fits))

  next_reads : read_back (short_of bases short) (o + 1) ≡ 0 ∷ (base + short ! (o + 1)) ∷ []
  next_reads =
      short_reads bases short (o + 1) f.placed (λ q. omega (arith, f.is_short)) (rw next-base f.based) (rw next-base last_fits)
      ∙ ap (λ (k : ℕ). 0 ∷ (bases ! k + short ! (o + 1)) ∷ []) next-base

  pub few_told : FewTold (short_of bases short) limit limit o (base + short ! o) count
  few_told few =
      let ends : base + short ! (o + 1) ≡ base + short ! o + count = omega (arith, f.counted) in
      span_is (short_of bases short) limit limit o (omega (arith, f.placed)) first_reads next_reads (omega (arith, f.counted)) f.limited f.limited
      ∙ ap (λ (e : ℕ). 0 ∷ (base + short ! o) ∷ e ∷ []) ends

-- a count of 255 tells nothing
pub few_untold : (b : Blocked) (codes targets o s : ℕ) → FewTold b codes targets o s 255
few_untold b codes targets o s few = absurd (omega arith)

-- A span that ends by a limit does so in columns that are no shorter.
abbrev tests : List ℕ → List ℕ → ℕ → ℕ → List Bool
tests first next codes targets = accepts first ∷ accepts next ∷ leb (first ! 1) (next ! 1) ∷ leb (next ! 1) codes ∷ leb (next ! 1) targets ∷ []

five : {a b d e f : Bool} → a ≡ true → b ≡ true → d ≡ true → e ≡ true → f ≡ true → all_of (a ∷ b ∷ d ∷ e ∷ f ∷ []) ≡ true
unfolding all_of
five a b d e f = rw (a, b, d, e, f)

ended_wider : (first next : List ℕ) (n codes targets o : ℕ) {s e : ℕ} → n ≤ codes → n ≤ targets → ended first next n n o ≡ 0 ∷ s ∷ e ∷ [] → ended first next codes targets o ≡ 0 ∷ s ∷ e ∷ []
unfolding ended
ended_wider first next n codes targets o {s} {e} c t h = go (all_of (tests first next n n)) refl h
  where
    go : (b : Bool) → all_of (tests first next n n) ≡ b → cond b (0 ∷ first ! 1 ∷ next ! 1 ∷ []) (12 ∷ o ∷ []) ≡ 0 ∷ s ∷ e ∷ []
        → cond (all_of (tests first next codes targets)) (0 ∷ first ! 1 ∷ next ! 1 ∷ []) (12 ∷ o ∷ []) ≡ 0 ∷ s ∷ e ∷ []
    go true q h =
        let k = each_of (tests first next n n) q in
        let low : next ! 1 ≤ n = leb-true (next ! 1) n (k 3) in
        ap (λ (z : Bool). cond z (0 ∷ first ! 1 ∷ next ! 1 ∷ []) (12 ∷ o ∷ [])) (five (k 0) (k 1) (k 2) (le-leb (next ! 1) codes (omega arith)) (le-leb (next ! 1) targets (omega arith))) ∙ h
    go false q h = absurd (omega (arith, ap (λ (xs : List ℕ). xs ! 0) h))

span_wider : (b : Blocked) (n codes targets o : ℕ) {s e : ℕ} → n ≤ codes → n ≤ targets → span_of b n n o ≡ 0 ∷ s ∷ e ∷ [] → span_of b codes targets o ≡ 0 ∷ s ∷ e ∷ []
unfolding span_of
span_wider b n codes targets o {s} {e} c t h = go (ltb o (length b.short - 1)) h
  where
    go : (z : Bool) → cond z (ended (read_back b o) (read_back b (o + 1)) n n o) (11 ∷ o ∷ []) ≡ 0 ∷ s ∷ e ∷ [] → cond z (ended (read_back b o) (read_back b (o + 1)) codes targets o) (11 ∷ o ∷ []) ≡ 0 ∷ s ∷ e ∷ []
    go true h = ended_wider (read_back b o) (read_back b (o + 1)) n codes targets o c t h
    go false h = absurd (omega (arith, ap (λ (xs : List ℕ). xs ! 0) h))

pub told_wider : {b : Blocked} {n codes targets : ℕ} {os t m : List ℕ} {from to : ℕ} → n ≤ codes → n ≤ targets → Told b n n os t m from to → Told b codes targets os t m from to
told_wider {b} {n} {codes} {targets} {os} c t h = record { told = λ i l g few. span_wider b n codes targets (os ! i) c t (h.told i l g few) }

-- Spans told: one more, and one less, behind which the columns may be written.
module _ (b : Blocked) (codes targets : ℕ) (os : List ℕ) where
  pub told_none : (t m : List ℕ) → Told b codes targets os t m 0 0
  told_none t m = record { told = λ i l h. absurd (omega arith) }

  module _ {t m : List ℕ} {i : ℕ} (v w : ℕ) where
    told_more : Told b codes targets os t m 0 i → i < length t → i < length m → FewTold b codes targets (os ! i) v w → Told b codes targets os (set t i v) (set m i w) 0 (i + 1)
    told_more h in-t in-m f = record { told = λ j l g. go j g (lt_or_ge j i) }
      where
        go : (j : ℕ) → j < i + 1 → (j < i) ⊎ (i ≤ j) → FewTold b codes targets (os ! j) (set t i v ! j) (set m i w ! j)
        go j g (inl a) = rw (get_or-set_other t i j v 0 (λ e. omega arith), get_or-set_other m i j w 0 (λ e. omega arith)) (h.told j (omega arith) a)
        go j g (inr a) = let e : j ≡ i = omega arith in rw (e, get_or-set_same t i v 0 in-t, get_or-set_same m i w 0 in-m) f

    pub told_less : {to : ℕ} → Told b codes targets os t m i to → Told b codes targets os (set t i v) (set m i w) (i + 1) to
    told_less h = record {
      told = λ j l g. rw (get_or-set_other t i j v 0 (λ e. omega arith), get_or-set_other m i j w 0 (λ e. omega arith)) (h.told j (omega arith) g);
    }

  told_skip : {t m : List ℕ} {i : ℕ} → Told b codes targets os t m 0 i → i < length m → Told b codes targets os t (set m i 255) 0 (i + 1)
  told_skip {t} {m} {i} h in-m = record { told = λ j l g. go j g (lt_or_ge j i) }
    where
      go : (j : ℕ) → j < i + 1 → (j < i) ⊎ (i ≤ j) → FewTold b codes targets (os ! j) (t ! j) (set m i 255 ! j)
      go j g (inl a) = rw (get_or-set_other m i j 255 0 (λ e. omega arith)) (h.told j (omega arith) a)
      go j g (inr a) = let e : j ≡ i = omega arith in rw (e, get_or-set_same m i 255 0 in-m) (few_untold b codes targets (os ! i) (t ! i))

  -- on the way: from a position on, one more, one that is left out, one way after another, and the end
  pub telling_start : {t m : List ℕ} {from : ℕ} → from ≤ length os → Told b codes targets os t m 0 from → Telling b codes targets os from t m t m from
  telling_start within h = record { rises = omega arith; within = within; spans = h; same_targets = refl; same_found = refl }

  module _ {from i : ℕ} {t₀ m₀ t m : List ℕ} (h : Telling b codes targets os from t₀ m₀ t m i) where
    pub telling_more : (v w : ℕ) → i < length os → length os ≤ length t₀ → length os ≤ length m₀ → FewTold b codes targets (os ! i) v w
        → Telling b codes targets os from t₀ m₀ (set t i v) (set m i w) (i + 1)
    telling_more v w l in-t in-m f = record {
      rises = omega (arith, h.rises);
      within = omega arith;
      spans = told_more v w h.spans (omega (arith, h.same_targets)) (omega (arith, h.same_found)) f;
      same_targets = length-set t i v ∙ h.same_targets;
      same_found = length-set m i w ∙ h.same_found;
    }

    pub telling_skip : i < length os → length os ≤ length m₀ → Telling b codes targets os from t₀ m₀ t (set m i 255) (i + 1)
    telling_skip l in-m = record {
      rises = omega (arith, h.rises);
      within = omega arith;
      spans = told_skip h.spans (omega (arith, h.same_found));
      same_targets = h.same_targets;
      same_found = length-set m i 255 ∙ h.same_found;
    }

    pub telling_on : {t' m' : List ℕ} {j : ℕ} → Telling b codes targets os i t m t' m' j → Telling b codes targets os from t₀ m₀ t' m' j
    telling_on g = record {
      rises = omega (arith, h.rises, g.rises);
      within = g.within;
      spans = g.spans;
      same_targets = g.same_targets ∙ h.same_targets;
      same_found = g.same_found ∙ h.same_found;
    }

    pub telling_end : length os ≤ i → Telling b codes targets os from t₀ m₀ t m (length os)
    telling_end l = let e : length os ≡ i = omega (arith, h.within) in rw e h
