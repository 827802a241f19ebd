-- One pass over the offsets: what each turn keeps, and what it comes to. Assumes nothing.
use Prim.Native.Nat.{ℕ, suc, ◌+◌, ◌-◌, ◌≤◌, ◌<◌, min}
use native.Mathlib.Omega.{arith}
use native.Mathlib.Numerals.{add-one}
use mathlib.Core.Path.{◌≡◌, refl, sym, ap, ◌∙◌}
use mathlib.Core.Bool.{Bool, true, false, not, ◌&&◌, ◌||◌, false≢true}
use mathlib.Core.List.{List, [], ◌∷◌}
use lib.Dec.{leb}
use lib.ListN.{length}
use Rattle.columns.specs.Lists.{◌!◌, any}
use Rattle.columns.specs.Columns.{accepts}
use Rattle.columns.proofs.Answers.{accepting}
use Rattle.columns.proofs.Tests.{some_any, any_more}
use Rattle.store.specs.Blocked.{Blocked, offset_says, read_back}
use Rattle.std.specs.Prelude.{None, Some, Result, Ok, Err}
use Rattle.std.specs.Result.{result_ok}
use Rattle.store_read.specs.declared.ReadError.{ReadError}
use Rattle.rules.proofs.Types.{read_refuses}
use Rattle.incoming_read.specs.Unread.{span_reads, is_narrow, SpansRead}
use Rattle.incoming_read.proofs.Readable.{SpanMeets, span_meets, meets_span}

refuted : (b : Bool) → (b ≡ true → ⊥) → not b ≡ true
refuted true h = absurd (h refl)
refuted false h = refl

narrower : (a b : Bool) → not a && b ≡ not (a || not b)
narrower true b = refl
narrower false true = refl
narrower false false = refl

-- what the answer for an offset says, by the value that is taken from it
pub offset_some : (r : Result ℕ ReadError) {v : ℕ} {says : List ℕ} → Some v ≡ result_ok r → offset_says r ≡ says → says ≡ 0 ∷ v ∷ []
offset_some (Ok x) h e = let z : x ≡ _ = cc in sym e ∙ ap (λ (v : ℕ). 0 ∷ v ∷ []) z
offset_some (Err x) h e = cc

pub offset_none : (r : Result ℕ ReadError) {says : List ℕ} → None ≡ result_ok r → offset_says r ≡ says → accepts says ≡ false
offset_none (Ok x) h e = cc
offset_none (Err x) h e = rw (← e) (read_refuses x)

module _ (b : Blocked) (codes targets : ℕ) where
  abbrev objects : ℕ
  objects = length b.short - 1

  abbrev unread : ℕ → Bool
  unread o = not (span_reads b codes targets o)

  abbrev wide : ℕ → Bool
  wide o = not (is_narrow b o)

  -- the spans of the objects before o read, and the last of them ends where the next begins
  pub record Spanning (last : ℕ) (narrow : Bool) (o : ℕ) : Type 0 where
    pub within : o ≤ objects
    pub reads : read_back b o ≡ 0 ∷ last ∷ []
    pub good : any unread o ≡ false
    pub slender : narrow ≡ not (any wide o)

  pub spanning_start : {start : ℕ} → read_back b 0 ≡ 0 ∷ start ∷ [] → Spanning start true 0
  unfolding any
  spanning_start h = record { within = omega arith; reads = h; good = refl; slender = refl }

  -- a span that cannot be read
  pub spans_bad : {o : ℕ} → o < objects → (SpanMeets b codes targets o → ⊥) → SpansRead b codes targets None
  spans_bad {o} l h = record {
    good = ap not (sym (some_any unread objects o l (refuted (span_reads b codes targets o) (λ q. h (span_meets b codes targets o l q)))));
    narrow = λ s e. cc;
    start = λ s e. cc;
    end = λ s e. cc;
  }

  -- there are too many objects, or the first offset cannot be read
  pub spans_many : 67108865 < length b.short → SpansRead b codes targets None
  spans_many l = spans_bad {o = 67108864} (omega arith) (λ q. omega (arith, q.few))

  pub spans_unstarted : 2 ≤ length b.short → accepts (read_back b 0) ≡ false → SpansRead b codes targets None
  spans_unstarted l h = spans_bad {o = 0} (omega arith) (λ q. false≢true (sym h ∙ q.first))

  module _ {last o : ℕ} {narrow : Bool} (s : Spanning last narrow o) where
    starts : read_back b o ! 1 ≡ last
    starts = ap (λ (xs : List ℕ). xs ! 1) s.reads

    module _ {end : ℕ} (l : o < objects) (h : read_back b (o + 1) ≡ 0 ∷ end ∷ []) where
      next : read_back b (suc o) ≡ 0 ∷ end ∷ []
      next = ap (read_back b) (sym (add-one o)) ∙ h

      ends : read_back b (suc o) ! 1 ≡ end
      ends = ap (λ (xs : List ℕ). xs ! 1) next

      pub span-falls : end < last → SpanMeets b codes targets o → ⊥
      span-falls m q = omega (arith, q.ordered, starts, ends)

      pub span_past : min (min codes targets) 268435456 < end → SpanMeets b codes targets o → ⊥
      span_past m q = omega (arith, q.coded, q.targeted, q.limited, ends)

      pub spanning_more : {more : Bool} → last ≤ end → end ≤ min (min codes targets) 268435456 → o < 67108864 → more ≡ narrow && leb (end - last) 65536 → Spanning end more (o + 1)
      unfolding any is_narrow
      spanning_more {more} m n few e =
          let reads : span_reads b codes targets o ≡ true
          = meets_span b codes targets o l (record {
            first = ap accepts s.reads ∙ accepting (last ∷ []);
            next = ap accepts next ∙ accepting (end ∷ []);
            ordered = omega (arith, starts, ends);
            coded = omega (arith, ends);
            targeted = omega (arith, ends);
            few = few;
            limited = omega (arith, ends);
          }) in
          let gap : leb (read_back b (suc o) ! 1 - read_back b o ! 1) 65536 ≡ leb (end - last) 65536 = rw (starts, ends) in
          record {
            within = omega arith;
            reads = h;
            good = any_more unread o s.good (ap not reads);
            slender = e ∙ rw (s.slender, add-one o, gap) (narrower (any wide o) (leb (end - last) 65536));
          }

    pub span_refused : o < objects → accepts (read_back b (o + 1)) ≡ false → SpanMeets b codes targets o → ⊥
    span_refused l h q = false≢true (sym h ∙ ap (λ (i : ℕ). accepts (read_back b i)) (add-one o) ∙ q.next)
