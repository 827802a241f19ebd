-- What the contracts come to: reading back what an accepted coding left gives the coded numbers, and no call has a second outcome. Assumes nothing.
use mathlib.Core.Path.{◌≡◌, refl, sym, ap, ◌∙◌}
use mathlib.Core.Logic.{⊎_elim}
use mathlib.Core.Bool.{true, cond}
use mathlib.Core.List.{List, [], ◌∷◌}
use Prim.Native.Nat.{ℕ, ◌+◌, ◌*◌, ◌/◌, ◌^◌, ◌≤◌, ◌<◌, min}
use native.Mathlib.Omega.{arith}
use borrow.Author.Tests.{lt-ltb, le-leb, eq-eqb, ne_eqb, ltb-false}
use lib.Dec.{eqb}
use lib.ListN.{length, take, length-map}
use Rattle.columns.specs.Lists.{◌!◌}
use Rattle.columns.specs.Columns.{accepts}
use Rattle.columns.specs.Ranks.{bisect}
use Rattle.columns.proofs.Lists.{lt_or_ge, map_at, tab-at, tab-length, places_row, places_rise, first_none}
use Rattle.columns.proofs.Written.{used_part, used_length}
use Rattle.columns.proofs.Ranks.{bisect-found}
use Rattle.store.specs.declared.CodedOffsets.{CodedOffsets}
use Rattle.store.specs.declared.OffsetsError.{OffsetsError}
use Rattle.store.specs.declared.OffsetsError.TheVariants.{Limit, Parts, Room}
use Rattle.std.specs.Prelude.{Result, Ok, Err}
use Rattle.store_read.specs.declared.ReadError.{ReadError}
use Rattle.store_read.specs.declared.ReadError.TheVariants.{Index, Columns}
use Rattle.store.specs.Blocked.{coded_says, offset_says, base_at, above_at, is_low, is_long, blocks_of, bases_to, short_to, long_at_to, long_value_to, long_rows, first_low, blocked_of, blocked, Accepted, Coding, long_back, short_back, read_back}
use Rattle.store.proofs.Verdict.{coding_accepted, accepted_says}

module _ (vs : List ℕ) (i : ℕ) (l : i < length vs) (fits : vs ! i < 2 ^ 64) where
  -- a difference below 65,535
  short_back_lem : base_at vs i ≤ vs ! i → above_at vs i < 65535 → read_back (blocked vs) i ≡ 0 ∷ vs ! i ∷ []
  unfolding read_back short_back blocked
  short_back_lem risen h =
      let short : short_to vs (length vs) ! i ≡ above_at vs i = tab-at (λ i. min (above_at vs i) 65535) 0 (length vs) i l ∙ omega arith in
      let base : bases_to vs (blocks_of (length vs)) ! (i / 256) ≡ base_at vs i = tab-at (λ b. vs ! (b * 256)) 0 (blocks_of (length vs)) (i / 256) (omega arith) in
      let sum : base_at vs i + above_at vs i ≡ vs ! i = omega arith in
      let ne : above_at vs i ≡ 65535 → ⊥ = λ e. omega arith in
      let block : i / 256 < blocks_of (length vs) = omega arith in
      simp (tab-length, lt-ltb _ _ l, short, ne_eqb _ _ ne, lt-ltb _ _ block, base, sum, lt-ltb _ _ fits)

  -- a difference of 65,535 and over
  long_back_lem : 65535 ≤ above_at vs i → read_back (blocked vs) i ≡ 0 ∷ vs ! i ∷ []
  unfolding read_back long_back blocked
  long_back_lem h =
      let short : short_to vs (length vs) ! i ≡ 65535 = tab-at (λ i. min (above_at vs i) 65535) 0 (length vs) i l ∙ omega arith in
      let p = places_row (is_long vs) i (length vs) (le-leb 65535 (above_at vs i) h) l in
      let k = length (long_at_to vs i) in
      let row : bisect (long_at_to vs (length vs)) i ≡ k = ap (bisect (long_at_to vs (length vs))) (sym p.1) ∙ bisect-found (long_at_to vs (length vs)) k (places_rise (is_long vs) (length vs)) p.0 in
      let value : long_value_to vs (length vs) ! k ≡ vs ! i = map_at (λ i. vs ! i) 0 (long_at_to vs (length vs)) k p.0 ∙ ap (λ (n : ℕ). vs ! n) p.1 in
      let rows : k < length (long_value_to vs (length vs)) = rw (length-map (long_at_to vs (length vs)) (λ i. vs ! i)) p.0 in
      simp (tab-length, lt-ltb _ _ l, short, row, lt-ltb _ _ p.0, eq-eqb _ _ p.1, lt-ltb _ _ rows, value)

  -- Of numbers that are nowhere below their base, each reads back.
  pub reads_back_lem : length vs ≤ first_low vs → read_back (blocked vs) i ≡ 0 ∷ vs ! i ∷ []
  reads_back_lem risen = ⊎_elim (short_back_lem (ltb-false _ _ (first_none (is_low vs) (length vs) i risen l))) long_back_lem (lt_or_ge (above_at vs i) 65535)

-- What a caller has who has matched the answer: the used parts are parts, and together the coded columns.
module _ {vs : List ℕ} {nb ns na nv : ℕ} {r : Result CodedOffsets OffsetsError} {b s a v : List ℕ} (c : Coding vs nb ns na nv r b s a v) {coded : CodedOffsets} (e : r ≡ Ok coded) where
  done-accepts : accepts (coded_says r) ≡ true
  unfolding accepts
  done-accepts = rw e

  done_accepted : Accepted vs nb ns na nv
  done_accepted = coding_accepted vs nb ns na nv r c.answer done-accepts

  -- the lengths that the answer gives
  done-says : 0 ∷ coded.bases ∷ coded.short ∷ coded.long ∷ [] ≡ 0 ∷ blocks_of (length vs) ∷ length vs ∷ long_rows vs ∷ []
  done-says = sym (ap coded_says e) ∙ c.answer ∙ accepted_says done_accepted

  done_bases : coded.bases ≡ blocks_of (length vs)
  done_bases = ap (λ (says : List ℕ). says ! 1) done-says

  done-short : coded.short ≡ length vs
  done-short = ap (λ (says : List ℕ). says ! 2) done-says

  done_long : coded.long ≡ long_rows vs
  done_long = ap (λ (says : List ℕ). says ! 3) done-says

  pub done-parts : (coded.bases ≤ length b) × (coded.short ≤ length s) × (coded.long ≤ length a) × (coded.long ≤ length v)
  unfolding blocked
  done-parts = (
    omega (arith, done_bases, used_length _ _ b nb done-accepts c.bases, tab-length (λ b. vs ! (b * 256)) (blocks_of (length vs))),
    omega (arith, done-short, used_length _ _ s ns done-accepts c.short, tab-length (λ i. min (above_at vs i) 65535) (length vs)),
    omega (arith, done_long, used_length _ _ a na done-accepts c.long_at),
    omega (arith, done_long, used_length _ _ v nv done-accepts c.long_value, length-map (long_at_to vs (length vs)) (λ i. vs ! i)),
  )

  -- The used parts, at the lengths that the answer gives, are the coded columns.
  pub done_used : blocked_of (take coded.bases b) (take coded.short s) (take coded.long a) (take coded.long v) ≡ blocked vs
  unfolding blocked
  done_used =
      rw (
        used_part _ _ b nb coded.bases done-accepts c.bases (tab-length _ _ ∙ sym done_bases),
        used_part _ _ s ns coded.short done-accepts c.short (tab-length _ _ ∙ sym done-short),
        used_part _ _ a na coded.long done-accepts c.long_at (sym done_long),
        used_part _ _ v nv coded.long done-accepts c.long_value (length-map (long_at_to vs (length vs)) (λ i. vs ! i) ∙ sym done_long),
      )

  -- ROUND TRIP. Of columns that an accepted coding left, reading place i gives the number at i, for every i.
  pub round_trip : (i : ℕ) → i < length vs → vs ! i < 2 ^ 64 → read_back (blocked_of (take coded.bases b) (take coded.short s) (take coded.long a) (take coded.long v)) i ≡ 0 ∷ vs ! i ∷ []
  round_trip i h fits = rw done_used (reads_back_lem vs i h fits done_accepted.risen)

-- ONE OUTCOME. Document 01's numbers and values tell the answers apart, and all else that a contract says is an equation.
answer_of : List ℕ → Result CodedOffsets OffsetsError
answer_of says = cond (eqb (says ! 0) 0) (Ok (record { bases = says ! 1; short = says ! 2; long = says ! 3 })) (Err (cond (eqb (says ! 0) 2) Limit (cond (eqb (says ! 0) 10) (Parts (says ! 2)) (Room (says ! 1)))))

coded_of-says : (r : Result CodedOffsets OffsetsError) → answer_of (coded_says r) ≡ r
unfolding answer_of
coded_of-says (Ok coded) = refl
coded_of-says (Err Limit) = refl
coded_of-says (Err (Parts i)) = refl
coded_of-says (Err (Room k)) = refl

offset_of : List ℕ → Result ℕ ReadError
offset_of says = cond (eqb (says ! 0) 0) (Ok (says ! 1)) (Err (cond (eqb (says ! 0) 11) (Index (says ! 1)) (Columns (says ! 1))))

offset_of_says : (r : Result ℕ ReadError) → offset_of (offset_says r) ≡ r
unfolding offset_of
offset_of_says (Ok v) = refl
offset_of_says (Err (Index i)) = refl
offset_of_says (Err (Columns i)) = refl

pub one-coding : {vs : List ℕ} {nb ns na nv : ℕ} {r r' : Result CodedOffsets OffsetsError} {b b' s s' a a' v v' : List ℕ} → Coding vs nb ns na nv r b s a v → Coding vs nb ns na nv r' b' s' a' v'
    → (r ≡ r') × (b ≡ b') × (s ≡ s') × (a ≡ a') × (v ≡ v')
one-coding {r = r} {r' = r'} c c' =
    let e : r ≡ r' = sym (coded_of-says r) ∙ ap answer_of (c.answer ∙ sym c'.answer) ∙ coded_of-says r' in
    (e, rw e at c.bases ∙ sym c'.bases, rw e at c.short ∙ sym c'.short, rw e at c.long_at ∙ sym c'.long_at, rw e at c.long_value ∙ sym c'.long_value)

pub one-offset : (says : List ℕ) (r r' : Result ℕ ReadError) → offset_says r ≡ says → offset_says r' ≡ says → r ≡ r'
one-offset says r r' e e' = sym (offset_of_says r) ∙ ap offset_of (e ∙ sym e') ∙ offset_of_says r'
