-- The stages' cases: each answer by the tests that led to it, and the offsets coded or not. Assumes nothing.
use Prim.Native.Nat.{ℕ, ◌+◌, ◌-◌, ◌*◌, ◌/◌, ◌≤◌, ◌<◌, min}
use native.Mathlib.Omega.{arith}
use native.Mathlib.Decide.{dec_lt}
use mathlib.Core.Path.{◌≡◌, refl, sym, ap, ◌∙◌}
use mathlib.Core.Bool.{Bool, true, false, cond, false≢true}
use mathlib.Core.List.{List, [], ◌∷◌}
use lib.Dec.{leb, ltb}
use lib.ListN.{length, take}
use borrow.Author.Tests.{lt-ltb, le-ltb, lt-leb, leb-true, leb-false}
use Rattle.columns.specs.Lists.{◌!◌, all_of}
use Rattle.columns.specs.Columns.{accepts, leaves, kept}
use Rattle.columns.specs.Ranks.{Climbs}
use Rattle.columns.proofs.Answers.{accepting}
use Rattle.columns.proofs.Parts.{never-falls}
use Rattle.columns.proofs.Tests.{each_of, no_places}
use Rattle.columns.proofs.Written.{leaves-zeros}
use Rattle.store.specs.declared.CodedOffsets.{CodedOffsets}
use Rattle.store.specs.Blocked.{blocks_of, above_at, is_long, long_rows, coded_says, coding_says, Coding, Accepted, Filled, Emptied}
use Rattle.store.specs.declared.OffsetsError.{OffsetsError}
use Rattle.store.specs.declared.OffsetsError.TheVariants.{Room}
use Rattle.std.specs.Prelude.{Result, Ok, Err, is_err, not}
use Rattle.store.proofs.Verdict.{climbs_high, coding-done, coding_refused}
use Rattle.rules.specs.declared.Inverse.{Inverse}
use Rattle.rules.specs.declared.InvertError.{InvertError}
use Rattle.rules.specs.Types.{inverted_says, invert_error_says}
use Rattle.incoming_stages.specs.Stages.{Climbing, long_fits, coded_as, coded_after, CodedIn}
pub use Rattle.incoming_room.proofs.Rooms.{early-columns}

invert_refuses : (e : InvertError) → accepts (invert_error_says e) ≡ false
unfolding accepts
invert_refuses (InvertError.Room k) = refl
invert_refuses (InvertError.Columns o) = refl

-- an answer that is a value accepts, and one that is an error does not
module _ {answer : Result Inverse InvertError} where
  pub accepts-ok : {inverse : Inverse} → answer ≡ Ok inverse → accepts (inverted_says answer) ≡ true
  unfolding accepts
  accepts-ok e = rw e

  pub accepts-err : {error : InvertError} → answer ≡ Err error → accepts (inverted_says answer) ≡ false
  accepts-err {error} e = rw e (invert_refuses error)

  pub entries-ok : {inverse : Inverse} → answer ≡ Ok inverse → inverse.entries ≡ kept 1 (inverted_says answer)
  unfolding kept accepts
  entries-ok e = rw e

-- the same by the test
pub accepts_is : (answer : Result Inverse InvertError) → accepts (inverted_says answer) ≡ not (is_err answer)
accepts_is (Ok inverse) = accepts-ok refl
accepts_is (Err error) = invert_refuses error

-- The offsets: a refusal is handed on, and the columns are zero; else the coding decides.
module _ (says w : List ℕ) (objects nb ns na nv : ℕ) where
  pub code_refused : {b s a v : List ℕ} → accepts says ≡ false → Emptied nb ns na nv b s a v → CodedIn says objects w nb ns na nv says b s a v
  unfolding coded_after
  code_refused f z = record {
    answer = rw f;
    bases = leaves-zeros says _ nb f z.bases;
    short = leaves-zeros says _ ns f z.short;
    long_at = leaves-zeros says _ na f z.long_at;
    long_value = leaves-zeros says _ nv f z.long_value;
  }

  -- what codes accepts is what this accepts
  same_verdict : (e : ℕ) (coding : List ℕ) → accepts (coded_as e coding) ≡ accepts coding
  unfolding coded_as accepts
  same_verdict e coding = go (accepts coding) refl
    where
      go : (b : Bool) → accepts coding ≡ b → accepts (cond b (0 ∷ e ∷ coding ! 3 ∷ []) (9 ∷ 11 ∷ [])) ≡ accepts coding
      go true e = sym e
      go false e = sym e

  leaves-same : (t u xs : List ℕ) (m : ℕ) → accepts t ≡ accepts u → leaves t xs m ≡ leaves u xs m
  unfolding leaves
  leaves-same t u xs m e = rw e

  pub code-done : {r : Result CodedOffsets OffsetsError} {e : ℕ} {says' b s a v : List ℕ} → accepts says ≡ true → e ≡ kept 1 says → says' ≡ coded_as e (coded_says r)
      → Coding (take (objects + 1) w) nb ns na nv r b s a v → CodedIn says objects w nb ns na nv says' b s a v
  unfolding coded_after kept
  code-done {r} {e} {says'} ok k q c =
      let first : e ≡ says ! 1 = k ∙ rw ok in
      let same : accepts (coded_says r) ≡ accepts says' = sym (ap accepts q ∙ same_verdict e (coded_says r)) in
      record {
        answer = q ∙ rw (ok, first, c.answer);
        bases = c.bases ∙ leaves-same _ _ _ nb same;
        short = c.short ∙ leaves-same _ _ _ ns same;
        long_at = c.long_at ∙ leaves-same _ _ _ na same;
        long_value = c.long_value ∙ leaves-same _ _ _ nv same;
      }

-- Of numbers that climb, with room but for the long rows, coding can refuse these alone.
module _ (vs : List ℕ) (nb ns na nv : ℕ) (h : Climbing vs nb ns) where
  abbrev l : ℕ
  l = long_rows vs

  pub coding_climbs : coding_says vs nb ns na nv
      ≡ cond (ltb na l) (9 ∷ 5 ∷ []) (cond (ltb nv l) (9 ∷ 5 ∷ []) (0 ∷ blocks_of (length vs) ∷ length vs ∷ l ∷ []))
  unfolding coding_says
  coding_climbs = rw (
    climbs_high vs h.climbs,
    le-ltb 67108865 (length vs) h.few,
    le-ltb (length vs) (length vs) (omega arith),
    le-ltb nb (blocks_of (length vs)) h.room_bases,
    le-ltb ns (length vs) h.room_short,
  )

  pub coding-fits : long_fits l na nv ≡ true → coding_says vs nb ns na nv ≡ 0 ∷ blocks_of (length vs) ∷ length vs ∷ l ∷ []
  unfolding long_fits
  coding-fits t = coding_climbs ∙ rw (le-ltb na l (leb-true l na (each_of _ t 0)), le-ltb nv l (leb-true l nv (each_of _ t 1)))

  pub coding-short : long_fits l na nv ≡ false → coding_says vs nb ns na nv ≡ 9 ∷ 5 ∷ []
  unfolding long_fits all_of
  coding-short t = coding_climbs ∙ go (leb l na) refl (leb l nv) refl t
    where
      go : (a : Bool) → leb l na ≡ a → (b : Bool) → leb l nv ≡ b → all_of (a ∷ b ∷ []) ≡ false
          → cond (ltb na l) (9 ∷ 5 ∷ []) (cond (ltb nv l) (9 ∷ 5 ∷ []) (0 ∷ blocks_of (length vs) ∷ length vs ∷ l ∷ [])) ≡ 9 ∷ 5 ∷ []
      go true p true q t = absurd (false≢true (sym t))
      go true p false q t = rw (le-ltb na l (leb-true l na p), lt-ltb nv l (leb-false l nv q))
      go false p b q t = rw (lt-ltb na l (leb-false l na p))

  pub accepted_climbs : long_fits l na nv ≡ true → Accepted vs nb ns na nv
  unfolding long_fits
  accepted_climbs t = record {
    few = h.few;
    risen = omega (arith, climbs_high vs h.climbs);
    room_bases = h.room_bases;
    room_short = h.room_short;
    room_at = leb-true l na (each_of _ t 0);
    room_value = leb-true l nv (each_of _ t 1);
  }

-- the same of rows that were counted, and what is then left
module _ (vs : List ℕ) (nb ns na nv : ℕ) (h : Climbing vs nb ns) {rows : ℕ} (e : rows ≡ long_rows vs) where
  pub climbing_accepted : long_fits rows na nv ≡ true → Accepted vs nb ns na nv
  climbing_accepted t = accepted_climbs vs nb ns na nv h (rw e at t)

  pub climbing_done : {b s a v : List ℕ} → long_fits rows na nv ≡ true → Filled vs nb ns na nv b s a v
      → Coding vs nb ns na nv (Ok (record { bases = blocks_of (length vs); short = length vs; long = rows })) b s a v
  climbing_done t f =
      coding-done vs nb ns na nv _ (ap (λ (k : ℕ). 0 ∷ blocks_of (length vs) ∷ length vs ∷ k ∷ []) e ∙ sym (coding-fits vs nb ns na nv h (rw e at t))) (accepting _) f

  pub climbing_short : {b s a v : List ℕ} → long_fits rows na nv ≡ false → Emptied nb ns na nv b s a v → Coding vs nb ns na nv (Err (Room 5)) b s a v
  unfolding accepts
  climbing_short t z = coding_refused vs nb ns na nv _ (sym (coding-short vs nb ns na nv h (rw e at t))) refl z

pub last_alone : (b : Bool) → b ≡ all_of (b ∷ [])
unfolding all_of
last_alone true = refl
last_alone false = refl

-- No offset before a place is long; the place begins a block.
pub record Short (vs : List ℕ) (start : ℕ) : Type 0 where
  pub block : start / 256 * 256 ≡ start
  pub none : (i : ℕ) → i < start → i < length vs → is_long vs i ≡ false

pub short_start : (vs : List ℕ) → Short vs 0
short_start vs = record { block = omega arith; none = λ i l m. absurd (omega arith) }

module _ (vs : List ℕ) (climbs : Climbs vs) where
  pub far : (i j : ℕ) → i ≤ j → j < length vs → vs ! i ≤ vs ! j
  far i j l m = never-falls vs j (λ k n. climbs k (omega arith)) i l

  -- a block whose last offset is short has no long one
  pub short_more : {start : ℕ} → Short vs start → start < length vs → vs ! min (start + 255) (length vs - 1) - vs ! start < 65535 → Short vs (start + 256)
  short_more {start} s l last = record { block = omega (arith, s.block); none = λ i m n. go i m n (dec_lt i start) }
    where
      go : (i : ℕ) → i < start + 256 → i < length vs → Dec (i < start) → is_long vs i ≡ false
      go i m n (yes p) = s.none i p n
      go i m n (no p) =
          let own : i / 256 * 256 ≡ start = omega (arith, s.block) in
          let top : vs ! i ≤ vs ! min (start + 255) (length vs - 1) = far i (min (start + 255) (length vs - 1)) (omega arith) (omega arith) in
          lt-leb 65535 (above_at vs i) (omega (arith, ap (λ (k : ℕ). vs ! k) own, top, last))

  pub short-rows : {start : ℕ} → Short vs start → length vs ≤ start → 0 ≡ long_rows vs
  short-rows s l = sym (ap length (no_places (is_long vs) (length vs) (λ i m. s.none i (omega arith) m)))
