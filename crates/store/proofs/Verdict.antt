-- An answer that accepts says that nothing is refused; and from what coding leaves to its contract. Assumes nothing.
use mathlib.Core.Path.{◌≡◌, refl, sym, ap, ◌∙◌}
use mathlib.Core.Bool.{true, false}
use mathlib.Core.List.{List, [], ◌∷◌}
use Prim.Native.Nat.{ℕ, ◌*◌, ◌/◌, ◌≤◌, ◌<◌}
use native.Mathlib.Omega.{arith}
use borrow.Author.Tests.{le-ltb, ltb-false}
use lib.Dec.{ltb}
use lib.ListN.{length, get_or}
use Rattle.columns.specs.Lists.{◌!◌}
use Rattle.columns.specs.Columns.{accepts}
use Rattle.columns.specs.Ranks.{Climbs}
use Rattle.columns.proofs.Parts.{never-falls}
use Rattle.columns.proofs.Tests.{no_places}
use Rattle.columns.proofs.Written.{leaves-zeros, leaves-padded}
use Rattle.columns.proofs.Answers.{past}
use Rattle.std.specs.Prelude.{Result, Err}
use Rattle.store.specs.declared.CodedOffsets.{CodedOffsets}
use Rattle.store.specs.declared.OffsetsError.{OffsetsError}
use Rattle.store.specs.declared.OffsetsError.TheVariants.{Limit, Parts, Room}
use Rattle.store.specs.Blocked.{coding_says, Accepted, Filled, Emptied, Coding, coded_says, base_at, is_low, first_low, blocks_of, long_rows}

-- No number of a list that climbs is below its block's base.
pub climbs_high : (vs : List ℕ) → Climbs vs → first_low vs ≡ length vs
climbs_high vs climbs = ap (λ (ps : List ℕ). get_or ps 0 (length vs)) (no_places (is_low vs) (length vs) (λ i l. le-ltb _ _ (high i l)))
  where
    high : (i : ℕ) → i < length vs → base_at vs i ≤ vs ! i
    high i l = never-falls vs i (λ k m. climbs k (omega arith)) (i / 256 * 256) (omega arith)

pub refuses : (e : OffsetsError) → accepts (coded_says (Err e)) ≡ false
unfolding accepts
refuses Limit = refl
refuses (Parts i) = refl
refuses (Room k) = refl

pub accepted : (vs : List ℕ) (nb ns na nv : ℕ) → accepts (coding_says vs nb ns na nv) ≡ true → Accepted vs nb ns na nv
unfolding coding_says
accepted vs nb ns na nv h =
    let a = past (ltb 67108865 (length vs)) 1 _ _ h in
    let b = past (ltb (first_low vs) (length vs)) 9 _ _ a.1 in
    let c = past (ltb nb (blocks_of (length vs))) 8 _ _ b.1 in
    let d = past (ltb ns (length vs)) 8 _ _ c.1 in
    let e = past (ltb na (long_rows vs)) 8 _ _ d.1 in
    let f = past (ltb nv (long_rows vs)) 8 _ _ e.1 in
    record {
      few = ltb-false _ _ a.0;
      risen = ltb-false _ _ b.0;
      room_bases = ltb-false _ _ c.0;
      room_short = ltb-false _ _ d.0;
      room_at = ltb-false _ _ e.0;
      room_value = ltb-false _ _ f.0;
    }

pub accepted_says : {vs : List ℕ} {nb ns na nv : ℕ} → Accepted vs nb ns na nv → coding_says vs nb ns na nv ≡ 0 ∷ blocks_of (length vs) ∷ length vs ∷ long_rows vs ∷ []
unfolding coding_says
accepted_says a = simp (le-ltb _ _ a.few, le-ltb _ _ a.risen, le-ltb _ _ a.room_bases, le-ltb _ _ a.room_short, le-ltb _ _ a.room_at, le-ltb _ _ a.room_value)

module _ (vs : List ℕ) (nb ns na nv : ℕ) (r : Result CodedOffsets OffsetsError) (e : coded_says r ≡ coding_says vs nb ns na nv) where
  -- an answer that accepts: its facts, and the long rows that it gives
  pub coding_accepted : accepts (coded_says r) ≡ true → Accepted vs nb ns na nv
  coding_accepted y = accepted vs nb ns na nv (ap accepts (sym e) ∙ y)

  pub coding-rows : accepts (coded_says r) ≡ true → coded_says r ! 3 ≡ long_rows vs
  coding-rows y = ap (λ (says : List ℕ). says ! 3) (e ∙ accepted_says (coding_accepted y))

  pub coding-done : {b s a v : List ℕ} → accepts (coded_says r) ≡ true → Filled vs nb ns na nv b s a v → Coding vs nb ns na nv r b s a v
  coding-done y f = record {
    answer = e;
    bases = leaves-padded _ _ nb y f.bases;
    short = leaves-padded _ _ ns y f.short;
    long_at = leaves-padded _ _ na y f.long_at;
    long_value = leaves-padded _ _ nv y f.long_value;
  }

  pub coding_refused : {b s a v : List ℕ} → accepts (coded_says r) ≡ false → Emptied nb ns na nv b s a v → Coding vs nb ns na nv r b s a v
  coding_refused n z = record {
    answer = e;
    bases = leaves-zeros _ _ nb n z.bases;
    short = leaves-zeros _ _ ns n z.short;
    long_at = leaves-zeros _ _ na n z.long_at;
    long_value = leaves-zeros _ _ nv n z.long_value;
  }
