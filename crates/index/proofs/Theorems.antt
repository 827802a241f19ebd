-- What the contracts come to: reading back what an accepted coding left gives the coded ids, and no call has a second outcome. Assumes nothing.
use mathlib.Core.Path.{◌≡◌, refl, sym, ap, ◌∙◌}
use mathlib.Core.Bool.{Bool, true, false, cond}
use mathlib.Core.List.{List, [], ◌∷◌}
use Prim.Native.Nat.{ℕ, ◌+◌, ◌-◌, ◌*◌, ◌/◌, ◌%◌, ◌^◌, ◌≤◌, ◌<◌}
use native.Mathlib.Omega.{arith}
use borrow.Author.Tests.{lt-ltb, eq-eqb, ne_eqb, eqb-true, eqb-false, leb-true, lt-leb}
use lib.Dec.{eqb, leb}
use lib.ListN.{length, take, length-map}
use Rattle.columns.specs.Lists.{◌!◌, all_of, any_of}
use Rattle.columns.specs.Columns.{accepts}
use Rattle.columns.specs.Ranks.{bisect}
use Rattle.columns.proofs.Lists.{map_at, tab-at, tab-length, places_row, places_rise}
use Rattle.columns.proofs.Written.{used_part, used_length}
use Rattle.columns.proofs.Ranks.{bisect-found}
use Rattle.columns.proofs.Tests.{each_of}
use Rattle.index.specs.declared.CodedIds.{CodedIds}
use Rattle.index.specs.declared.IdsError.{IdsError}
use Rattle.index.specs.declared.IdsError.TheVariants.{Room}
use Rattle.std.specs.Prelude.{Result, Ok, Err}
use Rattle.index_read.specs.declared.IdError.{IdError}
use Rattle.index_read.specs.declared.IdError.TheVariants.{Index, Copied}
use Rattle.index.specs.Copied.{ids_coded_says, id_says, escaped_code, inline, code_of, codes_to, is_escape, escapes_to, escape_ids_to, escape_rows, ids_of, copied_of, IdsCoding, whole, escape_back, id_back}
use Rattle.index.proofs.Verdict.{coding_accepted, accepted_says}
use Rattle.index.proofs.Zeros.{three-zeros}

-- The rule with "divisible by 8" in the place of the trailing zero bits.
pub inline_eights : (base id : ℕ) → inline base id ≡ all_of (leb base id ∷ eqb ((id - base) % 8) 0 ∷ leb ((id - base) / 8 + 1) 4294967294 ∷ [])
unfolding inline
inline_eights base id = ap (λ (b : Bool). all_of (leb base id ∷ b ∷ leb ((id - base) / 8 + 1) 4294967294 ∷ [])) (three-zeros 61 (id - base))

-- an id that is not 0 is whole
whole_id : (i id : ℕ) → (id ≡ 0 → ⊥) → id < 2 ^ 64 → whole i id ≡ 0 ∷ id ∷ []
unfolding whole any_of
whole_id i id some fits = simp (ne_eqb _ _ some, lt-leb _ _ fits)

-- A code that is neither 0 nor an escape leads back to its id.
inline-back : (base id : ℕ) → (code_of base id ≡ 0 → ⊥) → (code_of base id ≡ escaped_code → ⊥) → (base + 8 * (code_of base id - 1) ≡ id) × (id ≡ 0 → ⊥)
unfolding code_of
inline-back base id some stays = go (eqb id 0) refl (inline base id) refl some stays
  where
    code : Bool → Bool → ℕ
    code z a = cond z 0 (cond a ((id - base) / 8 + 1) escaped_code)

    go : (z : Bool) → eqb id 0 ≡ z → (a : Bool) → inline base id ≡ a → (code z a ≡ 0 → ⊥) → (code z a ≡ escaped_code → ⊥) → (base + 8 * (code z a - 1) ≡ id) × (id ≡ 0 → ⊥)
    go true t a s some stays = absurd (some refl)
    go false t true s some stays =
        let tests = sym (inline_eights base id) ∙ s in
        let low : base ≤ id = leb-true _ _ (each_of _ tests 0) in
        let eight : (id - base) % 8 ≡ 0 = eqb-true _ _ (each_of _ tests 1) in
        (omega arith, eqb-false _ _ t)
    go false t false s some stays = absurd (stays refl)

-- an id of code 0 is 0, and an escaped one is not
code_none : (base id : ℕ) → code_of base id ≡ 0 → id ≡ 0
unfolding code_of
code_none base id e = go (eqb id 0) refl (inline base id) e
  where
    go : (z : Bool) → eqb id 0 ≡ z → (a : Bool) → cond z 0 (cond a ((id - base) / 8 + 1) escaped_code) ≡ 0 → id ≡ 0
    go true t a e = eqb-true _ _ t
    go false t true e = absurd (omega arith)
    go false t false e = absurd (omega arith)

code_escaped : (base id : ℕ) → code_of base id ≡ escaped_code → id ≡ 0 → ⊥
unfolding code_of
code_escaped base id e z = absurd (omega (arith, rw (eq-eqb id 0 z) at e))

module _ (base : ℕ) (ids : List ℕ) (i : ℕ) (l : i < length ids) (fits : ids ! i < 2 ^ 64) where
  code_at : codes_to base ids (length ids) ! i ≡ code_of base (ids ! i)
  code_at = tab-at (λ i. code_of base (ids ! i)) 0 (length ids) i l

  -- an escape
  escape_back_lem : code_of base (ids ! i) ≡ escaped_code → id_back (copied_of base ids) i ≡ 0 ∷ ids ! i ∷ []
  unfolding id_back escape_back copied_of all_of
  escape_back_lem e =
      let p = places_row (is_escape base ids) i (length ids) (eq-eqb _ _ e) l in
      let k = length (escapes_to base ids i) in
      let row : bisect (escapes_to base ids (length ids)) i ≡ k = ap (bisect (escapes_to base ids (length ids))) (sym p.1) ∙ bisect-found (escapes_to base ids (length ids)) k (places_rise (is_escape base ids) (length ids)) p.0 in
      let id : escape_ids_to base ids (length ids) ! k ≡ ids ! i = map_at (λ i. ids ! i) 0 (escapes_to base ids (length ids)) k p.0 ∙ ap (λ (n : ℕ). ids ! n) p.1 in
      let rows : k < length (escape_ids_to base ids (length ids)) = rw (length-map (escapes_to base ids (length ids)) (λ i. ids ! i)) p.0 in
      simp (tab-length, lt-ltb _ _ l, code_at, e, row, lt-ltb _ _ p.0, eq-eqb _ _ p.1, lt-ltb _ _ rows, id) (whole_id i (ids ! i) (code_escaped base (ids ! i) e) fits)

  -- any other code
  plain_back_lem : (code_of base (ids ! i) ≡ escaped_code → ⊥) → id_back (copied_of base ids) i ≡ 0 ∷ ids ! i ∷ []
  unfolding id_back copied_of
  plain_back_lem stays = rw (tab-length, lt-ltb _ _ l, code_at) (go (eqb (code_of base (ids ! i)) 0) refl)
    where
      go : (z : Bool) → eqb (code_of base (ids ! i)) 0 ≡ z
          → cond (eqb (code_of base (ids ! i)) 0) (0 ∷ 0 ∷ []) (cond (eqb (code_of base (ids ! i)) escaped_code) (escape_back (escapes_to base ids (length ids)) (escape_ids_to base ids (length ids)) i (bisect (escapes_to base ids (length ids)) i)) (whole i (base + 8 * (code_of base (ids ! i) - 1)))) ≡ 0 ∷ ids ! i ∷ []
      go true t = rw (t, code_none base (ids ! i) (eqb-true _ _ t))
      go false t =
          let b = inline-back base (ids ! i) (eqb-false _ _ t) stays in
          rw (t, ne_eqb (code_of base (ids ! i)) escaped_code stays, b.0) (whole_id i (ids ! i) b.1 fits)

  -- Each id reads back, for every base.
  pub reads_back_lem : id_back (copied_of base ids) i ≡ 0 ∷ ids ! i ∷ []
  reads_back_lem = go (eqb (code_of base (ids ! i)) escaped_code) refl
    where
      go : (z : Bool) → eqb (code_of base (ids ! i)) escaped_code ≡ z → id_back (copied_of base ids) i ≡ 0 ∷ ids ! i ∷ []
      go true t = escape_back_lem (eqb-true _ _ t)
      go false t = plain_back_lem (eqb-false _ _ t)

-- What a caller has who has matched the answer: the used parts are parts, and together the coded columns.
module _ {base : ℕ} {ids : List ℕ} {nc np ni : ℕ} {r : Result CodedIds IdsError} {c p v : List ℕ} (w : IdsCoding base ids nc np ni r c p v) {coded : CodedIds} (e : r ≡ Ok coded) where
  done-accepts : accepts (ids_coded_says r) ≡ true
  unfolding accepts
  done-accepts = rw e

  done-says : 0 ∷ coded.codes ∷ coded.escapes ∷ [] ≡ 0 ∷ length ids ∷ escape_rows base ids ∷ []
  done-says = sym (ap ids_coded_says e) ∙ w.answer ∙ accepted_says (coding_accepted base ids nc np ni r w.answer done-accepts)

  done-codes : coded.codes ≡ length ids
  done-codes = ap (λ (says : List ℕ). says ! 1) done-says

  done_escapes : coded.escapes ≡ escape_rows base ids
  done_escapes = ap (λ (says : List ℕ). says ! 2) done-says

  pub done-parts : (coded.codes ≤ length c) × (coded.escapes ≤ length p) × (coded.escapes ≤ length v)
  unfolding copied_of
  done-parts = (
    omega (arith, done-codes, used_length _ _ c nc done-accepts w.codes, tab-length (λ i. code_of base (ids ! i)) (length ids)),
    omega (arith, done_escapes, used_length _ _ p np done-accepts w.escape_places),
    omega (arith, done_escapes, used_length _ _ v ni done-accepts w.escape_ids, length-map (escapes_to base ids (length ids)) (λ i. ids ! i)),
  )

  -- The used parts, at the lengths that the answer gives, are the coded columns.
  pub done_used : ids_of (take coded.codes c) (take coded.escapes p) (take coded.escapes v) base ≡ copied_of base ids
  unfolding copied_of
  done_used =
      rw (
        used_part _ _ c nc coded.codes done-accepts w.codes (tab-length _ _ ∙ sym done-codes),
        used_part _ _ p np coded.escapes done-accepts w.escape_places (sym done_escapes),
        used_part _ _ v ni coded.escapes done-accepts w.escape_ids (length-map (escapes_to base ids (length ids)) (λ i. ids ! i) ∙ sym done_escapes),
      )

  -- ROUND TRIP. Of columns that an accepted coding left, reading place i gives the id at i, for every i.
  pub round_trip : (i : ℕ) → i < length ids → ids ! i < 2 ^ 64 → id_back (ids_of (take coded.codes c) (take coded.escapes p) (take coded.escapes v) base) i ≡ 0 ∷ ids ! i ∷ []
  round_trip i h fits = rw done_used (reads_back_lem base ids i h fits)

-- ONE OUTCOME. Document 01's numbers and values tell the answers apart, and all else that a contract says is an equation.
answer_of : List ℕ → Result CodedIds IdsError
answer_of says = cond (eqb (says ! 0) 0) (Ok (record { codes = says ! 1; escapes = says ! 2 })) (Err (Room (says ! 1)))

coded_of-says : (r : Result CodedIds IdsError) → answer_of (ids_coded_says r) ≡ r
unfolding answer_of
coded_of-says (Ok coded) = refl
coded_of-says (Err (Room k)) = refl

id_of : List ℕ → Result ℕ IdError
id_of says = cond (eqb (says ! 0) 0) (Ok (says ! 1)) (cond (eqb (says ! 0) 11) (Err (Index (says ! 1))) (Err (Copied (says ! 1))))

id_of_says : (r : Result ℕ IdError) → id_of (id_says r) ≡ r
unfolding id_of
id_of_says (Ok v) = refl
id_of_says (Err (Index i)) = refl
id_of_says (Err (Copied i)) = refl

pub one-coding : {base : ℕ} {ids : List ℕ} {nc np ni : ℕ} {r r' : Result CodedIds IdsError} {c c' p p' v v' : List ℕ} → IdsCoding base ids nc np ni r c p v → IdsCoding base ids nc np ni r' c' p' v'
    → (r ≡ r') × (c ≡ c') × (p ≡ p') × (v ≡ v')
one-coding {r = r} {r' = r'} w w' =
    let e : r ≡ r' = sym (coded_of-says r) ∙ ap answer_of (w.answer ∙ sym w'.answer) ∙ coded_of-says r' in
    (e, rw e at w.codes ∙ sym w'.codes, rw e at w.escape_places ∙ sym w'.escape_places, rw e at w.escape_ids ∙ sym w'.escape_ids)

pub one_id : (says : List ℕ) (r r' : Result ℕ IdError) → id_says r ≡ says → id_says r' ≡ says → r ≡ r'
one_id says r r' e e' = sym (id_of_says r) ∙ ap id_of (e ∙ sym e') ∙ id_of_says r'
