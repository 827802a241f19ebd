-- The quick test of copied ids: counts of codes, and that where it passes the walk would find nothing. Assumes nothing.
use mathlib.Core.Path.{◌≡◌, refl, sym, ap, ◌∙◌}
use mathlib.Core.Logic.{⊎_elim}
use mathlib.Core.Bool.{Bool, true, false, cond}
use mathlib.Core.List.{List, [], ◌∷◌}
use Prim.Native.Nat.{ℕ, zero, suc, ◌+◌, ◌-◌, ◌*◌, ◌^◌, ◌≤◌, ◌<◌, zero-le}
use native.Mathlib.Nat.{add-zero, add-suc}
use native.Mathlib.Numerals.{add-one}
use native.Mathlib.Omega.{arith}
use borrow.Author.Tests.{eqb-true, eqb-false, leb-true, leb-false, not-true, not-false, lt-leb, eq-eqb, ne_eqb}
use lib.Dec.{eqb, leb}
use lib.ListN.{length, take}
use Rattle.columns.specs.Lists.{◌!◌, one, total, any_of}
use Rattle.columns.specs.Ranks.{Rises, rank}
use Rattle.columns.proofs.Lists.{lt_or_ge, first_none}
use Rattle.columns.proofs.Ranks.{rank-zero, rank_is, rank-next-hit, rank-next_miss, past_end}
use Rattle.columns.proofs.Tests.{none_of, each_of, no_places}
use Rattle.index.specs.Copied.{Ids, escaped_code}
use Rattle.rules.specs.Verdict.{bad_code, bad_escape}
use Rattle.check_tables.proofs.Even.{two_none}
use Rattle.check_ids.proofs.Walking.{row_within, row-place, row_other, code_fault_lem}
use Rattle.check_ids.specs.Copying.{has_row, escape_id, code_fault, walk_faults, escaped_codes, escape_fault, base_fault, is_clean}

-- how often a test holds below i
pub record Counted (t : ℕ → Bool) (i s : ℕ) : Type 0 where
  pub sum : s ≡ total (λ k. one (t k)) i
  pub small : s ≤ i

-- from a base that no code can lead astray, a code is at fault only as an escape
code_clean : (code base id : ℕ) → code ≤ escaped_code → base_fault base ≡ false → (code ≡ escaped_code → id ≡ 0 → ⊥) → code_fault code base id ≡ false
unfolding code_fault base_fault
code_clean code base id small safe some = go (eqb code 0) refl (eqb code escaped_code) refl
  where
    far : ℕ
    far = base + 8 * (code - 1)

    go : (a : Bool) → eqb code 0 ≡ a → (b : Bool) → eqb code escaped_code ≡ b → cond a false (cond b (eqb id 0) (any_of (leb (2 ^ 64) far ∷ eqb far 0 ∷ []))) ≡ false
    go true ea b eb = refl
    go false ea true eb = ne_eqb id 0 (some (eqb-true code escaped_code eb))
    go false ea false eb =
        let low : code < escaped_code = ⊎_elim (λ l. l) (λ l. absurd (eqb-false code escaped_code eb (omega arith))) (lt_or_ge code escaped_code) in
        let high = leb-false (2 ^ 64) (base + 8 * 4294967293) (none_of _ safe 1) in
        let some = eqb-false base 0 (none_of _ safe 0) in
        sym (two_none (leb (2 ^ 64) far) (eqb far 0) (lt-leb (2 ^ 64) far (omega arith)) (ne_eqb far 0 (λ z. some (omega arith))))

-- Escapes that rise, each with its code and an id.
module _ (c : Ids) (rise : Rises c.places) (every : (k : ℕ) → k < length c.places → escape_fault c.codes c.places c.ids k ≡ false) where
  -- how many codes before p are escapes, and how many escapes stand before p
  abbrev coded : ℕ → ℕ
  coded p = total (λ k. one (eqb (c.codes ! k) escaped_code)) p

  abbrev rows : ℕ → ℕ
  rows p = rank c.places p

  has_code : (k : ℕ) → k < length c.places → c.codes ! (c.places ! k) ≡ escaped_code
  unfolding escape_fault
  has_code k l = eqb-true _ _ (not-false _ (none_of _ (every k l) 0))

  has_id : (k : ℕ) → k < length c.places → c.ids ! k ≡ 0 → ⊥
  unfolding escape_fault
  has_id k l = eqb-false _ _ (none_of _ (every k l) 1)

  -- one position on
  rows-hit : (p : ℕ) → has_row c.places (rows p) p ≡ true → rows (suc p) ≡ rows p + 1
  rows-hit p h = rw (← add-one p) (sym (rank-next-hit c.places p (rows p) rise refl (row_within c.places (rows p) p h) (row-place c.places (rows p) p h)))

  rows_miss : (p : ℕ) → has_row c.places (rows p) p ≡ false → rows (suc p) ≡ rows p
  rows_miss p h = rw (← add-one p) (sym (rank-next_miss c.places p (rows p) rise refl (row_other c.places (rows p) p h)))

  coded-hit : (p : ℕ) → c.codes ! p ≡ escaped_code → coded (suc p) ≡ coded p + 1
  coded-hit p e = rw (eq-eqb _ _ e)

  row-coded : (p : ℕ) → has_row c.places (rows p) p ≡ true → c.codes ! p ≡ escaped_code
  row-coded p h = ap (λ (q : ℕ). c.codes ! q) (sym (row-place c.places (rows p) p h)) ∙ has_code (rows p) (row_within c.places (rows p) p h)

  -- The codes are never fewer than the escapes, and the difference never falls.
  step : (p : ℕ) → rows (suc p) + coded p ≤ coded (suc p) + rows p
  step p = go (has_row c.places (rows p) p) refl
    where
      go : (b : Bool) → has_row c.places (rows p) p ≡ b → rows (suc p) + coded p ≤ coded (suc p) + rows p
      go true h = omega (arith, rows-hit p h, coded-hit p (row-coded p h))
      go false h = omega (arith, rows_miss p h)

  steps : (p q : ℕ) → rows (p + q) + coded p ≤ coded (p + q) + rows p
  steps p zero = rw (add-zero p) (omega arith)
  steps p (suc q) = rw (add-suc p q) (omega (arith, steps p q, step (p + q)))

  between : (p n : ℕ) → p ≤ n → rows n + coded p ≤ coded n + rows p
  between p n l = let e : n ≡ p + (n - p) = omega arith in rw e (steps p (n - p))

  before : (p : ℕ) → rows p ≤ coded p
  before p = omega (arith, between 0 p zero-le, rank-zero c.places 0 (λ i l. zero-le))

  inside : (k : ℕ) → k < length c.places → c.places ! k < length c.codes
  inside k l = ⊎_elim (λ m. m) (λ m. absurd (omega (arith, has_code k l, past_end c.codes (c.places ! k) m))) (lt_or_ge (c.places ! k) (length c.codes))

  all_rows : length c.places ≡ rows (length c.codes)
  all_rows = rank_is c.places (length c.codes) rise (length c.places) (omega arith) inside (λ k g l. absurd (omega arith))

  -- So where both are as many at the end, they are everywhere, and each code of an escape has its row.
  has_row_lem : coded (length c.codes) ≡ length c.places → (p : ℕ) → p < length c.codes → c.codes ! p ≡ escaped_code → has_row c.places (rows p) p ≡ true
  has_row_lem full p l e = go (has_row c.places (rows p) p) refl
    where
      go : (b : Bool) → has_row c.places (rows p) p ≡ b → b ≡ true
      go true h = refl
      go false h = absurd (omega (arith, rows_miss p h, coded-hit p e, before p, between (suc p) (length c.codes) l, all_rows))

  good_id : (p : ℕ) → has_row c.places (rows p) p ≡ true → escape_id c.places c.ids (rows p) p ≡ 0 → ⊥
  unfolding escape_id
  good_id p h z = has_id (rows p) (row_within c.places (rows p) p h) (rw h at z)

  -- so no code and no escape is at fault
  module _ (even : length c.ids ≡ length c.places) (codes : (p : ℕ) → c.codes ! p ≤ escaped_code) (ids : (k : ℕ) → c.ids ! k < 2 ^ 64) where
    code-good : coded (length c.codes) ≡ length c.places → base_fault c.base ≡ false → (p : ℕ) → p < length c.codes → bad_code c p ≡ false
    code-good full safe p l =
        code_fault_lem c rise even p (rows p) l refl (ids (rows p))
        ∙ code_clean (c.codes ! p) c.base (escape_id c.places c.ids (rows p) p) (codes p) safe (λ e. good_id p (has_row_lem full p l e))

    escape_good : (k : ℕ) → k < length c.places → bad_escape c k ≡ false
    unfolding bad_escape
    escape_good k l = rw (has_code k l)

    none_walked : coded (length c.codes) ≡ length c.places → base_fault c.base ≡ false → ◌≡◌ {A = List ℕ} [] (take 1 (walk_faults c))
    unfolding walk_faults
    none_walked full safe = rw (no_places (bad_code c) (length c.codes) (code-good full safe), no_places (bad_escape c) (length c.places) escape_good)

pub clean_none : (c : Ids) → Rises c.places → length c.ids ≡ length c.places → ((p : ℕ) → c.codes ! p ≤ escaped_code) → ((k : ℕ) → c.ids ! k < 2 ^ 64)
    → {e : ℕ} → e ≡ escaped_codes c.codes → is_clean c e ≡ true → ◌≡◌ {A = List ℕ} [] (take 1 (walk_faults c))
unfolding is_clean escaped_codes
clean_none c rise even codes ids {e} counted h =
    let n = length c.places in
    none_walked c rise (λ k. first_none (escape_fault c.codes c.places c.ids) n k (leb-true n _ (each_of _ h 2))) even codes ids
    (sym counted ∙ eqb-true e n (each_of _ h 0)) (not-true _ (each_of _ h 1))
