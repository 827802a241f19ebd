-- The walk along codes and escapes: what a row tells, what each position keeps, and where it ends. Assumes nothing.
use mathlib.Core.Path.{◌≡◌, refl, sym, ◌∙◌}
use mathlib.Core.Logic.{⊎_elim}
use mathlib.Core.Bool.{Bool, true, false, cond, not}
use mathlib.Core.List.{List, [], ◌∷◌, ◌++◌, append_assoc}
use Prim.Native.Nat.{ℕ, ◌+◌, ◌-◌, ◌*◌, ◌^◌, ◌≤◌, ◌<◌, zero-le}
use native.Mathlib.Nat.{add-zero}
use native.Mathlib.Omega.{arith}
use borrow.Author.Tests.{ltb-true, eqb-true, eqb-false, lt-ltb, ne_eqb, lt-leb}
use lib.Dec.{eqb, leb, ltb}
use lib.ListN.{length, take, get_or}
use Rattle.columns.specs.Lists.{◌!◌, places, first_place, one, all_of, any_of}
use Rattle.columns.specs.Columns.{accepts}
use Rattle.columns.specs.Ranks.{Rises, rank}
use Rattle.columns.proofs.Lists.{lt_or_ge, places-at, first_none}
use Rattle.columns.proofs.Ranks.{bisect-rank, rank-zero, rank_above, rank-next-hit, rank-next_miss, past_end}
use Rattle.columns.proofs.First.{Searching, searching_start, searching_more}
use Rattle.columns.proofs.Tests.{each_of, second_fails, no_places}
use Rattle.index.specs.Copied.{Ids, escaped_code, id_back, escape_back, whole}
use Rattle.rules.specs.Input.{Route.copied}
use Rattle.rules.specs.Verdict.{falls, bad_code, bad_escape, bad_copied}
use Rattle.check_tables.proofs.Laws.{no_fall_rises}
use Rattle.check_ids.specs.Copying.{has_row, escape_id, code_fault, good_on, walk_faults}

-- a row that is there is inside, and its place is the position; one that is not there is outside or has another place
pub row_within : (ps : List ℕ) (k p : ℕ) → has_row ps k p ≡ true → k < length ps
unfolding has_row
row_within ps k p h = ltb-true _ _ (each_of _ h 0)

pub row-place : (ps : List ℕ) (k p : ℕ) → has_row ps k p ≡ true → ps ! k ≡ p
unfolding has_row
row-place ps k p h = eqb-true _ _ (each_of _ h 1)

pub row_other : (ps : List ℕ) (k p : ℕ) → has_row ps k p ≡ false → k < length ps → ps ! k ≡ p → ⊥
unfolding has_row
row_other ps k p h l = eqb-false _ _ (second_fails _ _ h (lt-ltb _ _ l))

-- the first place of a list of places with others behind it
module _ (t : ℕ → Bool) (n : ℕ) {i : ℕ} (s : Searching t n i) where
  pub first_here : (ys : List ℕ) → i < n → t i ≡ true → i ∷ [] ≡ take 1 (places t n ++ ys)
  first_here ys l h = rw ((places-at t i n h l).1, s.none)

  pub first_alone : i < n → t i ≡ true → i ∷ [] ≡ take 1 (places t n)
  first_alone l h = rw ((places-at t i n h l).1, s.none)

  pub first_nowhere : n ≤ i → ◌≡◌ {A = List ℕ} [] (take 1 (places t n))
  first_nowhere l = let e : n ≡ i = omega (arith, s.within) in rw (e, s.none)

  pub first-later : (ys : List ℕ) → n ≤ i → take 1 ys ≡ take 1 (places t n ++ ys)
  first-later ys l = let e : n ≡ i = omega (arith, s.within) in rw (e, s.none)

-- A code is bad where it has no id: the row of a position is where bisection ends.
whole_fault : (i id : ℕ) → not (accepts (whole i id)) ≡ any_of (leb (2 ^ 64) id ∷ eqb id 0 ∷ [])
unfolding accepts whole any_of
whole_fault i id = go (eqb id 0) (leb (2 ^ 64) id)
  where
    go : (a b : Bool) → not (accepts (cond (any_of (a ∷ b ∷ [])) (5 ∷ i ∷ []) (0 ∷ id ∷ []))) ≡ any_of (b ∷ a ∷ [])
    go true true = refl
    go true false = refl
    go false true = refl
    go false false = refl

escape_fault_lem : (ps vs : List ℕ) (p k : ℕ) → length vs ≡ length ps → vs ! k < 2 ^ 64 → not (accepts (escape_back ps vs p k)) ≡ eqb (escape_id ps vs k p) 0
unfolding accepts escape_back escape_id has_row all_of any_of
escape_fault_lem ps vs p k e l = rw e (go (ltb k (length ps)) (eqb (ps ! k) p))
  where
    some : (b : Bool) → any_of (false ∷ b ∷ []) ≡ b
    some true = refl
    some false = refl

    go : (a b : Bool) → not (accepts (cond (all_of (a ∷ b ∷ a ∷ [])) (whole p (vs ! k)) (5 ∷ p ∷ []))) ≡ eqb (cond (all_of (a ∷ b ∷ [])) (vs ! k) 0) 0
    go true true = whole_fault p (vs ! k) ∙ rw (lt-leb (2 ^ 64) (vs ! k) l) (some (eqb (vs ! k) 0))
    go true false = refl
    go false true = refl
    go false false = refl

-- Before position p, with the escapes passed and how many of them from the first have their code: no code is bad, and if not all have, the next has not.
pub record Walk (c : Ids) (p rows good : ℕ) : Type 0 where
  pub codes : Searching (bad_code c) (length c.codes) p
  pub passed : rows ≡ rank c.places p
  pub escapes : Searching (bad_escape c) (length c.places) good
  pub behind : good ≤ rows
  pub stuck : good < rows → bad_escape c good ≡ true

module _ (c : Ids) (rise : Rises c.places) (even : length c.ids ≡ length c.places) where
  pub code_fault_lem : (p rows : ℕ) → p < length c.codes → rows ≡ rank c.places p → c.ids ! rows < 2 ^ 64
      → bad_code c p ≡ code_fault (c.codes ! p) c.base (escape_id c.places c.ids rows p)
  unfolding bad_code id_back code_fault accepts
  code_fault_lem p rows l e small = rw (lt-ltb p (length c.codes) l, bisect-rank c.places p rise, ← e) (go (eqb (c.codes ! p) 0) (eqb (c.codes ! p) escaped_code))
    where
      far : ℕ
      far = c.base + 8 * (c.codes ! p - 1)

      go : (a b : Bool) → not (accepts (cond a (0 ∷ 0 ∷ []) (cond b (escape_back c.places c.ids p rows) (whole p far))))
          ≡ cond a false (cond b (eqb (escape_id c.places c.ids rows p) 0) (any_of (leb (2 ^ 64) far ∷ eqb far 0 ∷ [])))
      go true b = refl
      go false true = escape_fault_lem c.places c.ids p rows even small
      go false false = whole_fault p far

  pub walk_start : Walk c 0 0 0
  walk_start = record {
    codes = searching_start _ _;
    passed = sym (rank-zero c.places 0 (λ i l. zero-le));
    escapes = searching_start _ _;
    behind = zero-le;
    stuck = λ l. absurd (omega arith);
  }

  -- what the test of a code tells, with the id of its escape
  pub walk_bad : {p rows good id : ℕ} {r : Bool} → Walk c p rows good → p < length c.codes → c.ids ! rows < 2 ^ 64 → id ≡ escape_id c.places c.ids rows p
      → r ≡ code_fault (c.codes ! p) c.base id → bad_code c p ≡ r
  walk_bad {p} {rows} w l small ei er = code_fault_lem p rows l w.passed small ∙ rw (← ei) (sym er)

  -- one position on, without a row
  walk_miss : {p rows good : ℕ} → Walk c p rows good → p < length c.codes → bad_code c p ≡ false → has_row c.places rows p ≡ false → Walk c (p + 1) rows good
  walk_miss {p} {rows} w l h r = record {
    codes = searching_more _ _ w.codes l h;
    passed = rank-next_miss c.places p rows rise w.passed (row_other c.places rows p r);
    escapes = w.escapes;
    behind = w.behind;
    stuck = w.stuck;
  }

  -- with one that has its code, all before it having theirs
  walk_good : {p rows good : ℕ} → Walk c p rows good → p < length c.codes → bad_code c p ≡ false → has_row c.places rows p ≡ true
      → c.codes ! p ≡ escaped_code → good ≡ rows → Walk c (p + 1) (rows + 1) (good + 1)
  unfolding bad_escape
  walk_good {p} {rows} {good} w l h r e g = record {
    codes = searching_more _ _ w.codes l h;
    passed = rank-next-hit c.places p rows rise w.passed (row_within c.places rows p r) (row-place c.places rows p r);
    escapes = searching_more _ _ w.escapes (rw g (row_within c.places rows p r)) (rw (g, row-place c.places rows p r, e));
    behind = omega (arith, w.behind);
    stuck = λ m. absurd (omega (arith, g));
  }

  -- with one, but it or one before it has no code
  walk_stuck : {p rows good : ℕ} → Walk c p rows good → p < length c.codes → bad_code c p ≡ false → has_row c.places rows p ≡ true
      → (good ≡ rows → c.codes ! p ≡ escaped_code → ⊥) → Walk c (p + 1) (rows + 1) good
  unfolding bad_escape
  walk_stuck {p} {rows} {good} w l h r n = record {
    codes = searching_more _ _ w.codes l h;
    passed = rank-next-hit c.places p rows rise w.passed (row_within c.places rows p r) (row-place c.places rows p r);
    escapes = w.escapes;
    behind = omega (arith, w.behind);
    stuck = λ m. ⊎_elim w.stuck (λ k. let g : good ≡ rows = omega (arith, w.behind) in rw (g, row-place c.places rows p r, ne_eqb _ _ (n g))) (lt_or_ge good rows);
  }

  pub walk_more : {p rows good : ℕ} → Walk c p rows good → p < length c.codes → bad_code c p ≡ false
      → Walk c (p + 1) (rows + one (has_row c.places rows p)) (good_on good rows (has_row c.places rows p) (c.codes ! p))
  unfolding good_on all_of
  walk_more {p} {rows} {good} w l h = go (has_row c.places rows p) refl (eqb (c.codes ! p) escaped_code) refl (eqb good rows) refl
    where
      go : (row : Bool) → has_row c.places rows p ≡ row → (e : Bool) → eqb (c.codes ! p) escaped_code ≡ e → (g : Bool) → eqb good rows ≡ g
          → Walk c (p + 1) (rows + one row) (cond (all_of (row ∷ e ∷ g ∷ [])) (good + 1) good)
      go false r e te g tg = rw (add-zero rows) (walk_miss w l h r)
      go true r true te true tg = walk_good w l h r (eqb-true _ _ te) (eqb-true _ _ tg)
      go true r true te false tg = walk_stuck w l h r (λ q z. eqb-false _ _ tg q)
      go true r false te g tg = walk_stuck w l h r (λ q z. eqb-false _ _ te z)

  -- At the end, the first escape that has no code is where they stop having one.
  pub walk_hit : {p rows good : ℕ} → Walk c p rows good → p < length c.codes → bad_code c p ≡ true → p ∷ [] ≡ take 1 (walk_faults c)
  unfolding walk_faults
  walk_hit w l h = first_here _ _ w.codes _ l h

  last-bad : {p rows good : ℕ} → Walk c p rows good → length c.codes ≤ p → good < length c.places → bad_escape c good ≡ true
  unfolding bad_escape
  last-bad {p} {rows} {good} w l m =
      ⊎_elim w.stuck
      (λ k.
      let g : good ≡ rows = omega (arith, w.behind) in
      let far : length c.codes ≤ c.places ! good = omega (arith, rank_above c.places p rise good (omega (arith, w.passed)) m) in
      rw (past_end c.codes (c.places ! good) far))
      (lt_or_ge good rows)

  pub walk_escape : {p rows good : ℕ} → Walk c p rows good → length c.codes ≤ p → good < length c.places → good ∷ [] ≡ take 1 (walk_faults c)
  unfolding walk_faults
  walk_escape w l m = first_alone _ _ w.escapes m (last-bad w l m) ∙ first-later _ _ w.codes _ l

  pub walk_clean : {p rows good : ℕ} → Walk c p rows good → length c.codes ≤ p → length c.places ≤ good → ◌≡◌ {A = List ℕ} [] (take 1 (walk_faults c))
  unfolding walk_faults
  walk_clean w l m = first_nowhere _ _ w.escapes m ∙ first-later _ _ w.codes _ l

pub copied_rises : (ps : List ℕ) {p : ℕ} → p ≡ first_place (falls ps) (length ps) → length ps ≤ p → Rises ps
copied_rises ps e l = no_fall_rises ps (omega arith)

-- Escapes that do not rise come first.
module _ (c : Ids) where
  abbrev n : ℕ
  n = length c.places

  pub copied_fall : (p : ℕ) → p ≡ first_place (falls c.places) n → p < n → p ∷ [] ≡ take 1 (bad_copied (copied (record { ids = c; starts = [] })))
  unfolding bad_copied
  copied_fall p e l = rw (append_assoc (places (falls c.places) n) (places (bad_code c) (length c.codes)) (places (bad_escape c) n)) (go (places (falls c.places) n) e)
    where
      go : (xs : List ℕ) → p ≡ get_or xs 0 n → p ∷ [] ≡ take 1 (xs ++ (places (bad_code c) (length c.codes) ++ places (bad_escape c) n))
      go [] e = absurd (omega arith)
      go (x ∷ xs) e = rw e

  -- where none falls, the walk finds the first fault
  pub copied_walk : {p : ℕ} → p ≡ first_place (falls c.places) n → n ≤ p → take 1 (walk_faults c) ≡ take 1 (bad_copied (copied (record { ids = c; starts = [] })))
  unfolding bad_copied walk_faults
  copied_walk e l = rw (no_places (falls c.places) n (λ i. first_none (falls c.places) n i (omega arith)))
