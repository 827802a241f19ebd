-- Dumped classes found among objects whose ids rise: where, which are at fault, and the marks that a walk over the classes leaves. Assumes nothing.
use mathlib.Core.Path.{◌≡◌, refl, sym, ap, ◌∙◌}
use mathlib.Core.Logic.{⊎_elim}
use mathlib.Core.Bool.{Bool, true, false, cond, ◌||◌}
use mathlib.Core.List.{List, [], ◌∷◌}
use mathlib.Core.Option.{Option, none, some}
use Prim.Native.Nat.{ℕ, zero, suc, ◌+◌, ◌≤◌, ◌<◌}
use native.Mathlib.Numerals.{add-one}
use native.Mathlib.Omega.{arith}
use borrow.Author.Tests.{lt-ltb, le-ltb, eq-eqb, ne_eqb, eqb-true}
use Rattle.std.specs.Prelude.{Result}
use Rattle.std.specs.Result.{result_unwrap_or}
use lib.Dec.{eqb, ltb}
use lib.ListN.{length, set, length-set, length-replicate}
use lib.Seq.{get_or-set_same, get_or-set_other, ext_get_or}
use Rattle.columns.specs.Lists.{◌!◌, any, find, or_else, all_of, any_of}
use Rattle.columns.specs.Columns.{zeros}
use Rattle.columns.specs.Ranks.{Rises, rank}
use Rattle.columns.proofs.Lists.{lt_or_ge, tab-length, tab-at, eq_or_ne}
use Rattle.columns.proofs.Search.{find-get, find_at}
use Rattle.columns.proofs.Tests.{each_of, or_true, all_fails, or_none, and_true}
use Rattle.columns.proofs.Written.{zero-at}
use Rattle.lookup.specs.Lookup.{placed, lookup_of}
use Rattle.rules.specs.Input.{Input, object_count, found_at}
use Rattle.rules.specs.Verdict.{bad_find, found_badly}
use Rattle.check_tables.specs.Found.{place_for, find_fault, mark_fault, marking, mark_to, mark_at, marks, marks_if, find_columns, dumped_at, is_dumped}

none_yet : (x : Input) (i : ℕ) → mark_at x 0 i ≡ 0
none_yet x zero = refl
none_yet x (suc o) = go (ltb o (object_count x))
  where
    go : (b : Bool) → ◌≡◌ {A = ℕ} (cond b 0 0) 0
    go true = refl
    go false = refl

-- where a class is found
pub place_found : (ids : List ℕ) (id dumped o : ℕ) → dumped ≡ 1 → find ids id ≡ some o → o ≡ place_for ids id dumped
unfolding place_for
place_found ids id dumped o d f = rw (eq-eqb dumped 1 d, f)

pub place_sought : (ids : List ℕ) (id dumped : ℕ) {r : Result ℕ ℕ} → dumped ≡ 1 → r ≡ lookup_of ids id → result_unwrap_or r (length ids) ≡ place_for ids id dumped
unfolding place_for lookup_of
place_sought ids id dumped d e = rw (e, eq-eqb dumped 1 d) (go (find ids id))
  where
    go : (f : Option ℕ) → result_unwrap_or (placed f (rank ids id)) (length ids) ≡ or_else (length ids) f
    go none = refl
    go (some o) = refl

pub place_other : (ids : List ℕ) (id dumped : ℕ) → (dumped ≡ 1 → ⊥) → length ids ≡ place_for ids id dumped
unfolding place_for
place_other ids id dumped d = rw (ne_eqb dumped 1 d)

module _ (x : Input) (c : ℕ) where
  -- the object of class c, or the number of objects
  abbrev pub place : ℕ
  place = place_for x.objects.ids (x.schema.classes.ids ! c) (x.schema.classes.dumped ! c)

  pub find_fault_lem : bad_find x c ≡ find_fault x place c
  unfolding bad_find find_fault place_for all_of any_of
  find_fault_lem = go (eqb (x.schema.classes.dumped ! c) 1) (find x.objects.ids (x.schema.classes.ids ! c)) refl
    where
      at : ℕ → Bool
      at o = all_of (ltb o (object_count x) ∷ any_of (ltb (x.objects.kinds ! o) 3 ∷ any (found_at x o) c ∷ []) ∷ [])

      go : (d : Bool) (f : Option ℕ) → find x.objects.ids (x.schema.classes.ids ! c) ≡ f
          → all_of (d ∷ found_badly x c f ∷ []) ≡ at (cond d (or_else (object_count x) f) (object_count x))
      go true none e = rw (le-ltb (object_count x) (object_count x) (omega arith))
      go true (some o) e = rw (lt-ltb o (object_count x) (find-get x.objects.ids (x.schema.classes.ids ! c) o e).0)
      go false f e = rw (le-ltb (object_count x) (object_count x) (omega arith))

  -- it is found at its place, and nowhere else
  module _ (rise : Rises x.objects.ids) where
    pub found-place : (o : ℕ) → o < object_count x → found_at x o c ≡ true → o ≡ place
    unfolding found_at place_for
    found-place o l f =
        place_found x.objects.ids (x.schema.classes.ids ! c) (x.schema.classes.dumped ! c) o (eqb-true _ _ (each_of _ f 0))
        (find_at x.objects.ids (x.schema.classes.ids ! c) o rise l (sym (eqb-true _ _ (each_of _ f 1))))

    pub not_found : (o : ℕ) → o < object_count x → (o ≡ place → ⊥) → found_at x o c ≡ false
    not_found o l n = go (found_at x o c) refl
      where
        go : (b : Bool) → found_at x o c ≡ b → b ≡ false
        go true e = absurd (n (found-place o l e))
        go false e = refl

  pub found_there : place < object_count x → found_at x place c ≡ true
  unfolding found_at place_for all_of
  found_there l = go (eqb (x.schema.classes.dumped ! c) 1) refl (find x.objects.ids (x.schema.classes.ids ! c)) refl l
    where
      go : (d : Bool) → eqb (x.schema.classes.dumped ! c) 1 ≡ d → (f : Option ℕ) → find x.objects.ids (x.schema.classes.ids ! c) ≡ f
          → cond d (or_else (object_count x) f) (object_count x) < object_count x
          → all_of (d ∷ eqb (x.schema.classes.ids ! c) (x.objects.ids ! cond d (or_else (object_count x) f) (object_count x)) ∷ []) ≡ true
      go true d (some o) f l = rw (eq-eqb _ _ (sym (find-get x.objects.ids (x.schema.classes.ids ! c) o f).1))
      go true d none f l = absurd (omega arith)
      go false d f e l = absurd (omega arith)

-- an object has a mark where a class is found
pub mark_any : (x : Input) (o c : ℕ) → ltb 0 (mark_to x o c) ≡ any (found_at x o) c
unfolding any
mark_any x o zero = le-ltb 0 0 (omega arith)
mark_any x o (suc c) = go (found_at x o c) (mark_any x o c)
  where
    go : (b : Bool) → ltb 0 (mark_to x o c) ≡ any (found_at x o) c → ltb 0 (cond b (suc c) (mark_to x o c)) ≡ any (found_at x o) c || b
    go true e = lt-ltb 0 (suc c) (omega arith) ∙ sym (or_true (any (found_at x o) c))
    go false e = e ∙ sym (or_none (any (found_at x o) c))

-- the marks of the first c classes
pub record Marked (x : Input) (c m : ℕ) (w : List ℕ) : Type 0 where
  pub same : length w ≡ m
  pub at : (i : ℕ) → i < m → w ! i ≡ mark_at x c i

module _ (x : Input) (m : ℕ) where
  pub marked_start : (w : List ℕ) → w ≡ zeros m → Marked x 0 m w
  marked_start w e = record { same = rw e (length-replicate m 0); at = λ i l. rw e (zero-at m i ∙ sym (none_yet x i)) }

  pub marked_end : {c : ℕ} {w : List ℕ} → Marked x c m w → w ≡ marks x c m
  unfolding marks
  marked_end {c} {w} h =
      ext_get_or 0 w (marks x c m) (h.same ∙ sym (tab-length (mark_at x c) m))
      (λ i l. let l' : i < m = omega (arith, h.same) in h.at i l' ∙ sym (tab-at (mark_at x c) 0 m i l'))

  module _ (rise : Rises x.objects.ids) {c : ℕ} {w : List ℕ} (h : Marked x c m w) where
    more : (i : ℕ) → (i ≡ place x c + 1 → ⊥) → mark_at x (c + 1) i ≡ mark_at x c i
    more zero n = refl
    more (suc o) n = ⊎_elim (λ l. rw (lt-ltb o (object_count x) l, add-one c, not_found x c rise o l (λ e. n (rw (← e) (sym (add-one o)))))) (λ l. rw (le-ltb o (object_count x) l)) (lt_or_ge o (object_count x))

    pub marked_miss : object_count x ≤ place x c → Marked x (c + 1) m w
    marked_miss l = record { same = h.same; at = λ i k. h.at i k ∙ sym (later i) }
      where
        later : (i : ℕ) → mark_at x (c + 1) i ≡ mark_at x c i
        later zero = refl
        later (suc o) = ⊎_elim (λ g. more (suc o) (λ e. omega arith)) (λ g. rw (le-ltb o (object_count x) g)) (lt_or_ge o (object_count x))

    pub marked_hit : place x c < object_count x → object_count x < m → Marked x (c + 1) m (set w (place x c + 1) (c + 1))
    marked_hit l k = record { same = length-set w _ _ ∙ h.same; at = λ i q. ⊎_elim (here i q) (λ n. get_or-set_other w _ i _ 0 n ∙ h.at i q ∙ sym (more i n)) (eq_or_ne i (place x c + 1)) }
      where
        here : (i : ℕ) → i < m → i ≡ place x c + 1 → set w (place x c + 1) (c + 1) ! i ≡ mark_at x (c + 1) i
        here i q e = rw e (get_or-set_same w (place x c + 1) (c + 1) 0 (omega (arith, h.same)) ∙ rw (add-one (place x c), lt-ltb (place x c) (object_count x) l, add-one c, found_there x c l))

  -- one class more, by the tests of its marks
  module _ (rise : Rises x.objects.ids) (even : length x.objects.kinds ≡ object_count x) (room : object_count x < m) {c : ℕ} {w : List ℕ} (h : Marked x c m w) where
    mark_fault_lem : bad_find x c ≡ mark_fault x.objects.kinds w (place x c)
    unfolding find_fault mark_fault all_of
    mark_fault_lem = find_fault_lem x c ∙ rw even (⊎_elim inside (λ l. rw (le-ltb (place x c) (object_count x) l)) (lt_or_ge (place x c) (object_count x)))
      where
        inside : place x c < object_count x → all_of (ltb (place x c) (object_count x) ∷ any_of (ltb (x.objects.kinds ! place x c) 3 ∷ any (found_at x (place x c)) c ∷ []) ∷ [])
            ≡ all_of (ltb (place x c) (object_count x) ∷ any_of (ltb (x.objects.kinds ! place x c) 3 ∷ ltb 0 (w ! (place x c + 1)) ∷ []) ∷ [])
        inside l = rw (h.at (place x c + 1) (omega arith), add-one (place x c), lt-ltb (place x c) (object_count x) l, mark_any x (place x c) c)

    marked_more : mark_fault x.objects.kinds w (place x c) ≡ false → Marked x (c + 1) m (marking x.objects.kinds w (place x c) c)
    unfolding marking all_of
    marked_more f = rw (f, even) (⊎_elim (λ l. rw (lt-ltb (place x c) (object_count x) l) (marked_hit rise h l room)) (λ l. rw (le-ltb (place x c) (object_count x) l) (marked_miss rise h l)) (lt_or_ge (place x c) (object_count x)))

    marked_stop : mark_fault x.objects.kinds w (place x c) ≡ true → marking x.objects.kinds w (place x c) c ≡ marks x c m
    unfolding marking
    marked_stop f = rw (f, all_fails (ltb (place x c) (length x.objects.kinds)) false (λ e. refl)) (marked_end h)

    -- what a marked class leaves, whose place is o
    module _ {o : ℕ} {r : Bool} {v : List ℕ} (eo : o ≡ place x c) (er : r ≡ mark_fault x.objects.kinds w o) (ev : v ≡ marking x.objects.kinds w o c) where
      pub tells : bad_find x c ≡ r
      tells = mark_fault_lem ∙ sym (er ∙ ap (mark_fault x.objects.kinds w) eo)

      pub marked_next : r ≡ false → Marked x (c + 1) m v
      marked_next f = rw (ev, eo) (marked_more (sym mark_fault_lem ∙ tells ∙ f))

      pub marked_last : r ≡ true → v ≡ marks x c m
      marked_last f = ev ∙ rw eo (marked_stop (sym mark_fault_lem ∙ tells ∙ f))

-- the last test of a class found, without marks
pub find-test : (ids kinds classIds dumped : List ℕ) (o c : ℕ) {r : Bool} → o < length ids → 3 ≤ kinds ! o → r ≡ any (dumped_at classIds dumped (ids ! o)) c
    → r ≡ find_fault (find_columns ids kinds classIds dumped) o c
unfolding find_fault found_at is_dumped all_of any_of
find-test ids kinds classIds dumped o c l k e = rw (lt-ltb o (length ids) l, le-ltb (kinds ! o) 3 k, e) (sym (and_true _ ∙ or_none (any (dumped_at classIds dumped (ids ! o)) c)))

pub marks-same : (x : Input) (c m : ℕ) {w : List ℕ} → w ≡ marks x c m → length w ≡ m
unfolding marks
marks-same x c m e = rw e (tab-length (mark_at x c) m)

pub marks_if-same : (x : Input) (c m : ℕ) {w : List ℕ} → w ≡ marks_if x c m → length w ≡ m
unfolding marks_if
marks_if-same x c m e = rw e (go (ltb (object_count x) m))
  where
    go : (b : Bool) → length (cond b (marks x c m) (zeros m)) ≡ m
    go true = marks-same x c m refl
    go false = length-replicate m 0
