-- How the stages of the first half come together. Assumes nothing.
use Prim.Native.Nat.{ℕ, zero, suc, ◌+◌, ◌≤◌, ◌<◌, min}
use native.Mathlib.Numerals.{add-one}
use native.Mathlib.Omega.{arith}
use mathlib.Core.Path.{◌≡◌, refl, sym, ap, ◌∙◌}
use mathlib.Core.Bool.{Bool, true, false, cond, true≢false}
use mathlib.Core.Logic.{inl, inr}
use mathlib.Core.List.{List, [], ◌∷◌}
use lib.ListN.{length}
use borrow.Author.Tests.{lt-ltb}
use Rattle.columns.specs.Lists.{◌!◌}
use Rattle.columns.specs.Columns.{over, accepts}
use Rattle.columns.proofs.Lists.{tab-at}
use Rattle.columns.proofs.Written.{begins_over}
use Rattle.std.specs.Prelude.{Result, Ok, Err}
use Rattle.rules.specs.declared.Counts.{Counts}
use Rattle.rules.specs.declared.Refusal.{Refusal}
use Rattle.rules.specs.Types.{built_says, checked_says, refusal_says}
use Rattle.rules.specs.Input.{Input, object_count, class_count, classes_at, found_at}
use Rattle.rules.specs.Edges.{graph, distinct_roots}
use Rattle.rules.specs.Account.{no_account}
use Rattle.rules.specs.Places.{place_count}
use Rattle.rules.specs.Needs.{need_weak, need_roots, Fits}
use Rattle.rules.specs.Verdict.{first_of, faults, check_says, at, plain_counts}
use Rattle.rules.proofs.Types.{refusal_refuses}
use Rattle.rules.proofs.Acceptance.{check_passed, faults_refuse}
use Rattle.check_tables.specs.Found.{marks, marks_if, mark_to, mark_at}
use Rattle.check_input.specs.Flat.{Marked, Fitted, marks_left}
use Rattle.need_roots.specs.Roots.{Collected}
use Rattle.edge_append.specs.Object.{mark_classes}
use Rattle.edge_pass.specs.Stage.{Handed, Edged, edges_said}
use Rattle.edge_pass.proofs.Accepted.{marks_tell}
use Rattle.build_rooms.specs.Stages.{Early, early, short_early, room_says, edges_says, half_says, Laid}
use Rattle.build_rooms.proofs.Fitting.{fits_need}
use Rattle.build_rooms.proofs.Enough.{enough, room_accepts}
use Rattle.build_rooms.proofs.Compose.{edge_said}
use Rattle.build_edges.specs.Laying.{Laying}

-- The marks that the checks hand on.
module _ (x : Input) (m : ℕ) (long : object_count x < m) {w : List ℕ} (ok : accepts (check_says x) ≡ true) (left : w ≡ marks_left x m) where
  are_marks : w ≡ marks x (class_count x.schema) m
  unfolding marks_left marks_if
  are_marks = left ∙ rw (ok, lt-ltb (object_count x) m long)

  pub mark_front : w ! 0 ≡ 0
  unfolding marks
  mark_front = ap (λ (z : List ℕ). z ! 0) are_marks ∙ tab-at (mark_at x (class_count x.schema)) 0 m 0 (omega arith)

  pub mark_is : (o : ℕ) → o < object_count x → w ! suc o ≡ mark_to x o (class_count x.schema)
  unfolding marks
  mark_is o l =
      ap (λ (z : List ℕ). z ! suc o) are_marks ∙ tab-at (mark_at x (class_count x.schema)) 0 m (suc o) (omega arith)
      ∙ ap (λ (b : Bool). cond b (mark_to x o (class_count x.schema)) 0) (lt-ltb o (object_count x) l)

  pub mark_told : (o : ℕ) → o < object_count x → mark_classes (w ! (o + 1)) ≡ classes_at x o
  mark_told o l =
      ap (λ (k : ℕ). mark_classes (w ! k)) (add-one o) ∙ ap mark_classes (mark_is o l)
      ∙ marks_tell x (check_passed x ok) o l (mark_to x o) refl (λ c. refl)

pub mark_most : (x : Input) (o c : ℕ) → mark_to x o c ≤ c
mark_most x o zero = omega arith
mark_most x o (suc c) = go (found_at x o c) (mark_most x o c)
  where
    go : (b : Bool) → mark_to x o c ≤ c → cond b (suc c) (mark_to x o c) ≤ suc c
    go true h = omega arith
    go false h = omega arith

-- the answer of the pass, by its numbers
pass_said : (x : Input) (v : Result Counts Refusal)
    → built_says (edges_said x v)
    ≡ cond (accepts (built_says v)) (0 ∷ length (graph x).targets ∷ length (graph x).weak_from ∷ built_says v ! 3 ∷ built_says v ! 4 ∷ built_says v ! 5 ∷ built_says v ! 6 ∷ (graph x).dangling ∷ [])
    (built_says v)
unfolding edges_said accepts
pass_said x (Ok c) = refl
pass_said x (Err r) = refused
  where
    refused : refusal_says r ≡ cond (accepts (refusal_says r)) (0 ∷ length (graph x).targets ∷ length (graph x).weak_from ∷ refusal_says r ! 3 ∷ refusal_says r ! 4 ∷ refusal_says r ! 5 ∷ refusal_says r ! 6 ∷ (graph x).dangling ∷ []) (refusal_says r)
    refused = rw (refusal_refuses r)

room_done : (c : List ℕ) (w n o : ℕ) (e : Early) → accepts c ≡ true → short_early (c ! 1) w n o e ≡ [] → room_says c w n o e ≡ 0 ∷ 0 ∷ w ∷ n ∷ 0 ∷ 0 ∷ 0 ∷ 0 ∷ []
unfolding room_says at
room_done c w n o e ok none = rw (ok, none)

-- What the checks hand on: their answer with a number that fits where the places do, and the marks.
pub record Tested (x : Input) (room m p : ℕ) (c : Result ℕ Refusal) (w : List ℕ) : Type 0 where
  pub answer : checked_says c ≡ first_of (faults x) (0 ∷ p ∷ [])
  pub fits : accepts (checked_says c) ≡ true → Fits room (place_count x) p
  pub marks : w ≡ marks_left x m

-- A check that counts the places tells just them.
pub marked : {x : Input} (room : ℕ) {m : ℕ} {c : Result ℕ Refusal} {w : List ℕ} → Marked x m c w → Tested x room m (place_count x) c w
unfolding check_says Fits
marked room j = record { answer = j.answer; fits = λ ok. inl refl; marks = j.marks }

pub fitted : {x : Input} {room m : ℕ} (a b : ℕ) {c : Result ℕ Refusal} {w : List ℕ} (f : Fitted x room m c w) → room ≡ min a b → Tested x (min a b) m f.told c w
fitted {x} a b f e = record { answer = f.answer; fits = λ ok. rw (← e) f.fits; marks = f.marks }

-- The most that there can be, where it has room.
pub fits_most : (most : ℕ → ℕ) (a b : ℕ) {need r room m n : ℕ} → n ≡ m → need ≤ most m → r ≡ most n → room ≡ min a b → r ≤ room → Fits (min a b) need r
unfolding Fits
fits_most most a b even bound is least h = inr (omega (arith, bound, is, ap most even), omega arith)

-- what is told where nothing is refused
told-places : (x : Input) (p : ℕ) (c : List ℕ) → c ≡ first_of (faults x) (0 ∷ p ∷ []) → accepts c ≡ true → c ! 1 ≡ p
told-places x p c e ok = ap (λ (z : List ℕ). z ! 1) e ∙ rw ((faults_refuse x).none_met (0 ∷ p ∷ []) (ap accepts (sym e) ∙ ok))

-- acceptance does not depend on the number that is told
pub told-accepts : (x : Input) (p : ℕ) (c : List ℕ) → c ≡ first_of (faults x) (0 ∷ p ∷ []) → accepts c ≡ true → accepts (check_says x) ≡ true
unfolding check_says accepts
told-accepts x p c e ok = rw ((faults_refuse x).none_met (0 ∷ p ∷ []) (ap accepts (sym e) ∙ ok))

-- What the stages before the pass say, one after the other: the checks tell a number of places and leave marks, weak pairs and roots are counted, and
-- then there is room or not.
pub record Staged (x : Input) (b s : ℕ) (v : Result Counts Refusal) (ts₀ ls₀ fs₀ ws₀ rs₀ wk₀ wk₂ rs : List ℕ) : Type 0 where
  pub check : Result ℕ Refusal
  pub told : ℕ
  pub marks : List ℕ
  pub pairs : ℕ
  pub distinct : ℕ
  pub tested : Tested x (min (length ts₀) (length ls₀)) (length wk₀) told check marks
  pub weak : accepts (checked_says check) ≡ true → Fits (min (length fs₀) (length ws₀)) (need_weak x) pairs
  pub rooted : accepts (checked_says check) ≡ true → Collected x.roots (object_count x) marks rs₀ distinct wk₂ rs
  pub working_kept : length wk₂ ≡ length wk₀
  pub roots_kept : length rs ≡ length rs₀
  pub rooms : built_says v
      ≡ room_says (checked_says check) pairs distinct (object_count x + 1)
      (early (length ts₀) (length ls₀) (length fs₀) (length ws₀) (length rs) b s (length wk₂))

-- The first half, from that.
module _ {x : Input} {b s : ℕ} {v : Result Counts Refusal} {ts₀ ls₀ fs₀ ws₀ rs₀ wk₀ wk₂ rs : List ℕ} (g : Staged x b s v ts₀ ls₀ fs₀ ws₀ rs₀ wk₀ wk₂ rs) where
  abbrev e : Early
  e = early (length ts₀) (length ls₀) (length fs₀) (length ws₀) (length rs) b s (length wk₂)

  abbrev says : List ℕ
  says = checked_says g.check

  passed : accepts (built_says v) ≡ true → (accepts says ≡ true) × (short_early (says ! 1) g.pairs g.distinct (object_count x + 1) e ≡ [])
  passed h = room_accepts says g.pairs g.distinct (object_count x + 1) e (ap accepts (sym g.rooms) ∙ h)

  roots_are : accepts says ≡ true → g.distinct ≡ need_roots x
  unfolding need_roots graph distinct_roots
  roots_are ok = (g.rooted ok).need

  accepted_input : accepts says ≡ true → accepts (check_says x) ≡ true
  accepted_input ok = told-accepts x g.told says g.tested.answer ok

  -- what the pass is handed
  pub handed : {a₁ : List (List ℕ)} → a₁ ≡ no_account → accepts (built_says v) ≡ true → Handed x (length ts₀) (length ls₀) (length fs₀) (length ws₀) wk₂ a₁
  handed none h =
      let ok = (passed h).0 in
      let room = enough (says ! 1) g.pairs g.distinct (object_count x + 1) e (passed h).1 in
      let is = told-places x g.told says g.tested.answer ok in
      let long : object_count x < length wk₀ = omega (arith, room.working, g.working_kept) in
      let left : wk₂ ≡ marks_left x (length wk₀) = (g.rooted ok).kept ∙ g.tested.marks in
      record {
        accepted = accepted_input ok;
        targets = fits_need _ (place_count x) g.told (length ts₀) (g.tested.fits ok) (omega arith) (rw is at room).targets;
        labels = fits_need _ (place_count x) g.told (length ls₀) (g.tested.fits ok) (omega arith) (rw is at room).labels;
        objects = fits_need _ (need_weak x) g.pairs (length fs₀) (g.weak ok) (omega arith) room.weak_from;
        weaks = fits_need _ (need_weak x) g.pairs (length ws₀) (g.weak ok) (omega arith) room.weak_to;
        offsets = omega (arith, room.working);
        front = mark_front x (length wk₀) long (accepted_input ok) left;
        marks = mark_told x (length wk₀) long (accepted_input ok) left;
        nothing = none;
      }

  roots_laid : accepts (built_says v) ≡ true → rs ≡ over (graph x).roots rs₀
  unfolding graph distinct_roots
  roots_laid h =
      let ok = (passed h).0 in
      let room = enough (says ! 1) g.pairs g.distinct (object_count x + 1) e (passed h).1 in
      (g.rooted ok).front (omega (arith, room.working, ap length (g.rooted ok).kept)) (omega (arith, room.roots_out, g.roots_kept, (g.rooted ok).need))

  -- the answer, and what is left
  module _ {r : Result Counts Refusal} {ts ls fs ws wk : List ℕ} {a : List (List ℕ)} (edged : Edged x v r ts₀ ls₀ fs₀ ws₀ wk₂ ts ls fs ws wk a) where
    pass-answer : built_says r ≡ edges_says (built_says v) (graph x)
    unfolding edges_says need_roots
    pass-answer = ap built_says edged.answer ∙ pass_said x v ∙ go (accepts (built_says v)) refl
      where
        go : (t : Bool) → accepts (built_says v) ≡ t
            → cond (accepts (built_says v)) (0 ∷ length (graph x).targets ∷ length (graph x).weak_from ∷ built_says v ! 3 ∷ built_says v ! 4 ∷ built_says v ! 5 ∷ built_says v ! 6 ∷ (graph x).dangling ∷ []) (built_says v)
            ≡ cond (accepts (built_says v)) (plain_counts (graph x)) (built_says v)
        go true h =
            let ok = (passed h).0 in
            let is = g.rooms ∙ room_done says g.pairs g.distinct (object_count x + 1) e ok (passed h).1 in
            rw (h, is, roots_are ok)
        go false h = rw h

    same-accepts : accepts (built_says r) ≡ true → accepts (built_says v) ≡ true
    unfolding edges_says
    same-accepts h = go (accepts (built_says v)) refl
      where
        go : (t : Bool) → accepts (built_says v) ≡ t → accepts (built_says v) ≡ true
        go true q = q
        go false q = absurd (true≢false (sym h ∙ ap accepts (pass-answer ∙ rw q) ∙ q))

    pub half : Laying x b s r ts₀ ls₀ fs₀ ws₀ rs₀ wk₀ ts ls fs ws rs wk a
    half = record {
      answer = edge_said x (early (length ts₀) (length ls₀) (length fs₀) (length ws₀) (length rs₀) b s (length wk₀)) g.told g.pairs g.distinct g.tested.answer g.tested.fits g.weak roots_are (g.rooms ∙ rw (g.roots_kept, g.working_kept)) pass-answer;
      laid = record {
        targets = λ h. edged.targets (same-accepts h);
        labels = λ h. begins_over (graph x).labels ls₀ (edged.labels (same-accepts h));
        weak_from = λ h. edged.objects (same-accepts h);
        weak_to = λ h. edged.weaks (same-accepts h);
        roots = λ h. roots_laid (same-accepts h);
        offsets = λ h. begins_over (graph x).offsets wk₂ (edged.offsets (same-accepts h));
        account = λ h. edged.account (same-accepts h);
      };
    }
