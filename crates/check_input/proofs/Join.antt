-- The tests before PLACES, then PLACES: together what document 01 says, and what they leave in the working column. Assumes nothing.
use mathlib.Core.Path.{◌≡◌, refl, sym, ap, ◌∙◌}
use mathlib.Core.Logic.{◌⊎◌, inl, inr, ⊎_elim}
use borrow.Author.Tests.{le-ltb, ltb-true, ltb-false}
use mathlib.Core.Bool.{Bool, true, false, cond, false≢true}
use mathlib.Core.List.{List, [], ◌∷◌, ◌++◌, append_assoc}
use Prim.Native.Nat.{ℕ, zero, suc, ◌≤◌}
use native.Mathlib.Omega.{arith}
use lib.Dec.{ltb}
use lib.ListN.{length}
use Rattle.columns.specs.Lists.{◌!◌, places, all_of}
use Rattle.columns.specs.Columns.{zeros, accepts}
use Rattle.columns.proofs.Sums.{tab_ext}
use Rattle.columns.proofs.Parts.{places_ext}
use Rattle.std.specs.Prelude.{Result, Ok, Err, is_ok}
use Rattle.rules.specs.declared.Refusal.{Refusal}
use Rattle.rules.specs.Types.{refusal_says, checked_says}
use Rattle.rules.proofs.Types.{refusal_refuses}
use Rattle.check_tables.specs.Reads.{no_policy}
use Rattle.rules.specs.declared.ReferencePolicy.{ReferencePolicy}
use Rattle.rules.specs.Input.{Input, Route, Route.copied, Route.raw, object_count, class_count, slot_count, element_count, found_at}
use Rattle.rules.specs.Places.{place_count}
use Rattle.rules.specs.Verdict.{first_of, at, once, bad_lengths, bad_limit, bad_object, bad_dumped, bad_copied, bad_span, bad_part, bad_root, over_places, faults, check_says}
use Rattle.rules.specs.Needs.{Fits}
use Rattle.rules.proofs.Acceptance.{Sound}
use Rattle.rules.proofs.First.{first-append, first-once}
use Rattle.check_tables.specs.Found.{find_columns, mark_to, mark_at, marks, marks_if}
use Rattle.check_input.specs.Flat.{faults_late, counted_says, faults_before, Counted, Fitted, marks_left}
use Rattle.check_whole.specs.Whole.{limit_says, allowed}
use Rattle.check_whole.proofs.Narrow.{same_dumped}
use Rattle.check_input.proofs.Chain.{refused_first}
use Rattle.check_input.proofs.Sound.{before_refuse, before_sound}

-- The tests before PLACES do not read the policy.
abbrev pub with_policy : Input → ReferencePolicy → Input
with_policy x p = record { objects = x.objects; schema = x.schema; roots = x.roots; route = x.route; policy = p }

part_policy : (x : Input) (p : ReferencePolicy) (o : ℕ) (t : Route) → bad_part (with_policy x p) t o ≡ bad_part x t o
unfolding bad_part slot_count element_count
part_policy x p o (copied c) = refl
part_policy x p o (raw r) = refl

module _ (x : Input) (p : ReferencePolicy) where
  span_policy : (o : ℕ) → bad_span (with_policy x p) o ≡ bad_span x o
  unfolding bad_span
  span_policy o = ap (λ (b : Bool). all_of (ltb (x.objects.kinds ! o) 2 ∷ b ∷ [])) (part_policy x p o x.route)

  late_policy : faults_late (with_policy x p) ≡ faults_late x
  unfolding faults_late
  late_policy =
      ap (λ (ps : List ℕ). at 5 (bad_copied x.route) ++ (at 6 ps ++ at 7 (places (bad_root (object_count x) x.roots) (length x.roots))))
      (places_ext (bad_span (with_policy x p)) (bad_span x) (object_count x) (λ o l. span_policy o))

  dumped_policy : (c : ℕ) → bad_dumped (with_policy x p) c ≡ bad_dumped x c
  dumped_policy c = sym (same_dumped (with_policy x p) c) ∙ same_dumped x c

  pub before_policy : faults_before (with_policy x p) ≡ faults_before x
  unfolding faults_before bad_lengths bad_limit bad_object
  before_policy =
      ap (λ (ps : List ℕ). at 1 (once (bad_lengths x)) ++ (at 2 (once (bad_limit x)) ++ (at 3 (places (bad_object x) (object_count x)) ++ (at 4 ps ++ faults_late (with_policy x p)))))
      (places_ext (bad_dumped (with_policy x p)) (bad_dumped x) (class_count x.schema) (λ c l. dumped_policy c))
      ∙ ap (λ (fs : List (List ℕ)). at 1 (once (bad_lengths x)) ++ (at 2 (once (bad_limit x)) ++ (at 3 (places (bad_object x) (object_count x)) ++ (at 4 (places (bad_dumped x) (class_count x.schema)) ++ fs))))
      late_policy

pub fits_need : (room n : ℕ) → Fits room n n
unfolding Fits
fits_need room n = inl refl

-- The answer of the tests before, then PLACES, is document 01's.
module _ (x : Input) where
  all_faults : faults x ≡ faults_before x ++ at 8 (once (over_places (place_count x)))
  unfolding faults faults_before faults_late
  all_faults = simp append_assoc

  check_first : (told : ℕ) → first_of (faults x) (0 ∷ told ∷ []) ≡ first_of (faults_before x) (limit_says (place_count x) told)
  unfolding limit_says
  check_first told =
      ap (λ (fs : List (List ℕ)). first_of fs (0 ∷ told ∷ [])) all_faults
      ∙ first-append (faults_before x) (at 8 (once (over_places (place_count x)))) (0 ∷ told ∷ [])
      ∙ ap (first_of (faults_before x)) (first-once 8 (over_places (place_count x)) (0 ∷ told ∷ []))

  -- what is answered is the first of all faults, or the number told: by the tests before, then by PLACES
  pub joined : (held n k told : ℕ) {tested answer : List ℕ} → tested ≡ first_of (faults_before x) (0 ∷ held ∷ []) → (accepts tested ≡ true → place_count x ≡ n)
      → (accepts tested ≡ true → told ≡ k) → answer ≡ counted_says tested n k → answer ≡ first_of (faults x) (0 ∷ told ∷ [])
  unfolding counted_says accepts
  joined held n k told {tested} et same tells ea = ea ∙ go (faults_before x) refl (accepts tested) refl ∙ sym (check_first told)
    where
      go : (fs : List (List ℕ)) → faults_before x ≡ fs → (b : Bool) → accepts tested ≡ b → cond b (limit_says n k) tested ≡ first_of (faults_before x) (limit_says (place_count x) told)
      go [] ef true eb = rw (ef, same eb, tells eb)
      go [] ef false eb = absurd (false≢true (sym eb ∙ ap accepts (et ∙ ap (λ (fs : List (List ℕ)). first_of fs (0 ∷ held ∷ [])) ef)))
      go (f ∷ fs) ef true eb =
          let none : f ∷ fs ≡ [] = sym ef ∙ (before_refuse x).none_met (0 ∷ held ∷ []) (ap accepts (sym et) ∙ eb) in
          let z : ◌≡◌ {A = ℕ} 0 1 = cc in absurd (omega arith)
      go (f ∷ fs) ef false eb = et ∙ rw ef

  -- whatever number is told, the same inputs are accepted
  pub told-accepts : (told : ℕ) {answer : List ℕ} → answer ≡ first_of (faults x) (0 ∷ told ∷ []) → accepts answer ≡ accepts (check_says x)
  unfolding check_says accepts
  told-accepts told e = ap accepts e ∙ go (faults x)
    where
      go : (fs : List (List ℕ)) → accepts (first_of fs (0 ∷ told ∷ [])) ≡ accepts (first_of fs (0 ∷ place_count x ∷ []))
      go [] = refl
      go (f ∷ fs) = refl

-- what fits the room that is allowed is not over the limit
module _ (room n k : ℕ) where
  allowed-fits : Fits (allowed room) n k → Fits room n k
  unfolding Fits allowed
  allowed-fits f = ⊎_elim (λ e. inl e) (λ l. go (over_places room) refl l.0 l.1) f
    where
      go : (b : Bool) → over_places room ≡ b → n ≤ cond b 268435456 room → k ≤ cond b 268435456 room → (k ≡ n) ⊎ ((n ≤ room) × (k ≤ room))
      go true e l m = inr (omega (arith, ltb-true 268435456 room e), omega (arith, ltb-true 268435456 room e))
      go false e l m = inr (l, m)

  allowed_limit : Fits (allowed room) n k → limit_says k k ≡ limit_says n k
  unfolding Fits allowed limit_says
  allowed_limit f = ⊎_elim (λ e. rw e) (λ l. rw (le-ltb _ _ (small (over_places room) refl n l.0), le-ltb _ _ (small (over_places room) refl k l.1))) f
    where
      small : (b : Bool) → over_places room ≡ b → (i : ℕ) → i ≤ cond b 268435456 room → i ≤ 268435456
      small true e i l = l
      small false e i l = omega (arith, ltb-false 268435456 room e)

-- Marks read four columns.
module _ (x : Input) where
  abbrev pub narrow : Input
  narrow = find_columns x.objects.ids x.objects.kinds x.schema.classes.ids x.schema.classes.dumped

  same_mark : (o c : ℕ) → mark_to narrow o c ≡ mark_to x o c
  unfolding found_at
  same_mark o zero = refl
  same_mark o (suc c) = rw (same_mark o c)

  same_at : (c i : ℕ) → mark_at narrow c i ≡ mark_at x c i
  same_at c zero = refl
  same_at c (suc o) = rw (same_mark o c)

  pub same-marks : (c m : ℕ) → marks_if narrow c m ≡ marks_if x c m
  unfolding marks_if marks
  same-marks c m = ap (λ (w : List ℕ). cond (ltb (object_count x) m) w (zeros m)) (tab_ext (mark_at narrow c) (mark_at x c) m (λ i l. same_at c i))

-- What the tests before PLACES answer where they refuse; and where they accept, what PLACES answers.
module _ (x : Input) (held : ℕ) where
  -- their answer is said of an input without a policy
  said : {says : List ℕ} → says ≡ first_of (faults_before (with_policy x no_policy)) (0 ∷ held ∷ []) → says ≡ first_of (faults_before x) (0 ∷ held ∷ [])
  said e = e ∙ ap (λ fs. first_of fs (0 ∷ held ∷ [])) (before_policy x no_policy)

  pub count_refused : {room m : ℕ} {e : Refusal} {w : List ℕ} → refusal_says e ≡ first_of (faults_before (with_policy x no_policy)) (0 ∷ held ∷ []) → Counted x room m (Err e) w
  count_refused {room} {e = e} h = record {
    told = place_count x;
    fits = fits_need room (place_count x);
    answer =
        refused_first (faults_before x) (at 8 (once (over_places (place_count x)))) held (0 ∷ place_count x ∷ []) (said h) (refusal_refuses e)
        ∙ ap (λ fs. first_of fs (0 ∷ place_count x ∷ [])) (sym (all_faults x));
    marks = λ ok. absurd (false≢true (sym (refusal_refuses e) ∙ ok));
  }

  module _ {n : ℕ} (h : 0 ∷ n ∷ [] ≡ first_of (faults_before (with_policy x no_policy)) (0 ∷ held ∷ [])) where
    none_before : faults_before x ≡ []
    unfolding accepts
    none_before = (before_refuse x).none_met (0 ∷ held ∷ []) (ap accepts (sym (said h)))

    passed : Sound x
    passed = before_sound x none_before

    count_passed : (k : ℕ) {room m : ℕ} {r : Result ℕ Refusal} {w : List ℕ} → Fits room (place_count x) k → limit_says k k ≡ limit_says (place_count x) k
        → checked_says r ≡ limit_says k k → w ≡ marks_if (narrow x) (class_count x.schema) m → Counted x room m r w
    count_passed k {m = m} f l a marked = record {
      told = k;
      fits = f;
      answer = a ∙ l ∙ sym (check_first x k ∙ ap (λ fs. first_of fs (limit_says (place_count x) k)) none_before);
      marks = λ ok. marked ∙ same-marks x (class_count x.schema) m;
    }

    -- with a room, of which as much is asked for as is allowed; and the places themselves
    pub count_fit : (k : ℕ) {room m c a : ℕ} {r : Result ℕ Refusal} {w : List ℕ} → (Sound x → place_count x ≡ c) → a ≡ allowed room → Fits a c k → checked_says r ≡ limit_says k k
        → w ≡ marks_if (narrow x) (class_count x.schema) m → Counted x room m r w
    count_fit k {room} p e f =
        let g : Fits (allowed room) (place_count x) k = rw (p passed, ← e) f in
        count_passed k (allowed-fits room (place_count x) k g) (allowed_limit room (place_count x) k g)

    pub count_all : {m c : ℕ} {r : Result ℕ Refusal} {w : List ℕ} → (Sound x → place_count x ≡ c) → checked_says r ≡ limit_says c c → w ≡ marks_if (narrow x) (class_count x.schema) m → Counted x 0 m r w
    count_all p a = count_passed (place_count x) (fits_need 0 (place_count x)) refl (rw (p passed) a)

-- The marks are kept or cleared.
pub settled : {x : Input} {room m m' : ℕ} {r : Result ℕ Refusal} {w v : List ℕ} {keep : Bool} → Counted x room m' r w → m' ≡ m → length w ≡ m' → keep ≡ is_ok r
    → v ≡ cond keep w (zeros (length w)) → Fitted x room m r v
unfolding marks_left accepts
settled {x} {m = m} {m'} {r} {w} {v} {keep} c em el ek ev = record {
  told = c.told;
  fits = c.fits;
  answer = c.answer;
  marks = ev ∙ rw (ek, ← told-accepts x c.told c.answer) (go r c.marks);
}
  where
    go : (r : Result ℕ Refusal) → (accepts (checked_says r) ≡ true → w ≡ marks_if x (class_count x.schema) m')
        → cond (is_ok r) w (zeros (length w)) ≡ cond (accepts (checked_says r)) (marks_if x (class_count x.schema) m) (zeros m)
    go (Ok n) marked = marked refl ∙ ap (marks_if x (class_count x.schema)) em
    go (Err e) marked = rw (refusal_refuses e) (ap zeros (el ∙ em))
