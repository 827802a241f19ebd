-- What the contract of the checks comes to: one outcome, all facts on acceptance, the places, and what is left. Assumes nothing.
use mathlib.Core.Path.{◌≡◌, refl, sym, ap, ◌∙◌}
use mathlib.Core.Logic.{⊎_elim}
use mathlib.Core.Bool.{Bool, true, false, cond, false≢true}
use mathlib.Core.List.{List, [], ◌∷◌}
use Prim.Native.Nat.{ℕ}
use native.Mathlib.Omega.{arith}
use lib.Dec.{ltb}
use lib.ListN.{length, length-replicate}
use Rattle.columns.specs.Lists.{◌!◌, tab}
use Rattle.columns.specs.Columns.{zeros, accepts}
use Rattle.columns.proofs.Lists.{tab-length}
use Rattle.std.specs.Prelude.{Result}
use Rattle.rules.specs.declared.Refusal.{Refusal}
use Rattle.rules.specs.Types.{checked_says}
use Rattle.rules.specs.Input.{Input, object_count, class_count}
use Rattle.rules.specs.Places.{place_count}
use Rattle.rules.specs.Verdict.{first_of, faults, check_says}
use Rattle.rules.specs.Needs.{Fits}
use Rattle.rules.proofs.Types.{one_checked}
use Rattle.rules.proofs.Acceptance.{Passed, check_passed, faults_refuse}
use Rattle.check_tables.specs.Found.{marks, marks_if, mark_at}
use Rattle.check_input.specs.Flat.{marks_left, Judged, Marked, Fitted}
use Rattle.check_input.proofs.Join.{told-accepts}

-- No second outcome satisfies the contract.
pub one_judged : {x : Input} {m : ℕ} {r s : Result ℕ Refusal} {w v : List ℕ} → Judged x m r w → Judged x m s v → (r ≡ s) × (w ≡ v)
one_judged {x} {m} {r} {s} a b = (one_checked r s (a.answer ∙ sym b.answer), a.working ∙ sym b.working)

pub one_marked : {x : Input} {m : ℕ} {r s : Result ℕ Refusal} {w v : List ℕ} → Marked x m r w → Marked x m s v → (r ≡ s) × (w ≡ v)
one_marked {x} {m} {r} {s} a b = (one_checked r s (a.answer ∙ sym b.answer), a.marks ∙ sym b.marks)

module _ {x : Input} {m : ℕ} {r : Result ℕ Refusal} {w : List ℕ} (j : Judged x m r w) (ok : accepts (checked_says r) ≡ true) where
  accepted : accepts (check_says x) ≡ true
  accepted = ap accepts (sym j.answer) ∙ ok

  -- An accepted input passed every test, from which all facts of `rules/proofs/Acceptance.antt` follow.
  pub judged_passed : Passed x
  judged_passed = check_passed x accepted

  pub judged_says : checked_says r ≡ 0 ∷ place_count x ∷ []
  unfolding check_says
  judged_says = j.answer ∙ ap (λ (fs : List (List ℕ)). first_of fs (0 ∷ place_count x ∷ [])) ((faults_refuse x).none_met _ accepted)

-- The marks of an accepted input, zeros after a refusal; they are as long as the column was.
module _ {x : Input} {m : ℕ} {r : Result ℕ Refusal} {w : List ℕ} (j : Marked x m r w) where
  pub marked_zeros : accepts (checked_says r) ≡ false → w ≡ zeros m
  unfolding marks_left
  marked_zeros no_more = j.marks ∙ rw (ap accepts (sym j.answer) ∙ no_more)

  pub marked_marks : accepts (checked_says r) ≡ true → w ≡ marks_if x (class_count x.schema) m
  unfolding marks_left
  marked_marks ok = j.marks ∙ rw (ap accepts (sym j.answer) ∙ ok)

pub marks_long : (x : Input) (m : ℕ) → length (marks_left x m) ≡ m
unfolding marks_left marks_if marks
marks_long x m = go (accepts (check_says x)) (ltb (object_count x) m)
  where
    go : (a b : Bool) → length (cond a (cond b (tab (mark_at x (class_count x.schema)) m) (zeros m)) (zeros m)) ≡ m
    go true true = tab-length (mark_at x (class_count x.schema)) m
    go true false = length-replicate m 0
    go false b = length-replicate m 0

-- Where they are cleared, nothing is left of them.
pub marked_judged : {x : Input} {m : ℕ} {r : Result ℕ Refusal} {w v : List ℕ} → Marked x m r w → v ≡ zeros (length w) → Judged x m r v
marked_judged {x} {m} j e = record { answer = j.answer; working = e ∙ ap zeros (ap length j.marks ∙ marks_long x m) }

-- What a check with a room comes to. A refusal is what document 01 says,
module _ {x : Input} {room m : ℕ} {r : Result ℕ Refusal} {w : List ℕ} (j : Fitted x room m r w) where
  same_verdict : accepts (checked_says r) ≡ accepts (check_says x)
  same_verdict = told-accepts x j.told j.answer

  pub fitted_refused : accepts (checked_says r) ≡ false → checked_says r ≡ check_says x
  unfolding check_says accepts
  fitted_refused no_more = j.answer ∙ go (faults x) (ap accepts (sym j.answer) ∙ no_more)
    where
      go : (fs : List (List ℕ)) → accepts (first_of fs (0 ∷ j.told ∷ [])) ≡ false → first_of fs (0 ∷ j.told ∷ []) ≡ first_of fs (0 ∷ place_count x ∷ [])
      go [] e = absurd (false≢true (sym e))
      go (f ∷ fs) e = refl

  pub fitted_zeros : accepts (checked_says r) ≡ false → w ≡ zeros m
  unfolding marks_left
  fitted_zeros no_more = j.marks ∙ rw (sym same_verdict ∙ no_more)

  -- and an input that is accepted passed every test, and the number is the places or both fit the room.
  module _ (ok : accepts (checked_says r) ≡ true) where
    pub fitted_accepted : accepts (check_says x) ≡ true
    fitted_accepted = sym same_verdict ∙ ok

    pub fitted_passed : Passed x
    fitted_passed = check_passed x fitted_accepted

    pub fitted_says : checked_says r ≡ 0 ∷ j.told ∷ []
    fitted_says = j.answer ∙ ap (λ (fs : List (List ℕ)). first_of fs (0 ∷ j.told ∷ [])) ((faults_refuse x).none_met _ (ap accepts (sym j.answer) ∙ ok))

    pub fitted_fits : Fits room (place_count x) (checked_says r ! 1)
    fitted_fits = rw (ap (λ (s : List ℕ). s ! 1) fitted_says) j.fits

    pub fitted_marks : w ≡ marks_if x (class_count x.schema) m
    unfolding marks_left
    fitted_marks = j.marks ∙ rw fitted_accepted

-- Without room the number is the places.
pub fitted_marked : {x : Input} {m : ℕ} {r : Result ℕ Refusal} {w : List ℕ} → Fitted x 0 m r w → Marked x m r w
unfolding check_says Fits
fitted_marked {x} j =
    let e : j.told ≡ place_count x = ⊎_elim (λ (p : j.told ≡ place_count x). p) (λ l. omega (arith, l.0, l.1)) j.fits in
    record { answer = j.answer ∙ ap (λ (n : ℕ). first_of (faults x) (0 ∷ n ∷ [])) e; marks = j.marks }
