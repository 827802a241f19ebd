-- The answers: a refusal never accepts, and document 01's number and values tell the cases apart, so that a promise on them allows one answer.
-- Assumes nothing.
use Prim.Native.Nat.{ℕ}
use mathlib.Core.Path.{◌≡◌, refl, sym, ap, ◌∙◌}
use mathlib.Core.Bool.{false, cond}
use mathlib.Core.List.{List, [], ◌∷◌}
use lib.Dec.{eqb}
use lib.ListN.{length}
use Rattle.columns.specs.Lists.{◌!◌}
use Rattle.columns.specs.Columns.{accepts, kept}
use Rattle.rules.specs.declared.Refusal.{Refusal}
use Rattle.rules.specs.declared.Label.{Label}
use Rattle.rules.specs.declared.Counts.{Counts}
use Rattle.rules.specs.declared.Span.{Span}
use Rattle.rules.specs.declared.ListError.{ListError}
use Rattle.rules.specs.declared.Inverse.{Inverse}
use Rattle.rules.specs.declared.InvertError.{InvertError}
use Rattle.rules.specs.declared.Entry.{Entry}
use Rattle.store_read.specs.declared.ReadError.{ReadError}
use Rattle.std.specs.Prelude.{Option, None, Some, Result, Ok, Err, is_ok}
use Rattle.std.specs.Result.{result_unwrap_or}
use Rattle.rules.specs.Types.{answer_says, found_values, label_values, read_error_says, list_error_says, invert_error_says}
use Rattle.rules.specs.Types.{refusal_says, checked_says, built_says, span_says, edge_count_says, coarse_says, exact_says, label_of_says, field_says, referent_says}
use Rattle.rules.specs.Types.{weak_says, object_edges_says, each_field_says, inverted_says, entry_says}
use Rattle.rules.specs.Questions.{Promised}

pub refusal_refuses : (r : Refusal) → accepts (refusal_says r) ≡ false
unfolding accepts
refusal_refuses Refusal.Lengths = refl
refusal_refuses Refusal.Limit = refl
refusal_refuses (Refusal.Object o) = refl
refusal_refuses (Refusal.Class c) = refl
refusal_refuses (Refusal.Copied p) = refl
refusal_refuses (Refusal.Span o) = refl
refusal_refuses (Refusal.Root i) = refl
refusal_refuses Refusal.Places = refl
refusal_refuses (Refusal.Room k) = refl
refusal_refuses (Refusal.Parts c p) = refl
refusal_refuses (Refusal.Index i) = refl
refusal_refuses (Refusal.Columns o) = refl

-- one answer of a promise: what reads it off the number and values tells two answers apart
same : {R : Type 0} (says : R → List ℕ) (of : List ℕ → R) → ((r : R) → of (says r) ≡ r) → (r r' : R) → says r ≡ says r' → r ≡ r'
same says of back r r' e = sym (back r) ∙ ap of e ∙ back r'

refusal_of : List ℕ → Refusal
refusal_of a =
    cond (eqb (a ! 0) 1) Refusal.Lengths
    (cond (eqb (a ! 0) 2) Refusal.Limit
    (cond (eqb (a ! 0) 3) (Refusal.Object (a ! 1))
    (cond (eqb (a ! 0) 4) (Refusal.Class (a ! 1))
    (cond (eqb (a ! 0) 5) (Refusal.Copied (a ! 1))
    (cond (eqb (a ! 0) 6) (Refusal.Span (a ! 1))
    (cond (eqb (a ! 0) 7) (Refusal.Root (a ! 1))
    (cond (eqb (a ! 0) 8) Refusal.Places
    (cond (eqb (a ! 0) 9) (Refusal.Room (a ! 1))
    (cond (eqb (a ! 0) 10) (Refusal.Parts (a ! 1) (a ! 2))
    (cond (eqb (a ! 0) 11) (Refusal.Index (a ! 1))
    (Refusal.Columns (a ! 1))))))))))))

-- a build accepts where its answer is `Ok`
pub accepts_ok : (v : Result Counts Refusal) → accepts (built_says v) ≡ is_ok v
unfolding accepts
accepts_ok (Ok n) = refl
accepts_ok (Err r) = refusal_refuses r

refusal_back : (r : Refusal) → refusal_of (refusal_says r) ≡ r
unfolding refusal_of
refusal_back Refusal.Lengths = refl
refusal_back Refusal.Limit = refl
refusal_back (Refusal.Object o) = refl
refusal_back (Refusal.Class c) = refl
refusal_back (Refusal.Copied p) = refl
refusal_back (Refusal.Span o) = refl
refusal_back (Refusal.Root i) = refl
refusal_back Refusal.Places = refl
refusal_back (Refusal.Room k) = refl
refusal_back (Refusal.Parts c p) = refl
refusal_back (Refusal.Index i) = refl
refusal_back (Refusal.Columns o) = refl

read_error_of : List ℕ → ReadError
read_error_of a = cond (eqb (a ! 0) 11) (ReadError.Index (a ! 1)) (ReadError.Columns (a ! 1))

list_error_of : List ℕ → ListError
list_error_of a = cond (eqb (a ! 0) 9) (ListError.Room (a ! 1)) (cond (eqb (a ! 0) 11) (ListError.Index (a ! 1)) (ListError.Columns (a ! 1)))

invert_error_of : List ℕ → InvertError
invert_error_of a = cond (eqb (a ! 0) 9) (InvertError.Room (a ! 1)) (InvertError.Columns (a ! 1))

-- what is refused is read off its number and values, and never accepts
record Refused {E : Type 0} (says : E → List ℕ) : Type 0 where
  of : List ℕ → E
  back : (e : E) → of (says e) ≡ e
  refuses : (e : E) → accepts (says e) ≡ false

refusals : Refused refusal_says
refusals = record { of = refusal_of; back = refusal_back; refuses = refusal_refuses }

read_errors : Refused read_error_says
unfolding read_error_of accepts
read_errors = record {
  of = read_error_of;
  back = elim [ ReadError.Index i ↦ refl | ReadError.Columns o ↦ refl ];
  refuses = elim [ ReadError.Index i ↦ refl | ReadError.Columns o ↦ refl ];
}

list_errors : Refused list_error_says
unfolding list_error_of accepts
list_errors = record {
  of = list_error_of;
  back = elim [ ListError.Room k ↦ refl | ListError.Index i ↦ refl | ListError.Columns o ↦ refl ];
  refuses = elim [ ListError.Room k ↦ refl | ListError.Index i ↦ refl | ListError.Columns o ↦ refl ];
}

invert_errors : Refused invert_error_says
unfolding invert_error_of accepts
invert_errors = record {
  of = invert_error_of;
  back = elim [ InvertError.Room k ↦ refl | InvertError.Columns o ↦ refl ];
  refuses = elim [ InvertError.Room k ↦ refl | InvertError.Columns o ↦ refl ];
}

pub read_refuses : (e : ReadError) → accepts (read_error_says e) ≡ false
read_refuses = read_errors.refuses

pub list_refuses : (e : ListError) → accepts (list_error_says e) ≡ false
list_refuses = list_errors.refuses

-- How much of a list lent an answer keeps: as much as it gives.
pub list_kept : (r : Result ℕ ListError) → result_unwrap_or r 0 ≡ kept 1 (answer_says (λ n. n ∷ []) list_error_says r)
unfolding kept accepts
list_kept (Ok n) = refl
list_kept (Err e) = let z : eqb (list_error_says e ! 0) 0 ≡ false = list_refuses e in sym (rw z)

-- So an answer is read off the number and values that it says, where its values are.
answer_of : {A E : Type 0} → (List ℕ → A) → (List ℕ → E) → List ℕ → Result A E
answer_of value refusal a = cond (accepts a) (Ok (value a)) (Err (refusal a))

answer_back : {A E : Type 0} {values : A → List ℕ} {refused : E → List ℕ} (of : List ℕ → A) (errors : Refused refused) → ((x : A) → of (0 ∷ values x) ≡ x)
    → (r : Result A E) → answer_of of errors.of (answer_says values refused r) ≡ r
unfolding answer_of accepts
answer_back of errors back (Ok x) = ap Ok (back x)
answer_back of errors back (Err e) = rw (errors.refuses e) (ap (λ f. Err f) (errors.back e))

-- No second answer satisfies a promise of this form.
one_answer : {A E : Type 0} {values : A → List ℕ} {refused : E → List ℕ} (of : List ℕ → A) (errors : Refused refused) → ((x : A) → of (0 ∷ values x) ≡ x)
    → (r r' : Result A E) → answer_says values refused r ≡ answer_says values refused r' → r ≡ r'
one_answer of errors back = same _ (answer_of of errors.of) (answer_back of errors back)

-- a number, or none
number_at : List ℕ → Option ℕ
number_at a = cond (eqb (length a) 1) None (Some (a ! 1))

label_at : List ℕ → Option Label
label_at a = cond (eqb (length a) 1) None (Some (record { 0 = a ! 1 }))

number_back : (x : Option ℕ) → number_at (0 ∷ found_values x) ≡ x
unfolding number_at
number_back None = refl
number_back (Some n) = refl

label_back : (x : Option Label) → label_at (0 ∷ label_values x) ≡ x
unfolding label_at
label_back None = refl
label_back (Some l) = refl

abbrev span_at : List ℕ → Span
span_at a = record { start = a ! 1; end = a ! 2 }

-- Nor one of the checks, or of a build.
pub one_checked : (r r' : Result ℕ Refusal) → checked_says r ≡ checked_says r' → r ≡ r'
one_checked = one_answer (λ a. a ! 1) refusals (λ x. refl)

pub one-built : (r r' : Result Counts Refusal) → built_says r ≡ built_says r' → r ≡ r'
one-built = one_answer (λ a. record { edges = a ! 1; weak = a ! 2; roots = a ! 3; long = a ! 4; fields = a ! 5; escapes = a ! 6; dangling = a ! 7 }) refusals (λ x. refl)

-- Nor one of a question.
pub one_span : (r r' : Result Span ReadError) → span_says r ≡ span_says r' → r ≡ r'
one_span = one_answer span_at read_errors (λ x. refl)

pub one-edge_count : (r r' : Result ℕ ReadError) → edge_count_says r ≡ edge_count_says r' → r ≡ r'
one-edge_count = one_answer (λ a. a ! 1) read_errors (λ x. refl)

pub one-coarse : (r r' : Result Label ReadError) → coarse_says r ≡ coarse_says r' → r ≡ r'
one-coarse = one_answer (λ a. record { 0 = a ! 1 }) read_errors (λ x. refl)

pub one_exact : (r r' : Result Label ReadError) → exact_says r ≡ exact_says r' → r ≡ r'
one_exact = one_answer (λ a. record { 0 = a ! 1 }) read_errors (λ x. refl)

pub one-label_of : (r r' : Result (Option Label) ReadError) → label_of_says r ≡ label_of_says r' → r ≡ r'
one-label_of = one_answer label_at read_errors label_back

pub one_field : (r r' : Result (Option ℕ) ReadError) → field_says r ≡ field_says r' → r ≡ r'
one_field = one_answer number_at read_errors number_back

pub one-referent : (r r' : Result (Option ℕ) ReadError) → referent_says r ≡ referent_says r' → r ≡ r'
one-referent = one_answer number_at read_errors number_back

pub one-weak : (r r' : Result Span ReadError) → weak_says r ≡ weak_says r' → r ≡ r'
one-weak = one_answer span_at read_errors (λ x. refl)

pub one-object_edges : (r r' : Result ℕ ListError) → object_edges_says r ≡ object_edges_says r' → r ≡ r'
one-object_edges = one_answer (λ a. a ! 1) list_errors (λ x. refl)

pub one_each_field : (r r' : Result ℕ ListError) → each_field_says r ≡ each_field_says r' → r ≡ r'
one_each_field = one_answer (λ a. a ! 1) list_errors (λ x. refl)

pub one_inverted : (r r' : Result Inverse InvertError) → inverted_says r ≡ inverted_says r' → r ≡ r'
one_inverted = one_answer (λ a. record { entries = a ! 1; long = a ! 2 }) invert_errors (λ x. refl)

pub one_entry : (r r' : Result Entry ReadError) → entry_says r ≡ entry_says r' → r ≡ r'
one_entry = one_answer (λ a. record { source = a ! 1; place = a ! 2 }) read_errors (λ x. refl)

-- Where a question's answer is not COLUMNS, what it promises is that answer alone.
pub one_promise : {o : ℕ} {says says' answer : List ℕ} → eqb (answer ! 0) 12 ≡ false → Promised o says answer → Promised o says' answer → says ≡ says'
one_promise e p q = p.answered e ∙ sym (q.answered e)
