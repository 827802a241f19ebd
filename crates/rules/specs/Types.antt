-- What the types of src/ mean in document 01's numbers: labels, the policy, refusals and answers. Assumes nothing.
use Rattle.std.specs.Prelude.{ℕ, ◌+◌, ◌%◌, Bool, cond, List, [], ◌∷◌, Option, None, Some, Result, Ok, Err, eqb, leb}
use Rattle.rules.specs.declared.ReferencePolicy.{ReferencePolicy}
use Rattle.rules.specs.declared.Refusal.{Refusal}
use Rattle.rules.specs.declared.Label.{Label}
use Rattle.rules.specs.declared.Counts.{Counts}
use Rattle.rules.specs.declared.Span.{Span}
use Rattle.rules.specs.declared.ListError.{ListError}
use Rattle.rules.specs.declared.Inverse.{Inverse}
use Rattle.rules.specs.declared.InvertError.{InvertError}
use Rattle.rules.specs.declared.Entry.{Entry}
use Rattle.store_read.specs.declared.ReadError.{ReadError}
pub use Rattle.store_read.specs.Back.{read_error_says}

-- "`LOADER` is 2,147,483,647 and `ARRAY_ELEMENT` is 2,147,483,648."
abbrev pub loader_label : ℕ
loader_label = 2147483647

abbrev pub array_element_label : ℕ
array_element_label = 2147483648

-- "Element i gives label `ARRAY_ELEMENT` + i": an index has 31 bits.
abbrev pub element_label : ℕ → ℕ
element_label i = array_element_label + i % array_element_label

abbrev pub is_element : ℕ → Bool
is_element l = leb array_element_label l

-- "Reference kind soft follows keep-soft; every other kind, none included, follows keep-weak."
unfoldable pub keeps : ReferencePolicy → ℕ → Bool
keeps p kind = cond (eqb kind 1) p.soft p.weak

-- "When an answer is an enum, a definition states this paper's number and values for each enum case." 0 is acceptance, and its values follow.
abbrev pub refusal_says : Refusal → List ℕ
refusal_says Refusal.Lengths = 1 ∷ 0 ∷ []
refusal_says Refusal.Limit = 2 ∷ 0 ∷ []
refusal_says (Refusal.Object o) = 3 ∷ o ∷ []
refusal_says (Refusal.Class c) = 4 ∷ c ∷ []
refusal_says (Refusal.Copied p) = 5 ∷ p ∷ []
refusal_says (Refusal.Span o) = 6 ∷ o ∷ []
refusal_says (Refusal.Root i) = 7 ∷ i ∷ []
refusal_says Refusal.Places = 8 ∷ 0 ∷ []
refusal_says (Refusal.Room k) = 9 ∷ k ∷ []
refusal_says (Refusal.Parts c p) = 10 ∷ c ∷ p ∷ []
refusal_says (Refusal.Index i) = 11 ∷ i ∷ []
refusal_says (Refusal.Columns o) = 12 ∷ o ∷ []

abbrev pub list_error_says : ListError → List ℕ
list_error_says (ListError.Room k) = 9 ∷ k ∷ []
list_error_says (ListError.Index i) = 11 ∷ i ∷ []
list_error_says (ListError.Columns o) = 12 ∷ o ∷ []

abbrev pub invert_error_says : InvertError → List ℕ
invert_error_says (InvertError.Room k) = 9 ∷ k ∷ []
invert_error_says (InvertError.Columns o) = 12 ∷ o ∷ []

-- An answer: 0 and its values, or what is refused.
abbrev pub answer_says : {A E : Type 0} → (A → List ℕ) → (E → List ℕ) → Result A E → List ℕ
answer_says values refused (Ok a) = 0 ∷ values a
answer_says values refused (Err e) = refused e

-- the value, none where nothing is found
abbrev pub found_values : Option ℕ → List ℕ
found_values None = []
found_values (Some a) = a ∷ []

abbrev pub label_values : Option Label → List ℕ
label_values None = []
label_values (Some l) = l.0 ∷ []

abbrev pub span_values : Span → List ℕ
span_values s = s.start ∷ s.end ∷ []

abbrev pub checked_says : Result ℕ Refusal → List ℕ
checked_says = answer_says (λ p. p ∷ []) refusal_says

abbrev pub built_says : Result Counts Refusal → List ℕ
built_says = answer_says (λ c. c.edges ∷ c.weak ∷ c.roots ∷ c.long ∷ c.fields ∷ c.escapes ∷ c.dangling ∷ []) refusal_says

-- The questions: the values, none where nothing is found; INDEX with the number asked; COLUMNS with the object.
abbrev pub span_says : Result Span ReadError → List ℕ
span_says = answer_says span_values read_error_says

abbrev pub edge_count_says : Result ℕ ReadError → List ℕ
edge_count_says = answer_says (λ n. n ∷ []) read_error_says

abbrev pub coarse_says : Result Label ReadError → List ℕ
coarse_says = answer_says (λ l. l.0 ∷ []) read_error_says

abbrev pub exact_says : Result Label ReadError → List ℕ
exact_says = answer_says (λ l. l.0 ∷ []) read_error_says

abbrev pub label_of_says : Result (Option Label) ReadError → List ℕ
label_of_says = answer_says label_values read_error_says

abbrev pub field_says : Result (Option ℕ) ReadError → List ℕ
field_says = answer_says found_values read_error_says

abbrev pub referent_says : Result (Option ℕ) ReadError → List ℕ
referent_says = answer_says found_values read_error_says

abbrev pub weak_says : Result Span ReadError → List ℕ
weak_says = answer_says span_values read_error_says

abbrev pub object_edges_says : Result ℕ ListError → List ℕ
object_edges_says = answer_says (λ n. n ∷ []) list_error_says

-- Asked of a list (M-104): INDEX and COLUMNS with the position in the list.
abbrev pub each_field_says : Result ℕ ListError → List ℕ
each_field_says = answer_says (λ n. n ∷ []) list_error_says

abbrev pub inverted_says : Result Inverse InvertError → List ℕ
inverted_says = answer_says (λ i. i.entries ∷ i.long ∷ []) invert_error_says

abbrev pub entry_says : Result Entry ReadError → List ℕ
entry_says = answer_says (λ e. e.source ∷ e.place ∷ []) read_error_says
