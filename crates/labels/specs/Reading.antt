-- Reading labels back from columns that may hold anything: a label, or nothing where an entry cannot be read back. Assumes nothing.
use Rattle.std.specs.Prelude.{Result, Ok, Err, ℕ, zero, suc, ◌+◌, ◌-◌, cond, not, List, [], ◌∷◌, eqb, ltb, leb, length}
use Rattle.std.specs.Bool.{beq}
use Rattle.columns.specs.Lists.{◌!◌, all_of}
use Rattle.columns.specs.Ranks.{bisect}
use Rattle.rules.specs.Types.{array_element_label, is_element}
use Rattle.rules.specs.Labels.{Coded, after, is_escaped}
use Rattle.rules.specs.declared.Label.{Label}
use Rattle.labels.specs.declared.Codes.{Codes}
use Rattle.labels.specs.declared.Unread.{Unread}

-- the label that an answer gives, or none
abbrev pub read_says : Result Label Unread → List ℕ
read_says (Ok l) = l.0 ∷ []
read_says (Err e) = []

abbrev pub coded_of : List ℕ → List ℕ → List ℕ → List ℕ → Coded
coded_of c f a l = record { codes = c; fields = f; escape_at = a; escape_label = l }

abbrev pub coded_in : Codes → Coded
coded_in c = record { codes = c.codes.now; fields = c.fields.now; escape_at = c.escape_at.now; escape_label = c.escape_label.now }

-- "Every .. 0x7FFF and 0xFFFF has its row (.. with a field's and an element's label)": the row where bisection ends, if it is this edge's.
unfoldable pub row_back : List ℕ → List ℕ → ℕ → ℕ → ℕ → List ℕ
row_back at ls e c k = cond (all_of (ltb k (length at) ∷ eqb (at ! k) e ∷ ltb k (length ls) ∷ beq (is_element (ls ! k)) (leb 32768 c) ∷ [])) (ls ! k ∷ []) []

-- "And every other code a field or an index under 2,147,483,648", where n is expected. What stands among the fields with an element's label is no field.
abbrev pub element_back : ℕ → List ℕ
element_back index = cond (ltb index array_element_label) ((array_element_label + index) ∷ []) []

unfoldable pub field_back : List ℕ → ℕ → List ℕ
field_back fields c = cond (all_of (ltb c (length fields) ∷ not (is_element (fields ! c)) ∷ [])) (fields ! c ∷ []) []

unfoldable pub code_back : List ℕ → List ℕ → List ℕ → ℕ → ℕ → ℕ → List ℕ
code_back fields at ls e n c =
    cond (is_escaped c) (row_back at ls e c (bisect at e)) (cond (leb 32768 c) (element_back (n + (c - 32768))) (field_back fields c))

-- the label of the edge e, where n is expected; of the k-th edge of the object whose edges begin at e
abbrev pub edge_label_back : Coded → ℕ → ℕ → List ℕ
edge_label_back d e n = code_back d.fields d.escape_at d.escape_label e n (d.codes ! e)

abbrev pub step_back : Coded → ℕ → ℕ → ℕ → List ℕ
step_back d e k n = edge_label_back d (e + k) n

-- What is expected behind the first k edges: nothing where one of them cannot be read.
abbrev pub next_of : ℕ → List ℕ → List ℕ
next_of n [] = []
next_of n (l ∷ ls) = after n l ∷ []

abbrev pub onward : (ℕ → List ℕ) → List ℕ → List ℕ
onward f [] = []
onward f (n ∷ ns) = f n

unfoldable pub next_back : Coded → ℕ → ℕ → List ℕ
next_back d e zero = 0 ∷ []
next_back d e (suc k) = onward (λ n. next_of n (step_back d e k n)) (next_back d e k)

-- the coarse and the exact label of the k-th edge: only an element's index asks for the edges before it
unfoldable pub coarse_back : Coded → ℕ → List ℕ
coarse_back d e = cond (leb 32768 (d.codes ! e)) (array_element_label ∷ []) (code_back d.fields d.escape_at d.escape_label e 0 (d.codes ! e))

unfoldable pub walk_back : Coded → ℕ → ℕ → List ℕ
walk_back d e k = onward (step_back d e k) (next_back d e k)

unfoldable pub exact_back : Coded → ℕ → ℕ → List ℕ
exact_back d e k = cond (leb 32768 (d.codes ! (e + k))) (walk_back d e k) (step_back d e k 0)
