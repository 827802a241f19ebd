-- What the questions answer by the short columns alone: the definitions of the whole questions, on columns without long offsets and escapes. Assumes nothing.
use Rattle.std.specs.Prelude.{ℕ, ◌-◌, cond, List, [], ◌∷◌, ltb}
use Rattle.columns.specs.Lists.{◌!◌, first_place}
use Rattle.columns.specs.Columns.{accepts}
use Rattle.store.specs.Blocked.{Blocked, blocked_of}
use Rattle.rules.specs.Labels.{Coded}
use Rattle.rules.specs.Questions.{Columns}
use Rattle.labels.specs.Reading.{coded_of, code_back, exact_back}
use Rattle.ask_span.specs.Graph.{span_in, graph_of}
use Rattle.ask_label.specs.Labelled.{goes_to, or_columns}
use Rattle.ask_short.specs.declared.Lean.{Lean}

-- offsets without the long ones
abbrev pub short_of : List ℕ → List ℕ → Blocked
short_of bases short = blocked_of bases short [] []

-- labels without the escapes, and the label of one code, for which no edge's number is needed then
abbrev pub plain_of : List ℕ → List ℕ → Coded
plain_of codes fields = coded_of codes fields [] []

abbrev pub plain_back : List ℕ → ℕ → ℕ → List ℕ
plain_back fields n c = code_back fields [] [] 0 n c

-- a graph without both
abbrev pub lean_of : List ℕ → List ℕ → List ℕ → List ℕ → List ℕ → List ℕ → List ℕ → Columns
lean_of bases short codes targets fields weak_from weak_to = graph_of (short_of bases short) targets (plain_of codes fields) weak_from weak_to

-- offsets, labels and columns as they are without the long offsets and the escapes
abbrev pub shortly : Blocked → Blocked
shortly b = short_of b.bases b.short

abbrev pub plain_coded : Coded → Coded
plain_coded d = plain_of d.codes d.fields

abbrev pub leanly : Columns → Columns
leanly c = lean_of c.offsets.bases c.offsets.short c.labels.codes c.targets c.labels.fields c.weak_from c.weak_to

-- a graph without both, of columns that a clause names, and of those of the edges alone
module _ {A : Type 0} (read : A → List ℕ) where
  abbrev pub lean_columns : A → A → A → A → A → A → A → Columns
  lean_columns bases short codes targets fields weak_from weak_to =
      lean_of (read bases) (read short) (read codes) (read targets) (read fields) (read weak_from) (read weak_to)

  abbrev pub lean_edges : A → A → A → A → A → Columns
  lean_edges bases short codes targets fields = lean_of (read bases) (read short) (read codes) (read targets) (read fields) [] []

-- a graph without both, of a value that is lent, and of weak pairs beside it
abbrev pub lean_with : Lean → List ℕ → List ℕ → Columns
lean_with c weak_from weak_to = lean_of c.bases.now c.short.now c.codes.now c.targets.now c.fields.now weak_from weak_to

abbrev pub lean_in : Lean → Columns
lean_in c = lean_with c [] []

-- "`label_of` gives the exact label of the first edge to a target; a target that is no object is not found."
unfoldable pub label_found : Columns → ℕ → ℕ → List ℕ
label_found c o t =
    let s = span_in c o in
    let n = s ! 2 - s ! 1 in
    let k = first_place (goes_to c.targets (s ! 1) t) n in
    cond (accepts s) (cond (ltb k n) (or_columns o (exact_back c.labels (s ! 1) k)) (0 ∷ [])) s
