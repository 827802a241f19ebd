-- Labels of edges: an answer is the rules' wherever the object reads back. Assumes nothing.
use Prim.Native.Nat.{ℕ, suc, ◌+◌, ◌-◌, ◌≤◌, ◌<◌}
use native.Mathlib.Omega.{arith}
use mathlib.Core.Path.{◌≡◌, refl, sym, ap, ◌∙◌}
use mathlib.Core.Logic.{◌⊎◌, inl, inr, ⊎_elim}
use mathlib.Core.Bool.{Bool, true, false, cond, false≢true}
use mathlib.Core.List.{List, [], ◌∷◌}
use mathlib.Core.Option.{none, some}
use borrow.Author.Tests.{lt-ltb, le-ltb, ltb-true, ltb-false}
use lib.Dec.{ltb, eqb}
use lib.ListN.{length}
use Rattle.columns.specs.Lists.{◌!◌, first_place}
use Rattle.columns.specs.Columns.{accepts}
use Rattle.columns.proofs.Lists.{lt_or_ge, first_none}
use Rattle.store.specs.Blocked.{Blocked}
use Rattle.rules.specs.Edges.{Edge}
use Rattle.rules.specs.Labels.{Coded, exact_label}
use Rattle.rules.specs.Questions.{Columns, coarse, asked, label_at, label_in, labels_of, reads_back, objects_in, offset_at, edges_in, edge_at, edges_read, exact_of, coarse_of, label_of, Promised}
use Rattle.rules.proofs.Asked.{label-read}
use Rattle.rules.proofs.Codes.{coarse-code}
use Rattle.labels.specs.Reading.{coarse_back, exact_back}
use Rattle.labels.proofs.Back.{exact_back_lem, coarse-back}
use Rattle.ask_span.specs.Reading.{span_of}
use Rattle.ask_span.specs.Graph.{span_in}
use Rattle.ask_late.proofs.Late.{late_forward, late_back_lem}
use Rattle.ask_label.specs.Labelled.{edge_asked, or_columns, late_back, labelled, coarse_at, goes_to, span_edges, first_to, Labelled, ExactAt, LabelTo}
use Rattle.ask_span.proofs.Spans.{span_inside, asked_reads, span-read, span_none, span-columns}
use Rattle.ask_span.proofs.FirstEdge.{first_edge_lem}
use Rattle.ask_span.proofs.Escapes.{escapes_rising, escapes_paired, edge_reads}
pub use Rattle.ask_edge.proofs.Asked.{no_edge, none_at_all, has_edge}

held : (says : List ℕ) (k : ℕ) {a b : ℕ} → edge_asked says k ≡ 0 ∷ a ∷ b ∷ [] → (says ≡ 0 ∷ a ∷ b ∷ []) × (k < b - a)
unfolding edge_asked accepts
held says k {a} {b} e = go (accepts says) refl (ltb k (says ! 2 - says ! 1)) refl e
  where
    go : (t : Bool) → accepts says ≡ t → (u : Bool) → ltb k (says ! 2 - says ! 1) ≡ u → cond t (cond u says (11 ∷ k ∷ [])) says ≡ 0 ∷ a ∷ b ∷ []
        → (says ≡ 0 ∷ a ∷ b ∷ []) × (k < b - a)
    go true t true u e =
        let start : says ! 1 ≡ a = ap (λ (xs : List ℕ). xs ! 1) e in
        let end : says ! 2 ≡ b = ap (λ (xs : List ℕ). xs ! 2) e in
        (e, omega (arith, ltb-true k (says ! 2 - says ! 1) u))
    go true t false u e = absurd (omega (arith, ap (λ (xs : List ℕ). xs ! 0) e))
    go false t u q e = absurd (false≢true (sym t ∙ ap accepts e))

-- an edge that exists stands within the codes
pub edge-coded : (c : Blocked) (codes targets o k : ℕ) {a b : ℕ} → edge_asked (span_of c codes targets o) k ≡ 0 ∷ a ∷ b ∷ [] → a + k < codes
edge-coded c codes targets o k e = let h = held (span_of c codes targets o) k e in omega (arith, h.1, (span_inside c codes targets o h.0).coded)

-- The labels of an object that reads back.
module _ (c : Columns) (o : ℕ) (h : reads_back c o ≡ true) where
  pub exact_read : (k : ℕ) → k < edges_in c o → exact_back c.labels (offset_at c o) k ≡ exact_label c.labels (offset_at c o) k ∷ []
  exact_read k l = exact_back_lem c.labels (escapes_rising c o h) (escapes_paired c o h) (offset_at c o) k (λ j m. edge_reads c o h j (omega arith))

  pub late_read : (k : ℕ) → k < edges_in c o → late_back c.labels (offset_at c o) k ≡ exact_label c.labels (offset_at c o) k ∷ []
  late_read k l = late_back_lem c.labels (offset_at c o) (escapes_rising c o h) (escapes_paired c o h) k (λ j m. edge_reads c o h j (omega arith))

  pub coarse-read : (k : ℕ) → k < edges_in c o → coarse_back c.labels (offset_at c o + k) ≡ coarse (exact_label c.labels (offset_at c o) k) ∷ []
  coarse-read k l =
      coarse-back c.labels (escapes_rising c o h) (escapes_paired c o h) (offset_at c o) k (edge_reads c o h k l)
      ∙ ap (λ (x : ℕ). x ∷ []) (coarse-code c.labels (offset_at c o) k (edge_reads c o h k l))

index_refuses : (k : ℕ) → accepts (11 ∷ k ∷ []) ≡ false
unfolding accepts
index_refuses k = refl

-- a label that is read, or not
labelled-read : (place ls : List ℕ) (o : ℕ) {a b : ℕ} → place ≡ 0 ∷ a ∷ b ∷ [] → labelled place ls o ≡ or_columns o ls
unfolding labelled accepts
labelled-read place ls o e = rw e

labelled_refused : (place ls : List ℕ) (o : ℕ) → accepts place ≡ false → labelled place ls o ≡ place
unfolding labelled
labelled_refused place ls o f = rw f

no_index : (o : ℕ) (ls : List ℕ) → eqb (or_columns o ls ! 0) 11 ≡ false
no_index o [] = refl
no_index o (l ∷ ls) = refl

columns-label : (o : ℕ) (ls : List ℕ) → eqb (or_columns o ls ! 0) 12 ≡ true → or_columns o ls ≡ 12 ∷ o ∷ []
columns-label o [] e = refl
columns-label o (l ∷ ls) e = absurd (false≢true e)

labelled-columns : (place ls : List ℕ) (o : ℕ) → (eqb (place ! 0) 12 ≡ true → place ≡ 12 ∷ o ∷ []) → eqb (labelled place ls o ! 0) 12 ≡ true → labelled place ls o ≡ 12 ∷ o ∷ []
unfolding labelled
labelled-columns place ls o h = go (accepts place)
  where
    go : (t : Bool) → eqb (cond t (or_columns o ls) place ! 0) 12 ≡ true → cond t (or_columns o ls) place ≡ 12 ∷ o ∷ []
    go true e = columns-label o ls e
    go false e = h e

edge-columns : (says : List ℕ) (k o : ℕ) → (eqb (says ! 0) 12 ≡ true → says ≡ 12 ∷ o ∷ []) → eqb (edge_asked says k ! 0) 12 ≡ true → edge_asked says k ≡ 12 ∷ o ∷ []
unfolding edge_asked
edge-columns says k o h = go (accepts says) (ltb k (says ! 2 - says ! 1))
  where
    go : (t u : Bool) → eqb (cond t (cond u says (11 ∷ k ∷ [])) says ! 0) 12 ≡ true → cond t (cond u says (11 ∷ k ∷ [])) says ≡ 12 ∷ o ∷ []
    go true true e = h e
    go true false e = absurd (false≢true e)
    go false u e = h e

-- Edge k by a way of reading its label, from where the object's edges begin.
module _ (c : Columns) (o k : ℕ) (read : ℕ → List ℕ) where
  abbrev at : List ℕ
  at = labelled (edge_asked (span_in c o) k) (read (span_in c o ! 1)) o

  read_is : {a b : ℕ} {says ls : List ℕ} → edge_asked (span_in c o) k ≡ 0 ∷ a ∷ b ∷ [] → ls ≡ read a → says ≡ or_columns o ls → says ≡ at
  read_is {a} {b} e r s =
      let start : span_in c o ! 1 ≡ a = ap (λ (xs : List ℕ). xs ! 1) (held (span_in c o) k e).0 in
      s ∙ ap (or_columns o) (r ∙ ap read (sym start)) ∙ sym (labelled-read (edge_asked (span_in c o) k) (read (span_in c o ! 1)) o e)

  refused_is : {says : List ℕ} → says ≡ edge_asked (span_in c o) k → accepts says ≡ false → says ≡ at
  refused_is e f = e ∙ sym (labelled_refused (edge_asked (span_in c o) k) (read (span_in c o ! 1)) o (ap accepts (sym e) ∙ f))

  -- COLUMNS is given with the object
  at-columns : eqb (at ! 0) 12 ≡ true → at ≡ 12 ∷ o ∷ []
  at-columns = labelled-columns (edge_asked (span_in c o) k) (read (span_in c o ! 1)) o (edge-columns (span_in c o) k o (span-columns c o))

  at_none : objects_in c ≤ o → at ≡ 11 ∷ o ∷ []
  unfolding labelled edge_asked accepts
  at_none l = ap (λ (s : List ℕ). labelled (edge_asked s k) (read (s ! 1)) o) (span_none c o l)

  module _ (f : ℕ → ℕ) (back : reads_back c o ≡ true → k < edges_in c o → read (offset_at c o) ≡ f (exact_label c.labels (offset_at c o) k) ∷ []) where
    at_read : o < objects_in c → reads_back c o ≡ true → at ≡ label_at f (edges_read c o) k
    at_read l h = ap (λ (s : List ℕ). labelled (edge_asked s k) (read (s ! 1)) o) (span-read c o l h) ∙ go (ltb k (edges_in c o)) refl ∙ sym (label-read c o k f)
      where
        place : List ℕ
        place = edge_asked (0 ∷ offset_at c o ∷ offset_at c (suc o) ∷ []) k

        go : (b : Bool) → ltb k (edges_in c o) ≡ b → labelled place (read (offset_at c o)) o ≡ cond b (0 ∷ f (exact_label c.labels (offset_at c o) k) ∷ []) (11 ∷ k ∷ [])
        go true t =
            let m : k < edges_in c o = ltb-true _ _ t in
            labelled-read place (read (offset_at c o)) o (has_edge (offset_at c o) (offset_at c (suc o)) k m) ∙ ap (or_columns o) (back h m)
        go false t =
            let none_is : place ≡ 11 ∷ k ∷ [] = no_edge (offset_at c o) (offset_at c (suc o)) k (ltb-false _ _ t) in
            labelled_refused place (read (offset_at c o)) o (ap accepts none_is ∙ index_refuses k) ∙ none_is

    at_promised : Promised o at (asked c o (reads_back c o) (label_at f (edges_read c o) k))
    at_promised = record { answered = asked_reads c o (reads_back c o) _ _ at_read at_none; columns = at-columns }

-- The coarse label.
module _ (c : Columns) (o k : ℕ) where
  abbrev coarse_from : ℕ → List ℕ
  coarse_from e = coarse_back c.labels (e + k)

  pub coarse_is : {a b : ℕ} {says ls : List ℕ} → edge_asked (span_in c o) k ≡ 0 ∷ a ∷ b ∷ [] → ls ≡ coarse_back c.labels (a + k) → says ≡ or_columns o ls → says ≡ coarse_at c o k
  unfolding coarse_at
  coarse_is e r s = read_is c o k coarse_from e r s

  pub coarse_refused : {says : List ℕ} → says ≡ edge_asked (span_in c o) k → accepts says ≡ false → says ≡ coarse_at c o k
  unfolding coarse_at
  coarse_refused e f = refused_is c o k coarse_from e f

  -- `coarse_label` keeps the promise over any columns.
  pub coarse_promised : Promised o (coarse_at c o k) (coarse_of c o k)
  unfolding coarse_at coarse_of
  coarse_promised = at_promised c o k coarse_from coarse (λ h l. coarse-read c o h k l)

-- whether an answer has a number
number : (says : List ℕ) (p : ℕ) {values : List ℕ} → says ≡ values → eqb (says ! 0) p ≡ eqb (values ! 0) p
number says p e = ap (λ (s : List ℕ). eqb (s ! 0) p) e

-- An edge that exists, by its label read forward and its label read from the nearest escape: both ways meet the contract.
module _ (o : ℕ) where
  two_numbers : (ls : List ℕ) → length (or_columns o ls) ≡ 2
  two_numbers [] = refl
  two_numbers (l ∷ ls) = refl

  forward_met : (forward late : List ℕ) {says : List ℕ} → says ≡ or_columns o forward → Labelled o forward late says
  forward_met forward late s = record { read = λ l ls e. s ∙ ap (or_columns o) e; unread = λ e. inl (s ∙ ap (or_columns o) e) }

  late_met : (d : Coded) (e k : ℕ) {says : List ℕ} → says ≡ or_columns o (late_back d e k) → Labelled o (exact_back d e k) (late_back d e k) says
  late_met d e k s = record { read = λ l ls q. s ∙ ap (or_columns o) (sym (late_forward d e k q) ∙ q); unread = λ q. inr s }

  -- whichever way: the forward answer where that is no COLUMNS; COLUMNS at the object only; never INDEX, and never nothing
  met_forward : (forward late : List ℕ) {says : List ℕ} → Labelled o forward late says → eqb (or_columns o forward ! 0) 12 ≡ false → says ≡ or_columns o forward
  met_forward [] late w f = absurd (false≢true (sym f))
  met_forward (l ∷ ls) late w f = w.read l ls refl

  met-columns : (forward late : List ℕ) {says : List ℕ} → Labelled o forward late says → eqb (says ! 0) 12 ≡ true → says ≡ 12 ∷ o ∷ []
  met-columns [] late {says} w h = ⊎_elim (λ e. e) (λ e. e ∙ columns-label o late (sym (number says 12 e) ∙ h)) (w.unread refl)
  met-columns (l ∷ ls) late {says} w h = absurd (false≢true (sym (number says 12 (w.read l ls refl)) ∙ h))

  met_exists : (forward late : List ℕ) {says : List ℕ} → Labelled o forward late says → eqb (says ! 0) 11 ≡ false
  met_exists [] late {says} w = ⊎_elim (λ e. number says 11 e) (λ e. number says 11 e ∙ no_index o late) (w.unread refl)
  met_exists (l ∷ ls) late {says} w = number says 11 (w.read l ls refl)

  met_two : (forward late : List ℕ) {says : List ℕ} → Labelled o forward late says → length says ≡ 2
  met_two [] late w = ⊎_elim (λ e. ap length e) (λ e. ap length e ∙ two_numbers late) (w.unread refl)
  met_two (l ∷ ls) late w = ap length (w.read l ls refl)

-- so it keeps the promise that the forward answer keeps
met_promised : {o : ℕ} {says forward answer : List ℕ} → Promised o forward answer → (eqb (forward ! 0) 12 ≡ false → says ≡ forward)
    → (eqb (says ! 0) 12 ≡ true → says ≡ 12 ∷ o ∷ []) → Promised o says answer
met_promised {o} {says} {forward} {answer} p same only = record {
  answered = λ f. let e : forward ≡ answer = p.answered f in same (number forward 12 e ∙ f) ∙ e;
  columns = only;
}

-- The exact label of edge k.
module _ (c : Columns) (o k : ℕ) where
  abbrev exact_from : ℕ → List ℕ
  exact_from e = exact_back c.labels e k

  abbrev edge : List ℕ
  edge = edge_asked (span_in c o) k

  abbrev exact_at : List ℕ
  exact_at = labelled edge (exact_from (span_in c o ! 1)) o

  pub exact_is : {a b : ℕ} {says ls : List ℕ} → edge_asked (span_in c o) k ≡ 0 ∷ a ∷ b ∷ [] → ls ≡ late_back c.labels a k → says ≡ or_columns o ls → ExactAt c o k says
  unfolding accepts
  exact_is {a} {b} {says} {ls} e r s =
      let start : span_in c o ! 1 ≡ a = ap (λ (xs : List ℕ). xs ! 1) (held (span_in c o) k e).0 in
      record {
        refused = λ f. absurd (false≢true (sym f ∙ ap accepts e));
        exists = λ t. late_met o c.labels (span_in c o ! 1) k (s ∙ ap (or_columns o) (r ∙ ap (λ (e : ℕ). late_back c.labels e k) (sym start)));
      }

  pub exact_refused : {says : List ℕ} → says ≡ edge_asked (span_in c o) k → accepts says ≡ false → ExactAt c o k says
  exact_refused {says} e f = record { refused = λ g. e; exists = λ t. absurd (false≢true (sym f ∙ ap accepts e ∙ t)) }

  -- the forward answer where that is no COLUMNS, and COLUMNS at the object only
  pub exact_forward : {says : List ℕ} → ExactAt c o k says → eqb (exact_at ! 0) 12 ≡ false → says ≡ exact_at
  unfolding labelled
  exact_forward {says} w = go (accepts edge) refl
    where
      go : (b : Bool) → accepts edge ≡ b → eqb (cond b (or_columns o (exact_from (span_in c o ! 1))) edge ! 0) 12 ≡ false → says ≡ cond b (or_columns o (exact_from (span_in c o ! 1))) edge
      go true t f = met_forward o _ _ (w.exists t) f
      go false t f = w.refused t

  exact_columns : {says : List ℕ} → ExactAt c o k says → eqb (says ! 0) 12 ≡ true → says ≡ 12 ∷ o ∷ []
  exact_columns {says} w h = go (accepts edge) refl
    where
      go : (b : Bool) → accepts edge ≡ b → says ≡ 12 ∷ o ∷ []
      go true t = met-columns o _ _ (w.exists t) h
      go false t = w.refused t ∙ edge-columns (span_in c o) k o (span-columns c o) (sym (number says 12 (w.refused t)) ∙ h)

  -- `exact_label` keeps the promise over any columns, and gives no INDEX of an edge that exists.
  pub exact_promised : {says : List ℕ} → ExactAt c o k says → Promised o says (exact_of c o k)
  unfolding exact_of
  exact_promised w = met_promised (at_promised c o k exact_from (λ l. l) (λ h l. exact_read c o h k l)) (exact_forward w) (exact_columns w)

  pub exact_exists : {says : List ℕ} → ExactAt c o k says → accepts (edge_asked (span_in c o) k) ≡ true → eqb (says ! 0) 11 ≡ false
  exact_exists w t = met_exists o _ _ (w.exists t)

-- The exact label of the first edge to a target.
module _ (c : Columns) (o t : ℕ) where
  abbrev pub first : ℕ → ℕ → ℕ
  first e n = first_place (goes_to c.targets e t) n

  abbrev pub label_from : ℕ → ℕ → List ℕ
  label_from e n = cond (ltb (first e n) n) (or_columns o (exact_back c.labels e (first e n))) (0 ∷ [])

  abbrev pub toward : List ℕ → List ℕ
  toward says = cond (accepts says) (label_from (says ! 1) (says ! 2 - says ! 1)) says

  from-columns : (e n : ℕ) → eqb (label_from e n ! 0) 12 ≡ true → label_from e n ≡ 12 ∷ o ∷ []
  from-columns e n = go (ltb (first e n) n)
    where
      go : (b : Bool) → eqb (cond b (or_columns o (exact_back c.labels e (first e n))) (0 ∷ []) ! 0) 12 ≡ true
          → cond b (or_columns o (exact_back c.labels e (first e n))) (0 ∷ []) ≡ 12 ∷ o ∷ []
      go true h = columns-label o (exact_back c.labels e (first e n)) h
      go false h = absurd (false≢true h)

  toward-columns : (says : List ℕ) → (eqb (says ! 0) 12 ≡ true → says ≡ 12 ∷ o ∷ []) → eqb (toward says ! 0) 12 ≡ true → toward says ≡ 12 ∷ o ∷ []
  toward-columns says h = go (accepts says)
    where
      go : (b : Bool) → eqb (cond b (label_from (says ! 1) (says ! 2 - says ! 1)) says ! 0) 12 ≡ true → cond b (label_from (says ! 1) (says ! 2 - says ! 1)) says ≡ 12 ∷ o ∷ []
      go true = from-columns (says ! 1) (says ! 2 - says ! 1)
      go false = h

  from-read : reads_back c o ≡ true → label_from (offset_at c o) (edges_in c o) ≡ 0 ∷ label_in (edges_read c o) t
  unfolding label_in edges_read
  from-read h = rw (first_edge_lem (λ (e : Edge). eqb e.target t) (edge_at c o) (edges_in c o)) (go (ltb (first (offset_at c o) (edges_in c o)) (edges_in c o)) refl)
    where
      j : ℕ
      j = first (offset_at c o) (edges_in c o)

      go : (b : Bool) → ltb j (edges_in c o) ≡ b
          → cond b (or_columns o (exact_back c.labels (offset_at c o) j)) (0 ∷ []) ≡ 0 ∷ labels_of (cond b (some (edge_at c o j)) none)
      go true l = ap (or_columns o) (exact_read c o h j (ltb-true _ _ l))
      go false l = refl

  toward-read : o < objects_in c → reads_back c o ≡ true → toward (span_in c o) ≡ 0 ∷ label_in (edges_read c o) t
  unfolding accepts
  toward-read l h = ap toward (span-read c o l h) ∙ from-read h

  toward_none : objects_in c ≤ o → toward (span_in c o) ≡ 11 ∷ o ∷ []
  unfolding accepts
  toward_none l = ap toward (span_none c o l)

  toward_promised : Promised o (toward (span_in c o)) (label_of c o t)
  unfolding label_of
  toward_promised = record { answered = asked_reads c o (reads_back c o) _ _ toward-read toward_none; columns = toward-columns (span_in c o) (span-columns c o) }

  -- The answer that reading forward gives meets the contract.
  toward-span : accepts (span_in c o) ≡ true → toward (span_in c o) ≡ label_from (span_in c o ! 1) (span_edges c o)
  toward-span a = ap (λ (b : Bool). cond b (label_from (span_in c o ! 1) (span_edges c o)) (span_in c o)) a

  from_none : (e n : ℕ) → n ≤ first e n → label_from e n ≡ 0 ∷ []
  from_none e n l = ap (λ (b : Bool). cond b (or_columns o (exact_back c.labels e (first e n))) (0 ∷ [])) (le-ltb (first e n) n l)

  from_some : (e n : ℕ) → first e n < n → label_from e n ≡ or_columns o (exact_back c.labels e (first e n))
  from_some e n l = ap (λ (b : Bool). cond b (or_columns o (exact_back c.labels e (first e n))) (0 ∷ [])) (lt-ltb (first e n) n l)

  pub toward-met : LabelTo c o t (toward (span_in c o))
  toward-met = record {
    refused = λ f. ap (λ (b : Bool). cond b (label_from (span_in c o ! 1) (span_edges c o)) (span_in c o)) f;
    nothing = λ a l. toward-span a ∙ from_none (span_in c o ! 1) (span_edges c o) l;
    exists = λ a l. forward_met o _ _ (toward-span a ∙ from_some (span_in c o ! 1) (span_edges c o) l);
  }

  -- of an object whose edges are from a up to b, j being the first to the target
  module _ {a b : ℕ} (at-ab : span_in c o ≡ 0 ∷ a ∷ b ∷ []) {j : ℕ} (is : j ≡ first a (b - a)) where
    toward-from : toward (span_in c o) ≡ cond (ltb j (b - a)) (or_columns o (exact_back c.labels a j)) (0 ∷ [])
    unfolding accepts
    toward-from = ap toward at-ab ∙ rw (← is)

    pub nothing-to : b - a ≤ j → LabelTo c o t (0 ∷ [])
    nothing-to l = let z : 0 ∷ [] ≡ toward (span_in c o) = sym (toward-from ∙ rw (le-ltb j (b - a) l)) in rw z toward-met

    pub label-to : {says ls : List ℕ} → j < b - a → ls ≡ late_back c.labels a j → says ≡ or_columns o ls → LabelTo c o t says
    unfolding accepts
    label-to {says} {ls} l r s =
        let place : first_to c o t ≡ j = ap (λ (s : List ℕ). first (s ! 1) (s ! 2 - s ! 1)) at-ab ∙ sym is in
        let count : span_edges c o ≡ b - a = ap (λ (s : List ℕ). s ! 2 - s ! 1) at-ab in
        let start : span_in c o ! 1 ≡ a = ap (λ (s : List ℕ). s ! 1) at-ab in
        let same : late_back c.labels a j ≡ late_back c.labels (span_in c o ! 1) (first_to c o t) =
        ap (λ (e : ℕ). late_back c.labels e j) (sym start) ∙ ap (late_back c.labels (span_in c o ! 1)) (sym place) in
        record {
          refused = λ f. absurd (false≢true (sym f ∙ ap accepts at-ab));
          nothing = λ x m. absurd (omega (arith, l, m, place, count));
          exists = λ x m. late_met o c.labels (span_in c o ! 1) (first_to c o t) (s ∙ ap (or_columns o) (r ∙ same));
        }

  pub refused_to : {says : List ℕ} → says ≡ span_in c o → accepts says ≡ false → LabelTo c o t says
  refused_to {says} e f =
      let z : accepts (span_in c o) ≡ false = ap accepts (sym e) ∙ f in
      record { refused = λ g. e; nothing = λ a l. absurd (false≢true (sym z ∙ a)); exists = λ a l. absurd (false≢true (sym z ∙ a)) }

  -- Whichever way: the forward answer where that is no COLUMNS, and COLUMNS at the object only.
  pub label_forward : {says : List ℕ} → LabelTo c o t says → eqb (toward (span_in c o) ! 0) 12 ≡ false → says ≡ toward (span_in c o)
  label_forward {says} w = go (accepts (span_in c o)) refl (ltb (first_to c o t) (span_edges c o)) refl
    where
      labelled-to : List ℕ
      labelled-to = or_columns o (exact_back c.labels (span_in c o ! 1) (first_to c o t))

      go : (b : Bool) → accepts (span_in c o) ≡ b → (u : Bool) → ltb (first_to c o t) (span_edges c o) ≡ u
          → eqb (cond b (cond u labelled-to (0 ∷ [])) (span_in c o) ! 0) 12 ≡ false → says ≡ cond b (cond u labelled-to (0 ∷ [])) (span_in c o)
      go true a true l f = met_forward o _ _ (w.exists a (ltb-true _ _ l)) f
      go true a false l f = w.nothing a (ltb-false _ _ l)
      go false a u l f = w.refused a

  label-columns : {says : List ℕ} → LabelTo c o t says → eqb (says ! 0) 12 ≡ true → says ≡ 12 ∷ o ∷ []
  label-columns {says} w h = go (accepts (span_in c o)) refl (lt_or_ge (first_to c o t) (span_edges c o))
    where
      go : (b : Bool) → accepts (span_in c o) ≡ b → (first_to c o t < span_edges c o) ⊎ (span_edges c o ≤ first_to c o t) → says ≡ 12 ∷ o ∷ []
      go true a (inl l) = met-columns o _ _ (w.exists a l) h
      go true a (inr l) = absurd (false≢true (sym (number says 12 (w.nothing a l)) ∙ h))
      go false a m = w.refused a ∙ span-columns c o (sym (number says 12 (w.refused a)) ∙ h)

  -- `label_of` keeps the promise over any columns, and gives no INDEX of an object that exists.
  pub label_promised : {says : List ℕ} → LabelTo c o t says → Promised o says (label_of c o t)
  label_promised w = met_promised toward_promised (label_forward w) (label-columns w)

  pub label_exists : {says : List ℕ} → LabelTo c o t says → accepts (span_in c o) ≡ true → eqb (says ! 0) 11 ≡ false
  label_exists {says} w a = ⊎_elim (λ l. met_exists o _ _ (w.exists a l)) (λ l. number says 11 (w.nothing a l)) (lt_or_ge (first_to c o t) (span_edges c o))

  -- Nothing is answered only where no edge of the object goes to the target.
  pub label-nothing : {says : List ℕ} → LabelTo c o t says → accepts (span_in c o) ≡ true → says ≡ 0 ∷ [] → (k : ℕ) → k < span_edges c o
      → goes_to c.targets (span_in c o ! 1) t k ≡ false
  label-nothing {says} w a e k m = first_none (goes_to c.targets (span_in c o ! 1) t) (span_edges c o) k (past (lt_or_ge (first_to c o t) (span_edges c o))) m
    where
      past : (first_to c o t < span_edges c o) ⊎ (span_edges c o ≤ first_to c o t) → span_edges c o ≤ first_to c o t
      past (inl l) = let z : ◌≡◌ {A = ℕ} 2 1 = sym (met_two o _ _ (w.exists a l)) ∙ ap length e in absurd (omega arith)
      past (inr l) = l
