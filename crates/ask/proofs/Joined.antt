-- THE QUESTIONS JOINED TO THE BUILDS. Of what an accepted build left, and of what an accepted `from_parts` left, each question's answer over the used parts is the
-- same question on the plain edges; and so is each reply in one number that is not 0. No premise but acceptance. Assumes nothing.
use Prim.Native.Nat.{ℕ, suc, ◌+◌, ◌-◌, ◌*◌, ◌<◌}
use native.Mathlib.Omega.{arith}
use mathlib.Core.Path.{◌≡◌, refl, sym, ap, ◌∙◌}
use mathlib.Core.Bool.{Bool, true, false, cond, true≢false}
use mathlib.Core.List.{List, [], ◌∷◌, map}
use lib.Dec.{eqb, leb, ltb}
use lib.ListN.{length}
use borrow.Author.Tests.{lt-ltb}
use Rattle.columns.specs.Lists.{◌!◌, sort, all_of}
use Rattle.columns.specs.Columns.{accepts}
use Rattle.columns.proofs.Sums.{part_at}
use Rattle.columns.proofs.Tests.{each_of}
use Rattle.rules.specs.Input.{Input, Schema, object_count}
use Rattle.rules.specs.Edges.{Parts, Edge, edges_of, weak_targets, offset, graph}
use Rattle.rules.specs.Needs.{Lent, Rooms, objects_of}
use Rattle.rules.specs.Verdict.{build_says}
use Rattle.rules.specs.Parts.{parts_says}
use Rattle.rules.specs.Built.{BuildLeft, build_left, used_columns, PartsLeft, parts_left, used_parts}
use Rattle.rules.specs.Questions.{Columns, columns_of, edges_at, weak_in, plainly}
use Rattle.rules.proofs.Acceptance.{Passed, build_passed}
use Rattle.rules.proofs.Used.{used_columns_lem}
use Rattle.rules.proofs.Handed.{parts-passed, parts_few, used_parts_lem}
use Rattle.ask_span.specs.Reading.{count_of, span_part}
use Rattle.ask_span.specs.Graph.{span_in, strong}
use Rattle.ask_span.proofs.Built.{span-built, count-built, targets-built, weak-built, span-kept, count_kept, targets-kept, weak-kept}
use Rattle.ask_span.proofs.WeakRows.{weak-targets-built, weak-targets-kept}
use Rattle.ask_label.proofs.Built.{coarse-built, exact_built, label-built, coarse-kept, exact_kept, label_kept}
use Rattle.ask_field.proofs.Built.{field-built, referent-built, field-kept, referent-kept}
use Rattle.ask_reader.specs.Read.{stored}
use Rattle.ask_edges.proofs.InOrder.{targets_are, codes_are, edge_in_order, end_in_order}
use Rattle.ask_edges.proofs.Built.{edges-built, edges-kept}
use Rattle.ask_short.proofs.Whole.{span-whole, label_called}
use Rattle.ask_short.proofs.Built.{label-met}
use Rattle.ask_short_field.proofs.Whole.{field-whole, referent-whole}
use Rattle.ask_short_edges.proofs.Whole.{edges-whole}
use Rattle.answer_replies.specs.Reply.{span_number, reply_of}
use Rattle.ask.specs.Answers.{InOrder, Answers, Replied}

-- The reader follows from the span, the number of edges and their targets.
module _ (c : Columns) (n o start end : ℕ) (es : List Edge) (said : span_in c o ≡ plainly n o (0 ∷ start ∷ end ∷ []))
    (counted : count_of (span_in c o) ≡ plainly n o (0 ∷ length es ∷ [])) (held : o < n → span_part (span_in c o) c.targets ≡ map (λ (e : Edge). e.target) es) (m : o < n) where
  at : span_in c o ≡ 0 ∷ start ∷ end ∷ []
  at = rw (lt-ltb o n m) at said

  many : end - start ≡ length es
  unfolding count_of accepts
  many = ap (λ (xs : List ℕ). xs ! 1) (rw (at, lt-ltb o n m) at counted)

  target_at_lem : (k : ℕ) → k < end - start → c.targets ! (start + k) ≡ map (λ (e : Edge). e.target) es ! k
  target_at_lem k l = sym (part_at c.targets start end k l) ∙ ap (λ (ts : List ℕ). ts ! k) (sym (targets_are c o at) ∙ held m)

  in_order : InOrder c o start end es
  in_order = record {
    codes_of = codes_are c o at;
    edge = λ k l.
        let within : k < end - start = omega (arith, many) in
        edge_in_order c o at k within ∙ ap (λ (t : ℕ). stored t (c.labels.codes ! (start + k))) (target_at_lem k within);
    ends = λ k l. end_in_order c o at k (omega (arith, many));
  }

-- Columns as an accepted build codes them, and as an accepted `from_parts` does.
coded-built : (x : Input) → Passed x → (o : ℕ)
    → Answers (columns_of x.schema (graph x)) (object_count x) o (offset x o) (offset x (suc o)) (edges_of x o) (weak_targets x o) (sort leb (weak_targets x o))
unfolding columns_of
coded-built x h o = record {
  span = span-built x h o;
  edge_count = count-built x h o;
  targets_of = targets-built x h o;
  weak_referents = weak-built x h o;
  weak_targets = weak-targets-built x h o;
  coarse_label = coarse-built x h o;
  exact_label = λ k w. exact_built x h o k w;
  label_of = λ t w. label-built x h o t w;
  field = field-built x h o;
  referent = referent-built x h o;
  object_edges = edges-built x h o;
  reader = in_order _ (object_count x) o (offset x o) (offset x (suc o)) (edges_of x o) (span-built x h o) (count-built x h o) (targets-built x h o);
}

coded_kept : (s : Schema) (p : Parts) (l : Lent) → accepts (parts_says s p l) ≡ true → (o : ℕ)
    → Answers (columns_of s p) (objects_of p) o (p.offsets ! o) (p.offsets ! suc o) (edges_at p o) (weak_in p.weak_from p.weak_to o) (weak_in p.weak_from p.weak_to o)
unfolding columns_of
coded_kept s p l ok o =
    let h = parts-passed s p l ok in
    let few = parts_few s p l ok in
    record {
      span = span-kept s p h.parts few o;
      edge_count = count_kept s p h.parts few o;
      targets_of = targets-kept s p h.parts few o;
      weak_referents = weak-kept s p h.parts few o h.even;
      weak_targets = weak-targets-kept s p h.parts few o h.even;
      coarse_label = coarse-kept s p h.parts few o;
      exact_label = λ k w. exact_kept s p h.parts few o k w;
      label_of = λ t w. label_kept s p h.parts few o t w;
      field = field-kept s p h.parts few o;
      referent = referent-kept s p h.parts few o h.even;
      object_edges = edges-kept s p h.parts few o;
      reader = in_order _ (objects_of p) o (p.offsets ! o) (p.offsets ! suc o) (edges_at p o)
          (span-kept s p h.parts few o) (count_kept s p h.parts few o) (targets-kept s p h.parts few o);
    }

-- THE BUILD: b is what its contract says that the call left.
module _ (x : Input) (r : Rooms) (b : BuildLeft) (left : b ≡ build_left x r) (ok : accepts b.says ≡ true) (o : ℕ) where
  accepted : accepts (build_says x r) ≡ true
  unfolding build_left
  accepted = ap (λ (z : BuildLeft). accepts z.says) (sym left) ∙ ok

  pub build_answers : Answers (used_columns (object_count x) b) (object_count x) o (offset x o) (offset x (suc o)) (edges_of x o) (weak_targets x o) (sort leb (weak_targets x o))
  build_answers = rw (left, used_columns_lem x r accepted) (coded-built x (build_passed x r accepted) o)

-- `from_parts` likewise.
module _ (s : Schema) (p : Parts) (l : Lent) (b : PartsLeft) (left : b ≡ parts_left s p l) (ok : accepts b.says ≡ true) (o : ℕ) where
  handed : accepts (parts_says s p l) ≡ true
  unfolding parts_left
  handed = ap (λ (z : PartsLeft). accepts z.says) (sym left) ∙ ok

  abbrev weak : List ℕ
  weak = weak_in p.weak_from p.weak_to o

  pub parts_answers : Answers (used_parts p b) (objects_of p) o (p.offsets ! o) (p.offsets ! suc o) (edges_at p o) weak weak
  parts_answers = rw (left, used_parts_lem s p l handed) (coded_kept s p l handed o)

-- A reply that is not 0 comes from an answer that accepts, and that is the whole question's.
span-says : (says : List ℕ) → eqb (span_number says) 0 ≡ false → accepts says ≡ true
unfolding span_number
span-says says h = go (all_of tests) refl h
  where
    tests : List Bool
    tests = accepts says ∷ ltb (says ! 1) 4294967296 ∷ ltb (says ! 2) 4294967295 ∷ []

    go : (b : Bool) → all_of tests ≡ b → eqb (cond b (says ! 1 * 4294967296 + says ! 2 + 1) 0) 0 ≡ false → accepts says ≡ true
    go true e h = each_of tests e 0
    go false e h = absurd (true≢false h)

reply_says : (says : List ℕ) → eqb (reply_of says) 0 ≡ false → accepts says ≡ true
unfolding reply_of
reply_says says h = go (accepts says) h
  where
    go : (b : Bool) → eqb (cond b (cond (eqb (length says) 1) 1 (says ! 1 + 2)) 0) 0 ≡ false → b ≡ true
    go true h = refl
    go false h = absurd (true≢false h)

replied : {c : Columns} {n o start end : ℕ} {es : List Edge} {ws vs : List ℕ} → Answers c n o start end es ws vs → Replied c n o start end es ws
replied {c} {n} {o} h = record {
  span = λ z. ap span_number (span-whole c.offsets (length c.labels.codes) (length c.targets) o (span-says _ z) ∙ h.span);
  label_of = λ t z. ap reply_of (label_called (strong c) o t (label-met (strong c) o t) (reply_says _ z) ∙ h.label_of t (label-met (strong c) o t));
  field = λ l z. ap reply_of (field-whole (strong c) o l (reply_says _ z) ∙ h.field l);
  referent = λ l z. ap reply_of (referent-whole c o l (reply_says _ z) ∙ h.referent l);
  object_edges = λ a b z. edges-whole (strong c) o a b (reply_says _ z) ∙ h.object_edges a b;
}

pub build_replies : (x : Input) (r : Rooms) (b : BuildLeft) → b ≡ build_left x r → accepts b.says ≡ true → (o : ℕ)
    → Replied (used_columns (object_count x) b) (object_count x) o (offset x o) (offset x (suc o)) (edges_of x o) (weak_targets x o)
build_replies x r b left ok o = replied (build_answers x r b left ok o)

pub parts_replies : (s : Schema) (p : Parts) (l : Lent) (b : PartsLeft) → b ≡ parts_left s p l → accepts b.says ≡ true → (o : ℕ)
    → Replied (used_parts p b) (objects_of p) o (p.offsets ! o) (p.offsets ! suc o) (edges_at p o) (weak_in p.weak_from p.weak_to o)
parts_replies s p l b left ok o = replied (parts_answers s p l b left ok o)
