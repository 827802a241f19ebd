-- The edge stage: what it is handed is enough for a pass over all objects, and what the pass comes to is what the stage is to leave. Assumes nothing.
use Prim.Native.Nat.{ℕ, suc, ◌+◌, ◌<◌}
use native.Mathlib.Omega.{arith}
use mathlib.Core.Path.{◌≡◌, refl, sym, ap, subst, ◌∙◌}
use mathlib.Core.Bool.{true, false, false≢true}
use mathlib.Core.List.{List, [], ◌∷◌, ◌++◌, map}
use Rattle.std.specs.Prelude.{Result, Ok, Err}
use lib.ListN.{length, length-map}
use lib.Seq.{sets}
use borrow.Author.Tests.{leb-false, lt-ltb}
use Rattle.columns.specs.Lists.{◌!◌, places}
use Rattle.columns.specs.Columns.{over, accepts}
use Rattle.columns.specs.Ranks.{Rises}
use Rattle.columns.proofs.Lists.{tab-length}
use Rattle.columns.proofs.Tests.{append-empty, places_none, second_fails}
use Rattle.columns.proofs.Ranks.{steps_rise}
use Rattle.rules.specs.declared.Counts.{Counts}
use Rattle.rules.specs.declared.Refusal.{Refusal}
use Rattle.rules.specs.Types.{built_says}
use Rattle.rules.specs.Input.{Input, Copied, Route, Route.copied, Route.raw, object_count}
use Rattle.rules.specs.Edges.{edges, graph}
use Rattle.rules.specs.Verdict.{falls, bad_code, bad_escape, bad_copied}
use Rattle.rules.specs.Needs.{need_weak}
use Rattle.rules.specs.Account.{account}
use Rattle.rules.proofs.Types.{refusal_refuses}
use Rattle.rules.proofs.Acceptance.{Passed, check_passed, objects_few, ids_rise}
use Rattle.rules.proofs.Passes.{edges_within}
use Rattle.rules.proofs.Bounds.{missing-below}
use Rattle.edge_append.specs.Account.{RowIn, AccountIn}
use Rattle.edge_append.specs.Append.{edge_target, edge_label}
use Rattle.edge_append.specs.Object.{RefParts, copied_parts_of, raw_parts_of}
use Rattle.edge_append.specs.declared.Pass.{Pass}
use Rattle.edge_pass.specs.Walk.{edges_to, weak_to, ends_to, Walked, WalkRoom}
use Rattle.edge_pass.specs.Range.{ref_parts_of, parts_from, PartIn, ObjectIn}
use Rattle.edge_pass.specs.Tables.{narrow_to, offsets_for, narrow, Passable}
use Rattle.edge_pass.specs.Stage.{Handed, counted, with_pass, edges_said, Edged, HandedFrom, EdgedFrom}
use Rattle.edge_pass.proofs.Walks.{from-length}
use Rattle.edge_pass.proofs.Accepted.{CodesFit, object_in}
use Rattle.edge_pass.proofs.Parted.{Agrees, agrees}
use Rattle.edge_pass.proofs.Comes.{over-front, over-behind, all_edges, all_weak, all_objects, all_missing, all_offsets}
use Rattle.edge_pass.proofs.Counted.{all_account}

part-narrow : (x : Input) (o : ℕ) (t : Route) → PartIn x t o → PartIn (narrow_to x (offsets_for x t)) t o
part-narrow x o (copied c) h = record { start = h.start; slots = h.slots; elements = h.elements }
part-narrow x o (raw r) h = record { start = h.start; body = h.body; slots = h.slots; offsets = h.offsets; fields = h.fields; elements = h.elements }

object_narrow : (x : Input) {wk : List ℕ} {o : ℕ} → ObjectIn x wk o → ObjectIn (narrow x) wk o
object_narrow x {wk} {o} h = record {
  few = h.few;
  kind = h.kind;
  class = h.class;
  count = h.count;
  offset = h.offset;
  part = part-narrow x o x.route h.part;
  statics = h.statics;
  loader = h.loader;
}

parts-narrow : (x : Input) (o mark : ℕ) (t : Route) → ref_parts_of (narrow_to x (offsets_for x t)) t o mark ≡ ref_parts_of x t o mark
unfolding ref_parts_of copied_parts_of raw_parts_of
parts-narrow x o mark (copied c) = refl
parts-narrow x o mark (raw r) = refl

abbrev begun : Pass
begun = record { edges = 0; weak = 0; missing = 0 }

pass_is : (q : Pass) {e w m : ℕ} → q.edges ≡ e → q.weak ≡ w → q.missing ≡ m → q ≡ record { edges = e; weak = w; missing = m }
pass_is q a b c = rw (← a, ← b, ← c)

module _ (x : Input) {nt nl nf nw : ℕ} {wk : List ℕ} {a : List (List ℕ)} (d : Handed x nt nl nf nw wk a) where
  passed : Passed x
  passed = check_passed x d.accepted

  -- "The first escape not rising": of an accepted input there is none.
  handed_escapes : (c : Copied) → x.route ≡ copied c → Rises c.ids.places
  unfolding bad_copied
  handed_escapes c e =
      let ps = c.ids.places in
      let fallen = places (falls ps) (length ps) in
      let bad = places (bad_code c.ids) (length c.ids.codes) in
      let both = (append-empty (fallen ++ bad) (places (bad_escape c.ids) (length ps)) (sym (ap bad_copied e) ∙ passed.sound.copied)).0 in
      let none = (append-empty fallen bad both).0 in
      steps_rise ps (λ i l. leb-false (ps ! suc i) (ps ! i) (second_fails _ _ (places_none (falls ps) (length ps) (suc i) none l) (lt-ltb 0 (suc i) (omega arith))))

  handed-objects : CodesFit x.route → (i : ℕ) → i < object_count x → ObjectIn (narrow x) wk (0 + i)
  handed-objects f i l =
      let z : i ≡ 0 + i = omega arith in
      subst (ObjectIn (narrow x) wk) z (object_narrow x (object_in x passed wk d.offsets f i l (d.marks i l)))

  abbrev parts : ℕ → RefParts
  parts = parts_from (narrow x) wk 0

  agree : (i : ℕ) → i < object_count x → Agrees x i (parts i)
  unfolding parts_from
  agree i l =
      let z : i ≡ 0 + i = omega arith in
      subst (λ (o : ℕ). Agrees x i (ref_parts_of (narrow x) x.route o (wk ! (o + 1)))) z
      (subst (Agrees x i) (sym (parts-narrow x i (wk ! (i + 1)) x.route)) (agrees x i (wk ! (i + 1)) x.route refl (d.marks i l)))

  edge_number : length (edges_to x.objects.ids parts (object_count x)) ≡ length (graph x).targets
  unfolding graph
  edge_number = ap length (all_edges x parts agree) ∙ sym (length-map (edges x) edge_target)

  label_number : length (graph x).labels ≡ length (graph x).targets
  unfolding graph
  label_number = length-map (edges x) edge_label ∙ sym (length-map (edges x) edge_target)

  weak_number : length (weak_to x.objects.ids parts (object_count x)) ≡ length (graph x).weak_from
  weak_number = sym (from-length x.objects.ids parts 0 (object_count x)) ∙ ap length (all_objects x parts agree)

  weak_room : length (graph x).weak_from ≡ need_weak x
  unfolding need_weak
  weak_room = refl

  handed_room : {s : Pass} → s ≡ begun → WalkRoom x.objects.ids parts (object_count x) s nt nl nf nw
  handed_room {s} e =
      rw e
      (record {
        rising = ids_rise x passed.sound;
        few = omega (arith, objects_few x passed.sound);
        targets = omega (arith, edge_number, edges_within x, d.targets);
        labels = omega (arith, edge_number, edges_within x, d.labels);
        objects = omega (arith, weak_number, weak_room, d.objects);
        weaks = omega (arith, weak_number, weak_room, d.weaks);
        missing = omega (arith, all_missing x parts agree, missing-below x passed);
      })

  handed-account : (s : Pass) → AccountIn a s
  handed-account s =
      let none : RowIn (0 ∷ 0 ∷ 0 ∷ []) s = record { edges = omega arith; weak = omega arith; missing = omega arith } in
      rw d.nothing (record { slots = none; elements = none; statics = none; loaders = none })

module _
    (x : Input) {ts ls fs ws wk : List ℕ} {a : List (List ℕ)} (d : Handed x (length ts) (length ls) (length fs) (length ws) wk a) {s q : Pass} (e : s ≡ begun) {ts' ls' fs' ws' wk' : List ℕ} {a' : List (List ℕ)}
    (w₀ : Walked x.objects.ids (parts_from (narrow x) wk 0) 0 (object_count x) s q ts ls fs ws wk a ts' ls' fs' ws' wk' a')
  where
    w : Walked x.objects.ids (parts x d) 0 (object_count x) begun q ts ls fs ws wk a ts' ls' fs' ws' wk' a'
    w = subst (λ (s : Pass). Walked x.objects.ids (parts x d) 0 (object_count x) s q ts ls fs ws wk a ts' ls' fs' ws' wk' a') e w₀

    targets-left : ts' ≡ over (graph x).targets ts
    unfolding graph
    targets-left = w.targets ∙ ap (λ es. sets ts 0 (map edge_target es)) (all_edges x (parts x d) (agree x d)) ∙ over-front (graph x).targets ts (omega (arith, edges_within x, d.targets))

    labels-left : ls' ≡ over (graph x).labels ls
    unfolding graph
    labels-left =
        w.labels ∙ ap (λ es. sets ls 0 (map edge_label es)) (all_edges x (parts x d) (agree x d)) ∙ over-front (graph x).labels ls (omega (arith, label_number x d, edges_within x, d.labels))

    objects-left : fs' ≡ over (graph x).weak_from fs
    objects-left = w.objects ∙ ap (sets fs 0) (all_objects x (parts x d) (agree x d)) ∙ over-front (graph x).weak_from fs (omega (arith, weak_room x d, d.objects))

    weaks-left : ws' ≡ over (graph x).weak_to ws
    weaks-left =
        w.weaks
        ∙ ap (sets ws 0) (all_weak x (parts x d) (agree x d))
        ∙ over-front (graph x).weak_to ws (omega (arith, ap length (all_weak x (parts x d) (agree x d)), weak_number x d, weak_room x d, d.weaks))

    offsets-left : wk' ≡ over (graph x).offsets wk
    unfolding ends_to
    offsets-left =
        w.ends
        ∙ over-behind (ends_to x.objects.ids (parts x d) 0 (object_count x)) wk d.front (omega (arith, tab-length (λ i. 0 + length (edges_to x.objects.ids (parts x d) (suc i))) (object_count x), d.offsets))
        ∙ ap (λ (l : List ℕ). over l wk) (all_offsets x (parts x d) (agree x d))

    account-left : a' ≡ account x
    account-left =
        all_account x (parts x d) (agree x d)
        (subst (λ (a : List (List ℕ)). Walked x.objects.ids (parts x d) 0 (object_count x) begun q ts ls fs ws wk a ts' ls' fs' ws' wk' a') d.nothing w)

    pass-left : q ≡ record { edges = length (graph x).targets; weak = length (graph x).weak_from; missing = (graph x).dangling }
    pass-left =
        pass_is q (omega (arith, w.next, edge_number x d)) (omega (arith, w.next_weak, weak_number x d)) (omega (arith, w.lost, all_missing x (parts x d) (agree x d)))

    -- Where the answer so far accepts, the pass over all objects leaves what the stage is to leave.
    edged : {v r : Result Counts Refusal} → r ≡ with_pass v q → Edged x v r ts ls fs ws wk ts' ls' fs' ws' wk' a'
    unfolding edges_said
    edged {v} f = record {
      answer = f ∙ ap (with_pass v) pass-left;
      targets = λ t. targets-left;
      labels = λ t. labels-left;
      objects = λ t. objects-left;
      weaks = λ t. weaks-left;
      offsets = λ t. offsets-left;
      account = λ t. account-left;
    }

-- Where it refuses, the refusal stands.
refusal_stands : (x : Input) (v : Result Counts Refusal) → accepts (built_says v) ≡ false → v ≡ edges_said x v
unfolding edges_said accepts
refusal_stands x (Ok c) e = absurd (false≢true (sym e))
refusal_stands x (Err e') e = refl

edged_not : (x : Input) {v : Result Counts Refusal} {ts ls fs ws wk : List ℕ} {a : List (List ℕ)} → accepts (built_says v) ≡ false → Edged x v v ts ls fs ws wk ts ls fs ws wk a
edged_not x {v} e = record {
  answer = refusal_stands x v e;
  targets = λ t. absurd (false≢true (sym e ∙ t));
  labels = λ t. absurd (false≢true (sym e ∙ t));
  objects = λ t. absurd (false≢true (sym e ∙ t));
  weaks = λ t. absurd (false≢true (sym e ∙ t));
  offsets = λ t. absurd (false≢true (sym e ∙ t));
  account = λ t. absurd (false≢true (sym e ∙ t));
}

-- The same of the columns that a pass reads.
module _ {p : Input} {nt nl nf nw : ℕ} {wk : List ℕ} {a : List (List ℕ)} (h : HandedFrom p nt nl nf nw wk a) where
  pub from_escapes : (c : Copied) → p.route ≡ copied c → Rises c.ids.places
  from_escapes c e = handed_escapes h.whole h.handed c (ap (λ (z : Input). z.route) h.read ∙ e)

  pub from_passable : CodesFit p.route → {s : Pass} → s ≡ begun → Passable p wk 0 (length p.objects.ids) s nt nl nf nw
  from_passable f {s} e =
      subst (λ (z : Input). Passable z wk 0 (length z.objects.ids) s nt nl nf nw) h.read
      (record {
        objects = handed-objects h.whole h.handed (subst (λ (z : Input). CodesFit z.route) (sym h.read) f);
        room = handed_room h.whole h.handed e;
      })

  pub from-account : (s : Pass) → AccountIn a s
  from-account s = handed-account h.whole h.handed s

-- what the answer so far says, by what it is
pub done_accepts : {v : Result Counts Refusal} {c : Counts} → v ≡ Ok c → accepts (built_says v) ≡ true
unfolding accepts
done_accepts e = rw e

pub edged_from : (p : Input) {v : Result Counts Refusal} {c k : Counts} {ts ls fs ws wk : List ℕ} {a : List (List ℕ)} {s q : Pass} {ts' ls' fs' ws' wk' : List ℕ} {a' : List (List ℕ)} → v ≡ Ok c → s ≡ begun
    → Walked p.objects.ids (parts_from p wk 0) 0 (length p.objects.ids) s q ts ls fs ws wk a ts' ls' fs' ws' wk' a' → k ≡ counted c q
    → EdgedFrom p v (Ok k) ts ls fs ws wk a ts' ls' fs' ws' wk' a'
edged_from p {v} {c} {k} {ts} {ls} {fs} {ws} {wk} {a} {s} {q} {ts'} {ls'} {fs'} {ws'} {wk'} {a'} is e w f = λ x n d.
    edged x (d (done_accepts is)) e
    (subst (λ (z : Input). Walked z.objects.ids (parts_from z wk 0) 0 (length z.objects.ids) s q ts ls fs ws wk a ts' ls' fs' ws' wk' a') (sym n) w) (rw is (ap Ok f))

pub edged_from_not : (p : Input) {v r : Result Counts Refusal} {e : Refusal} {ts ls fs ws wk : List ℕ} {a a' : List (List ℕ)} → v ≡ Err e → r ≡ Err e → EdgedFrom p v r ts ls fs ws wk a ts ls fs ws wk a'
edged_from_not p {v} {r} {e} is same = λ x n d. rw (is, same) (edged_not x {v = Err e} (refusal_refuses e))
