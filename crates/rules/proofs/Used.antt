-- The used parts of the columns that an accepted call left, at the lengths that it returned, are the coded columns. Assumes nothing.
use Prim.Native.Nat.{ℕ, suc, ◌*◌, min}
use mathlib.Core.Path.{◌≡◌, refl, sym, ap, ap₂, ◌∙◌}
use mathlib.Core.Bool.{true, false}
use mathlib.Core.List.{List}
use lib.ListN.{length, take, length-map}
use Rattle.columns.specs.Lists.{◌!◌}
use Rattle.columns.specs.Columns.{zeros, accepts, leaves}
use Rattle.columns.proofs.Lists.{tab-length}
use Rattle.columns.proofs.Written.{used_part}
use Rattle.store.specs.Blocked.{Blocked, blocked, blocks_of, long_rows, above_at}
use Rattle.rules.specs.Input.{Input, Schema, object_count}
use Rattle.rules.specs.Edges.{Parts, offset, weak_pairs, graph}
use Rattle.rules.specs.Labels.{Coded, coded}
use Rattle.rules.specs.Account.{no_account}
use Rattle.rules.specs.Needs.{Lent, Rooms, fields_for, label_columns, need_long, need_fields, need_escapes}
use Rattle.rules.specs.Verdict.{counts, build_says}
use Rattle.rules.specs.Built.{CodedLeft, coded_left, used_blocks, used_labels, used_columns, build_left, BuildLeft, PartsLeft, parts_left}
use Rattle.rules.specs.Questions.{Columns, columns_of}
use Rattle.std.specs.Prelude.{Result}
use Rattle.rules.specs.declared.Counts.{Counts}
use Rattle.rules.specs.declared.Refusal.{Refusal}
use Rattle.rules.specs.Types.{built_says}
use Rattle.rules.specs.Parts.{parts_says}
use Rattle.rules.proofs.Types.{one-built}
use Rattle.rules.proofs.Acceptance.{build_passed, build_says_lem}
use Rattle.rules.proofs.Meets.{Meets}
use Rattle.rules.proofs.Codes.{codes-count, fields_few}
use Rattle.rules.proofs.Laid.{build_meets}

module _ (says : List ℕ) (ok : accepts says ≡ true) (s : Schema) (p : Parts) (l : Lent) where
  abbrev left : CodedLeft
  left = coded_left says s p l

  front : (xs : List ℕ) (m n : ℕ) → length xs ≡ n → take n (leaves says xs m) ≡ xs
  front xs m n e = used_part says xs (leaves says xs m) m n ok refl e

  pub used_blocks_lem : used_blocks (length p.offsets) (need_long p) left ≡ blocked p.offsets
  unfolding coded_left blocked need_long
  used_blocks_lem =
      let b = blocked p.offsets in
      rw (
        front b.bases l.bases (blocks_of (length p.offsets)) (tab-length (λ b. p.offsets ! (b * 256)) (blocks_of (length p.offsets))),
        front b.short l.short (length p.offsets) (tab-length (λ i. min (above_at p.offsets i) 65535) (length p.offsets)),
        front b.long_at l.long_at (long_rows p.offsets) refl,
        front b.long_value l.long_value (long_rows p.offsets) (length-map b.long_at (λ i. p.offsets ! i)),
      )

  pub used_labels_lem : Meets s.names p → used_labels (length p.labels) (need_fields s p) (need_escapes s p) left ≡ label_columns s p
  unfolding coded_left label_columns coded need_fields need_escapes
  used_labels_lem law =
      let d = label_columns s p in
      rw (
        front d.codes l.codes (length p.labels) (codes-count s.names p law (fields_for s p) (fields_few s p)),
        front d.fields l.fields (length (fields_for s p)) refl,
        front d.escape_at l.escape_at (length d.escape_at) refl,
        front d.escape_label l.escape_label (length d.escape_at) (length-map d.escape_at (λ e. p.labels ! e)),
      )

-- columns that are equal one by one
together : {a a' : Blocked} {t t' : List ℕ} {d d' : Coded} {f f' w w' : List ℕ} → a ≡ a' → t ≡ t' → d ≡ d' → f ≡ f' → w ≡ w'
    → ◌≡◌ {A = Columns} (record { offsets = a; targets = t; labels = d; weak_from = f; weak_to = w })
    (record { offsets = a'; targets = t'; labels = d'; weak_from = f'; weak_to = w' })
together e1 e2 e3 e4 e5 = cc

-- Of an accepted build.
module _ (x : Input) (r : Rooms) (ok : accepts (build_says x r) ≡ true) where
  offsets-length : length (graph x).offsets ≡ suc (object_count x)
  unfolding graph
  offsets-length = tab-length (offset x) (suc (object_count x))

  even : length (graph x).weak_to ≡ length (graph x).weak_from
  unfolding graph
  even = length-map (weak_pairs x) _ ∙ sym (length-map (weak_pairs x) _)

  -- what the answer says
  said : (i : ℕ) → build_says x r ! i ≡ counts x.schema (graph x) ! i
  said i = ap (λ (a : List ℕ). a ! i) (build_says_lem x r ok)

  abbrev kept : (xs : List ℕ) (m n : ℕ) → length xs ≡ n → take n (leaves (build_says x r) xs m) ≡ xs
  kept = front (build_says x r) ok x.schema (graph x) r.coded

  -- "Queries take the used parts, at the lengths a build returns": those are the coded columns of the graph.
  pub used_columns_lem : used_columns (object_count x) (build_left x r) ≡ columns_of x.schema (graph x)
  unfolding used_columns build_left columns_of counts
  used_columns_lem =
      let says = build_says x r in
      let g = graph x in
      let c = coded_left says x.schema g r.coded in
      let law = build_meets x (build_passed x r ok) in
      let e1 : used_blocks (suc (object_count x)) (says ! 4) c ≡ blocked g.offsets = ap₂ (λ (a b : ℕ). used_blocks a b c) (sym offsets-length) (said 4)
      ∙ used_blocks_lem says ok x.schema g r.coded in
      let e2 : take (says ! 1) (leaves says g.targets r.targets) ≡ g.targets = kept g.targets r.targets (says ! 1) (sym (said 1)) in
      let e3 : used_labels (says ! 1) (says ! 5) (says ! 6) c ≡ label_columns x.schema g
      = rw (said 1, said 5, said 6, law.counted) (used_labels_lem says ok x.schema g r.coded law) in
      let e4 : take (says ! 2) (leaves says g.weak_from r.weak_from) ≡ g.weak_from = kept g.weak_from r.weak_from (says ! 2) (sym (said 2)) in
      let e5 : take (says ! 2) (leaves says g.weak_to r.weak_to) ≡ g.weak_to = kept g.weak_to r.weak_to (says ! 2) (even ∙ sym (said 2)) in
      together e1 e2 e3 e4 e5

-- "After any refusal of a build everything lent for writing is zero", and "a refused build returns all zeros".
abbrev pub zero_coded : Lent → CodedLeft
zero_coded l = record {
  bases = zeros l.bases;
  short = zeros l.short;
  long_at = zeros l.long_at;
  long_value = zeros l.long_value;
  fields = zeros l.fields;
  table = zeros l.table;
  escape_at = zeros l.escape_at;
  escape_label = zeros l.escape_label;
  codes = zeros l.codes;
  counting = zeros l.counting;
  ranking = zeros l.ranking;
}

pub refused_coded : (says : List ℕ) → accepts says ≡ false → (s : Schema) (p : Parts) (l : Lent) → coded_left says s p l ≡ zero_coded l
unfolding coded_left leaves
refused_coded says e s p l = rw e

abbrev pub zero_build : Input → Rooms → BuildLeft
zero_build x r = record {
  says = build_says x r;
  targets = zeros r.targets;
  labels = zeros r.labels;
  weak_from = zeros r.weak_from;
  weak_to = zeros r.weak_to;
  roots = zeros r.roots;
  working = zeros r.working;
  coded = zero_coded r.coded;
  account = no_account;
}

pub refused_left : (x : Input) (r : Rooms) → accepts (build_says x r) ≡ false → build_left x r ≡ zero_build x r
unfolding build_left leaves
refused_left x r e = rw (refused_coded (build_says x r) e x.schema (graph x) r.coded, e)

-- No second outcome satisfies a build's promise: the answer's number and values, and all that is left.
pub one_build : (x : Input) (rooms : Rooms) {r r' : Result Counts Refusal} {b b' : BuildLeft} → built_says r ≡ build_says x rooms → b ≡ build_left x rooms
    → built_says r' ≡ build_says x rooms
    → b' ≡ build_left x rooms → (r ≡ r') × (b ≡ b')
one_build x rooms {r} {r'} e f e' f' = (one-built r r' (e ∙ sym e'), f ∙ sym f')

pub one-parts : (s : Schema) (p : Parts) (l : Lent) {r r' : Result Counts Refusal} {b b' : PartsLeft} → built_says r ≡ parts_says s p l → b ≡ parts_left s p l
    → built_says r' ≡ parts_says s p l
    → b' ≡ parts_left s p l → (r ≡ r') × (b ≡ b')
one-parts s p l {r} {r'} e f e' f' = (one-built r r' (e ∙ sym e'), f ∙ sym f')
