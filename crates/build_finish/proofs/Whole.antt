-- The two halves of a build are the build of the rules. Assumes nothing.
use Prim.Native.Nat.{ℕ, suc, ◌+◌}
use native.Mathlib.Numerals.{add-one}
use native.Mathlib.Omega.{arith}
use mathlib.Core.Path.{◌≡◌, refl, sym, ap, ◌∙◌}
use mathlib.Core.Bool.{Bool, true, false, cond, true≢false}
use mathlib.Core.List.{List, []}
use lib.ListN.{length, take, length-map}
use Rattle.columns.specs.Columns.{accepts, kept}
use Rattle.columns.proofs.Lists.{tab-length}
use Rattle.rules.specs.Input.{Input, Schema, object_count, class_count}
use Rattle.rules.specs.Edges.{Parts, graph, offset, edges}
use Rattle.rules.specs.Needs.{Lent, short_of_parts}
use Rattle.rules.specs.Verdict.{first_of, at, counts, plain_counts}
use Rattle.rules.specs.Built.{CodedLeft, coded_left, build_left}
use Rattle.rules.proofs.Acceptance.{Passed, limits-good, class_good}
use Rattle.rules.proofs.Laid.{build_meets, objects_are}
use Rattle.rules.proofs.Passes.{edges_few}
use Rattle.rules.proofs.Used.{refused_coded}
use Rattle.rules.proofs.Even.{schema_lengths_lem}
use Rattle.code_stages.specs.Stages.{hand_on, Ready}
use Rattle.code_columns.proofs.Readying.{ready_parts}
use Rattle.code_columns.specs.Finished.{Finished, naming_of}
use Rattle.build_rooms.specs.Stages.{half_says, early, left_of, rooms_of, Laid}
use Rattle.build_rooms.proofs.Compose.{built-left, edge-accepts, edge-passed}
use Rattle.build_finish.specs.Rest.{offsets_used, labels_used, Rest}

offsets-count : (x : Input) → length (graph x).offsets ≡ object_count x + 1
unfolding graph
offsets-count x = tab-length (offset x) (suc (object_count x)) ∙ sym (add-one (object_count x))

labels-even : (x : Input) → length (graph x).targets ≡ length (graph x).labels
unfolding graph
labels-even x = length-map (edges x) _ ∙ sym (length-map (edges x) _)

-- What the checks found of the input is what coding asks of its graph.
pub graph_ready : (x : Input) → Passed x → Ready (naming_of x.schema) (class_count x.schema) x.schema.names (graph x).offsets (graph x).labels
graph_ready x h =
    let law = build_meets x h in
    ready_parts x.schema (graph x) (schema_lengths_lem x h.sound.lengths) (rw (objects_are x) (limits-good x h.sound)) (class_good x h.sound)
    (omega (arith, edges_few x h, law.counted)) law

-- any plain columns with these offsets and labels: of a refused build nothing more is asked
abbrev any_parts : List ℕ → List ℕ → Parts
any_parts offsets labels = record { offsets = offsets; labels = labels; targets = []; weak_from = []; weak_to = []; roots = []; dangling = 0 }

module _
    (x : Input) (l : Lent) (ts₀ ls₀ fs₀ ws₀ rs₀ wk₀ : List ℕ) {before ts₁ ls₁ fs₁ ws₁ rs₁ wk₁ : List ℕ} {a₁ : List (List ℕ)}
    (answer : before ≡ half_says x (early (length ts₀) (length ls₀) (length fs₀) (length ws₀) (length rs₀) l.bases l.short (length wk₀)))
    (laid : Laid x before ts₀ fs₀ ws₀ rs₀ ts₁ ls₁ fs₁ ws₁ rs₁ wk₁ a₁)
  where
    abbrev s : Schema
    s = x.schema

    -- where the first half accepts, its answer and the work columns are those of the graph
    told : accepts before ≡ true → before ≡ plain_counts (graph x)
    told ok = answer ∙ edge-accepts x (early (length ts₀) (length ls₀) (length fs₀) (length ws₀) (length rs₀) l.bases l.short (length wk₀)) (ap accepts (sym answer) ∙ ok)

    edges-told : accepts before ≡ true → kept 1 before ≡ length (graph x).targets
    unfolding kept
    edges-told ok = rw (ok, told ok)

    pub offsets_are : accepts before ≡ true → offsets_used (object_count x) wk₁ ≡ (graph x).offsets
    offsets_are ok = ap (λ (n : ℕ). take n wk₁) (sym (offsets-count x)) ∙ laid.offsets ok

    pub labels_are : length (graph x).targets ≡ length (graph x).labels → accepts before ≡ true → labels_used before ls₁ ≡ (graph x).labels
    labels_are even ok = ap (λ (n : ℕ). take n ls₁) (edges-told ok ∙ even) ∙ laid.labels ok

    pub asked : accepts before ≡ true → Ready (naming_of s) (class_count s) s.names (offsets_used (object_count x) wk₁) (labels_used before ls₁)
    asked ok =
        rw (offsets_are ok, labels_are (labels-even x) ok)
        (graph_ready x (edge-passed x (early (length ts₀) (length ls₀) (length fs₀) (length ws₀) (length rs₀) l.bases l.short (length wk₀)) (ap accepts (sym answer) ∙ ok)))

    module _ {says ts ls fs ws rs wk : List ℕ} {a : List (List ℕ)} {d : CodedLeft} (rest : Rest (naming_of s) (class_count s) s.names (object_count x) before ts₁ ls₁ fs₁ ws₁ rs₁ wk₁ a₁ l says ts ls fs ws rs wk a d) where
      abbrev offsets : List ℕ
      offsets = offsets_used (object_count x) wk₁

      abbrev labels : List ℕ
      labels = labels_used before ls₁

      -- the schema and the plain columns that coding is handed
      of-graph : accepts before ≡ true → Finished s (graph x) before l says d
      of-graph ok =
          rest.coded s (graph x)
          (record { named = refl; class_count = refl; name_count = refl; laid_out = sym (offsets_are ok); labelled = sym (labels_are (labels-even x) ok); told = told })

      of-any : accepts before ≡ false → Finished s (any_parts offsets labels) before l says d
      of-any h =
          rest.coded s (any_parts offsets labels)
          (record { named = refl; class_count = refl; name_count = refl; laid_out = refl; labelled = refl; told = λ ok. absurd (true≢false (sym ok ∙ h)) })

      handed_on : accepts before ≡ false → says ≡ before
      unfolding hand_on
      handed_on h = (of-any h).answer ∙ rw h

      then_said : says ≡ cond (accepts before) (first_of (at 9 (short_of_parts s (graph x) l)) (counts s (graph x))) before
      unfolding hand_on
      then_said = go (accepts before) refl
        where
          go : (b : Bool) → accepts before ≡ b → says ≡ cond (accepts before) (first_of (at 9 (short_of_parts s (graph x) l)) (counts s (graph x))) before
          go true ok = (of-graph ok).answer
          go false h = handed_on h ∙ sym (rw h)

      coded_said : d ≡ coded_left says s (graph x) l
      coded_said = go (accepts before) refl
        where
          go : (b : Bool) → accepts before ≡ b → d ≡ coded_left says s (graph x) l
          go true ok = (of-graph ok).columns
          go false h =
              let refused : accepts says ≡ false = ap accepts (handed_on h) ∙ h in
              (of-any h).columns ∙ refused_coded says refused s (any_parts offsets labels) l ∙ sym (refused_coded says refused s (graph x) l)

      pub whole : length ts₁ ≡ length ts₀ → length ls₁ ≡ length ls₀ → length fs₁ ≡ length fs₀ → length ws₁ ≡ length ws₀ → length rs₁ ≡ length rs₀ → length wk₁ ≡ length wk₀
          → left_of says ts ls fs ws rs wk d a ≡ build_left x (rooms_of (length ts₀) (length ls₀) (length fs₀) (length ws₀) (length rs₀) (length wk₀) l)
      whole tn ln fn wn rn kn = built-left x l ls₀ wk₀ laid rest.settled answer then_said coded_said tn ln fn wn rn kn
