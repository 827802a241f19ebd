-- The contract of `from_parts` allows one outcome; and what it makes of an accepted build's plain columns is what the build left. Assumes nothing.
use Prim.Native.Nat.{ℕ}
use native.Mathlib.Omega.{arith}
use mathlib.Core.Path.{◌≡◌, refl, sym, ap, ◌∙◌}
use mathlib.Core.Bool.{Bool, true, false}
use mathlib.Core.List.{List, [], ◌∷◌, ◌++◌}
use lib.Dec.{ltb}
use lib.ListN.{length}
use borrow.Author.Tests.{eq-eqb, le-ltb}
use Rattle.columns.specs.Lists.{any_of, places}
use Rattle.columns.specs.Columns.{accepts}
use Rattle.columns.proofs.Tests.{append-empty, no_places}
use Rattle.std.specs.Prelude.{Result}
use Rattle.rules.specs.declared.Counts.{Counts}
use Rattle.rules.specs.declared.Refusal.{Refusal}
use Rattle.rules.specs.Types.{built_says}
use Rattle.rules.specs.Input.{Input, Schema, class_count}
use Rattle.rules.specs.Edges.{Parts, graph}
use Rattle.rules.specs.Needs.{Lent, Rooms, buffer, objects_of, need_places, need_weak, need_roots, need_bases, need_offsets, short_later, short_of_build, short_of_parts}
use Rattle.rules.specs.Verdict.{at, differs, schema_lengths, over_limit, bad_class, over_places, build_says}
use Rattle.rules.specs.Parts.{handed_faults, parts_says}
use Rattle.rules.specs.Built.{CodedLeft, coded_left, PartsLeft, build_left, parts_left}
use Rattle.rules.proofs.Types.{one-built}
use Rattle.rules.proofs.Acceptance.{Passed, build_passed, build_room, build_says_lem, limits-good, class_good}
use Rattle.rules.proofs.Laid.{objects_are, build_meets, build_parts}
use Rattle.rules.proofs.Passes.{edges_few}
use Rattle.rules.proofs.Finished.{weak-even}
use Rattle.rules.proofs.Even.{schema_lengths_lem}
use Rattle.from_parts.specs.Parts.{left_as}

-- No second outcome satisfies the promise: the answer, and all eleven columns.
pub one-handed : (s : Schema) (p : Parts) (l : Lent) {r r' : Result Counts Refusal} {a a' : CodedLeft} → left_as (built_says r) a ≡ parts_left s p l
    → left_as (built_says r') a' ≡ parts_left s p l → (r ≡ r') × (a ≡ a')
one-handed s p l {r} {r'} e f =
    (one-built r r' (ap (λ (z : PartsLeft). z.says) (e ∙ sym f)), ap (λ (z : PartsLeft). z.coded) (e ∙ sym f))

-- The plain columns of an input that passed the checks pass those of `from_parts`.
module _ (x : Input) (h : Passed x) where
  abbrev g : Parts
  g = graph x

  abbrev s : Schema
  s = x.schema

  lengths_pass : any_of (schema_lengths s ∷ differs (length g.weak_from) (length g.weak_to ∷ []) ∷ []) ≡ false
  unfolding any_of
  lengths_pass = rw (schema_lengths_lem x h.sound.lengths, eq-eqb (length g.weak_to) (length g.weak_from) (sym (weak-even x)))

  limits-pass : over_limit (objects_of g) s ≡ false
  limits-pass = ap (λ (n : ℕ). over_limit n s) (objects_are x) ∙ limits-good x h.sound

  classes-pass : places (bad_class s) (class_count s) ≡ []
  classes-pass = no_places (bad_class s) (class_count s) (class_good x h.sound)

  places-pass : over_places (length g.labels) ≡ false
  places-pass = le-ltb 268435456 (length g.labels) (omega (arith, edges_few x h, (build_meets x h).counted))

  pub build_handed : handed_faults s g ≡ []
  unfolding handed_faults at
  build_handed = rw (lengths_pass, limits-pass, classes-pass, places-pass, build_parts x h)

-- `from_parts` of the plain columns that an accepted build lays out, with the same room, answers as the build and leaves the build's coded columns.
module _ (x : Input) (r : Rooms) (ok : accepts (build_says x r) ≡ true) where
  room_pairs : (a b c : Bool) (k : ℕ) → buffer k (a ∷ b ∷ c ∷ []) ≡ [] → buffer k (a ∷ b ∷ []) ≡ []
  unfolding any_of
  room_pairs true b c k e = let z : ◌≡◌ {A = ℕ} 0 1 = cc in absurd (omega arith)
  room_pairs false true c k e = let z : ◌≡◌ {A = ℕ} 0 1 = cc in absurd (omega arith)
  room_pairs false false c k e = refl

  room_again : short_of_parts x.schema (graph x) r.coded ≡ []
  unfolding short_of_build short_of_parts
  room_again =
      let p = graph x in
      let first = buffer 1 (ltb r.targets (need_places x) ∷ ltb r.labels (need_places x) ∷ [])
      ++ buffer 2 (ltb r.weak_from (need_weak x) ∷ ltb r.weak_to (need_weak x) ∷ []) ++ buffer 3 (ltb r.roots (need_roots x) ∷ []) in
      let four = buffer 4 (ltb r.coded.bases (need_bases p) ∷ ltb r.coded.short (need_offsets p) ∷ ltb r.working (need_offsets p) ∷ []) in
      let e = append-empty (first ++ four) (short_later x.schema p r.coded) (build_room x r ok) in
      let f = append-empty first four e.0 in
      rw (room_pairs (ltb r.coded.bases (need_bases p)) (ltb r.coded.short (need_offsets p)) (ltb r.working (need_offsets p)) 4 f.1, e.1)

  says_again : parts_says x.schema (graph x) r.coded ≡ build_says x r
  unfolding parts_says at
  says_again = rw (build_handed x (build_passed x r ok), room_again) (sym (build_says_lem x r ok))

  pub parts-of_build : parts_left x.schema (graph x) r.coded ≡ left_as (build_says x r) (build_left x r).coded
  unfolding parts_left build_left
  parts-of_build = ap (λ (a : List ℕ). left_as a (coded_left a x.schema (graph x) r.coded)) says_again
