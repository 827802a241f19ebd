-- What an accepted `from_parts` gives: its columns meet PARTS, and over what it left every object reads back too. Assumes nothing.
use Prim.Native.Nat.{ℕ, ◌^◌, ◌≤◌, ◌<◌}
use native.Mathlib.Omega.{arith}
use mathlib.Core.Path.{◌≡◌, refl, sym, ap, ◌∙◌}
use mathlib.Core.Bool.{true, false, false≢true}
use mathlib.Core.List.{List, [], ◌∷◌, ◌++◌}
use lib.ListN.{length}
use borrow.Author.Tests.{eqb-true, ltb-false, not-false}
use Rattle.columns.specs.Lists.{◌!◌, places, any_of}
use Rattle.columns.specs.Columns.{accepts}
use Rattle.columns.proofs.Tests.{none_of, append-empty, places_none}
use Rattle.store.specs.Blocked.{blocked}
use Rattle.rules.specs.Input.{Schema, class_count}
use Rattle.rules.specs.Edges.{Parts}
use Rattle.rules.specs.Needs.{Lent, objects_of, label_columns, short_of_parts}
use Rattle.rules.specs.Verdict.{first_of, at, once, differs, schema_lengths, over_limit, bad_class, over_places, counts}
use Rattle.rules.specs.Parts.{in_column, parts_faults, handed_faults, parts_says}
use Rattle.rules.specs.Questions.{columns_of, reads_back}
use Rattle.rules.specs.Built.{coded_left, used_blocks, used_labels, used_parts, parts_left}
use Rattle.rules.proofs.Acceptance.{Refuse, refuse_append, refuse_at, at-empty, once-empty}
use Rattle.rules.proofs.Meets.{Meets, meets}
use Rattle.rules.proofs.Asked.{reads}
use Rattle.rules.proofs.Used.{used_blocks_lem, used_labels_lem}

refuse_in : (c : ℕ) (ps : List ℕ) → Refuse (in_column c ps)
unfolding in_column accepts
refuse_in c ps = record { none_met = λ done a. go done ps a }
  where
    go : (done ps : List ℕ) → accepts (first_of (in_column c ps) done) ≡ true → in_column c ps ≡ []
    go done [] a = refl
    go done (p ∷ ps) a = absurd (false≢true a)

parts_refuse : (names : ℕ) (p : Parts) → Refuse (parts_faults names p)
unfolding parts_faults
parts_refuse names p =
    refuse_append (refuse_append (refuse_append (refuse_append (refuse_in 1 _) (refuse_in 2 _)) (refuse_in 3 _)) (refuse_in 4 _)) (refuse_in 5 _)

-- The tests that accepted parts passed.
pub record HandedPassed (s : Schema) (p : Parts) : Type 0 where
  pub lengths : schema_lengths s ≡ false
  pub even : length p.weak_from ≡ length p.weak_to
  pub limits : over_limit (objects_of p) s ≡ false
  pub class : (c : ℕ) → c < class_count s → bad_class s c ≡ false
  pub labels : length p.labels ≤ 268435456
  pub parts : Meets s.names p

pub handed-passed : (s : Schema) (p : Parts) → handed_faults s p ≡ [] → HandedPassed s p
unfolding handed_faults
handed-passed s p e =
    let e5 = append-empty _ (parts_faults s.names p) e in
    let e4 = append-empty _ (at 8 (once (over_places (length p.labels)))) e5.0 in
    let e3 = append-empty _ (at 4 (places (bad_class s) (class_count s))) e4.0 in
    let e2 = append-empty (at 1 (once (any_of (schema_lengths s ∷ differs (length p.weak_from) (length p.weak_to ∷ []) ∷ []))))
    (at 2 (once (over_limit (objects_of p) s))) e3.0 in
    let one = once-empty _ (at-empty 1 _ e2.0) in
    record {
      lengths = none_of _ one 0;
      even = sym (eqb-true _ _ (not-false _ (none_of _ (none_of _ one 1) 0)));
      limits = once-empty _ (at-empty 2 _ e2.1);
      class = λ c h. places_none (bad_class s) _ c (at-empty 4 _ e3.1) h;
      labels = ltb-false _ _ (once-empty _ (at-empty 8 _ e4.1));
      parts = meets s.names p e5.1;
    }

pub handed_refuse : (s : Schema) (p : Parts) → Refuse (handed_faults s p)
unfolding handed_faults
handed_refuse s p =
    refuse_append (refuse_append (refuse_append (refuse_append (refuse_at 1 refl _) (refuse_at 2 refl _)) (refuse_at 4 refl _)) (refuse_at 8 refl _))
    (parts_refuse s.names p)

module _ (s : Schema) (p : Parts) (l : Lent) (ok : accepts (parts_says s p l) ≡ true) where
  nothing-wrong : handed_faults s p ++ at 9 (short_of_parts s p l) ≡ []
  unfolding parts_says
  nothing-wrong = (refuse_append (handed_refuse s p) (refuse_at 9 refl _)).none_met _ ok

  pub parts-passed : HandedPassed s p
  parts-passed = handed-passed s p (append-empty (handed_faults s p) _ nothing-wrong).0

  pub parts_room : short_of_parts s p l ≡ []
  parts_room = at-empty 9 _ (append-empty (handed_faults s p) _ nothing-wrong).1

  pub parts-says : parts_says s p l ≡ counts s p
  unfolding parts_says
  parts-says = ap (λ (fs : List (List ℕ)). first_of fs (counts s p)) nothing-wrong

  -- Over the columns of an accepted `from_parts` 12 is never given either.
  pub parts_few : length p.labels < 2 ^ 64
  parts_few = omega (arith, parts-passed.labels)

  pub parts-read : (o : ℕ) → o < objects_of p → reads_back (columns_of s p) o ≡ true
  parts-read o h = reads s p parts-passed.parts parts_few o h

  -- The used parts of what it left, at the lengths that it returned, are the coded columns.
  said : (i : ℕ) → parts_says s p l ! i ≡ counts s p ! i
  said i = ap (λ (a : List ℕ). a ! i) parts-says

  pub parts_blocks : used_blocks (length p.offsets) ((parts_left s p l).says ! 4) (parts_left s p l).coded ≡ blocked p.offsets
  unfolding parts_left counts
  parts_blocks =
      ap (λ (n : ℕ). used_blocks (length p.offsets) n (coded_left (parts_says s p l) s p l)) (said 4) ∙ used_blocks_lem (parts_says s p l) ok s p l

  pub parts-labels : used_labels ((parts_left s p l).says ! 1) ((parts_left s p l).says ! 5) ((parts_left s p l).says ! 6) (parts_left s p l).coded ≡ label_columns s p
  unfolding parts_left counts
  parts-labels = rw (said 1, said 5, said 6, parts-passed.parts.counted) (used_labels_lem (parts_says s p l) ok s p l parts-passed.parts)

  pub used_parts_lem : used_parts p (parts_left s p l) ≡ columns_of s p
  unfolding used_parts columns_of
  used_parts_lem = rw (parts_blocks, parts-labels)
