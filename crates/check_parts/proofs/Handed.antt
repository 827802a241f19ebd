-- The checks of `from_parts` in their order: what each test decides, and what it leaves to decide. Assumes nothing.
use mathlib.Core.Path.{◌≡◌, sym, ◌∙◌}
use mathlib.Core.Bool.{Bool, true, false}
use mathlib.Core.List.{List, [], ◌∷◌}
use Prim.Native.Nat.{ℕ, ◌≤◌, ◌<◌}
use borrow.Author.Tests.{lt-ltb, le-ltb, eqb-true, not-false}
use lib.ListN.{length}
use Rattle.columns.specs.Lists.{first_place, any_of}
use Rattle.columns.proofs.Tests.{or_true, none_of}
use Rattle.rules.specs.Input.{Schema, class_count}
use Rattle.rules.specs.Edges.{Parts}
use Rattle.rules.specs.Needs.{objects_of}
use Rattle.rules.specs.Verdict.{first_of, differs, schema_lengths, over_limit, bad_class, over_places}
use Rattle.rules.specs.Parts.{parts_faults, handed_says}
use Rattle.rules.proofs.First.{when_bad, lowest_bad, handed-chain}

module _ (s : Schema) (p : Parts) where
  abbrev done : List ℕ
  done = 0 ∷ length p.labels ∷ []

  abbrev pairs : Bool
  pairs = differs (length p.weak_from) (length p.weak_to ∷ [])

  abbrev parts : List ℕ
  parts = first_of (parts_faults s.names p) done

  abbrev classes : List ℕ
  classes = lowest_bad 4 (bad_class s) (class_count s) (when_bad 8 (over_places (length p.labels)) parts)

  chain : handed_says s p ≡ when_bad 1 (any_of (schema_lengths s ∷ pairs ∷ [])) (when_bad 2 (over_limit (objects_of p) s) classes)
  unfolding handed_says
  chain = handed-chain s p done

  pub handed_tables : schema_lengths s ≡ true → 1 ∷ 0 ∷ [] ≡ handed_says s p
  unfolding any_of
  handed_tables h = sym (chain ∙ rw h)

  pub handed-pairs : pairs ≡ true → 1 ∷ 0 ∷ [] ≡ handed_says s p
  unfolding any_of
  handed-pairs h = sym (chain ∙ rw (h, or_true (schema_lengths s)))

  module _ (h1 : schema_lengths s ≡ false) (h2 : pairs ≡ false) where
    even : handed_says s p ≡ when_bad 2 (over_limit (objects_of p) s) classes
    unfolding any_of
    even = chain ∙ rw (h1, h2)

    pub pairs-even : length p.weak_to ≡ length p.weak_from
    pairs-even = eqb-true _ _ (not-false _ (none_of _ h2 0))

    pub handed_limit : over_limit (objects_of p) s ≡ true → 2 ∷ 0 ∷ [] ≡ handed_says s p
    handed_limit h = sym (even ∙ rw h)

    module _ (h3 : over_limit (objects_of p) s ≡ false) {c : ℕ} (e : c ≡ first_place (bad_class s) (class_count s)) where
      within : handed_says s p ≡ classes
      within = even ∙ rw h3

      pub handed_class : c < class_count s → 4 ∷ c ∷ [] ≡ handed_says s p
      handed_class l = sym (within ∙ rw (← e, lt-ltb _ _ l))

      module _ (l : class_count s ≤ c) where
        sound : handed_says s p ≡ when_bad 8 (over_places (length p.labels)) parts
        sound = within ∙ rw (← e, le-ltb _ _ l)

        pub handed-places : 268435456 < length p.labels → 8 ∷ 0 ∷ [] ≡ handed_says s p
        handed-places k = sym (sound ∙ rw (lt-ltb _ _ k))

        pub handed-parts : length p.labels ≤ 268435456 → parts ≡ handed_says s p
        handed-parts k = sym (sound ∙ rw (le-ltb _ _ k))
