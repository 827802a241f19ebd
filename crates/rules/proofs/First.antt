-- "The first number that applies is returned, at its lowest place": an answer as a chain of tests in the order of refusal. Assumes nothing.
use Prim.Native.Nat.{ℕ, ◌<◌}
use native.Mathlib.Omega.{arith}
use mathlib.Core.Path.{◌≡◌, refl}
use mathlib.Core.Bool.{Bool, true, false, cond}
use mathlib.Core.List.{List, [], ◌∷◌, ◌++◌, map}
use lib.Dec.{ltb}
use lib.ListN.{length, get_or}
use borrow.Author.Tests.{lt-ltb, le-ltb}
use Rattle.columns.specs.Lists.{◌!◌, places, first_place, any_of}
use Rattle.columns.proofs.Lists.{places-below}
use Rattle.columns.proofs.Sums.{map-append}
use Rattle.rules.specs.Input.{Input, Schema, Copied, Route.copied, object_count, class_count}
use Rattle.rules.specs.Edges.{Parts}
use Rattle.rules.specs.Places.{place_count}
use Rattle.rules.specs.Needs.{buffer, objects_of}
use Rattle.rules.specs.Verdict.{first_of, at, once, differs, falls, schema_lengths, over_limit, bad_lengths, bad_limit, bad_object, bad_class, bad_dumped}
use Rattle.rules.specs.Verdict.{bad_copied, bad_code, bad_escape, bad_span, bad_root, over_places, faults}
use Rattle.rules.specs.Parts.{in_column, parts_faults, handed_faults}

pub first-append : (fs gs : List (List ℕ)) (done : List ℕ) → first_of (fs ++ gs) done ≡ first_of fs (first_of gs done)
first-append [] gs done = refl
first-append (f ∷ fs) gs done = refl

at-append : (n : ℕ) (ps qs : List ℕ) → at n (ps ++ qs) ≡ at n ps ++ at n qs
unfolding at
at-append n ps qs = map-append _ ps qs

-- a number that has place 0; one with the lowest place of a test; a buffer
pub first-once : (n : ℕ) (b : Bool) (done : List ℕ) → first_of (at n (once b)) done ≡ cond b (n ∷ 0 ∷ []) done
unfolding at
first-once n true done = refl
first-once n false done = refl

pub first-buffer : (k : ℕ) (short : List Bool) (done : List ℕ) → first_of (at 9 (buffer k short)) done ≡ cond (any_of short) (9 ∷ k ∷ []) done
unfolding at
first-buffer k short done = go (any_of short)
  where
    go : (b : Bool) → first_of (at 9 (cond b (k ∷ []) [])) done ≡ cond b (9 ∷ k ∷ []) done
    go true = refl
    go false = refl

-- the lowest place of a test, in a list of one fault for each place
lowest : (fault : ℕ → List ℕ) (t : ℕ → Bool) (m : ℕ) (done : List ℕ)
    → first_of (map fault (places t m)) done ≡ cond (ltb (first_place t m) m) (fault (first_place t m)) done
lowest fault t m done = go (places t m) (places-below t m)
  where
    go : (ps : List ℕ) → ((k : ℕ) → k < length ps → ps ! k < m) → first_of (map fault ps) done ≡ cond (ltb (get_or ps 0 m) m) (fault (get_or ps 0 m)) done
    go [] below = rw (le-ltb m m (omega arith))
    go (p ∷ ps) below = rw (lt-ltb p m (below 0 (omega arith)))

pub first-place : (n : ℕ) (t : ℕ → Bool) (m : ℕ) (done : List ℕ)
    → first_of (at n (places t m)) done ≡ cond (ltb (first_place t m) m) (n ∷ first_place t m ∷ []) done
unfolding at
first-place n t m done = lowest (λ p. n ∷ p ∷ []) t m done

pub first_position : (c : ℕ) (t : ℕ → Bool) (m : ℕ) (done : List ℕ)
    → first_of (in_column c (places t m)) done ≡ cond (ltb (first_place t m) m) (10 ∷ c ∷ first_place t m ∷ []) done
unfolding in_column
first_position c t m done = lowest (λ p. 10 ∷ c ∷ p ∷ []) t m done

-- a test that decides, then the rest; a lowest place that decides, then the rest
abbrev pub when_bad : ℕ → Bool → List ℕ → List ℕ
when_bad n b rest = cond b (n ∷ 0 ∷ []) rest

abbrev pub lowest_bad : ℕ → (ℕ → Bool) → ℕ → List ℕ → List ℕ
lowest_bad n t m rest = cond (ltb (first_place t m) m) (n ∷ first_place t m ∷ []) rest

-- The checks of a build in order.
pub checks_chain : (x : Input) (done : List ℕ) → first_of (faults x) done
    ≡ when_bad 1 (bad_lengths x) (when_bad 2 (bad_limit x)
    (lowest_bad 3 (bad_object x) (object_count x) (lowest_bad 4 (bad_dumped x) (class_count x.schema) (first_of (at 5 (bad_copied x.route))
    (lowest_bad 6 (bad_span x) (object_count x) (lowest_bad 7 (bad_root (object_count x) x.roots) (length x.roots)
    (when_bad 8 (over_places (place_count x)) done)))))))
unfolding faults
checks_chain x done =
    rw (
      first-append,
      first-append,
      first-append,
      first-append,
      first-append,
      first-append,
      first-append,
      first-once 8 (over_places (place_count x)) done,
      first-place 7 (bad_root (object_count x) x.roots),
      first-place 6 (bad_span x),
      first-place 4 (bad_dumped x),
      first-place 3 (bad_object x),
      first-once 2 (bad_limit x),
      first-once 1 (bad_lengths x),
    )

-- Those of copied ids: "first escape not rising, else first bad code position, else first bad escape position."
pub copied-chain : (c : Copied) (done : List ℕ) → first_of (at 5 (bad_copied (copied c))) done
    ≡ lowest_bad 5 (falls c.ids.places) (length c.ids.places)
    (lowest_bad 5 (bad_code c.ids) (length c.ids.codes) (lowest_bad 5 (bad_escape c.ids) (length c.ids.places) done))
unfolding bad_copied
copied-chain c done =
    let n = length c.ids.places in
    rw (
      at-append 5 (places (falls c.ids.places) n ++ places (bad_code c.ids) (length c.ids.codes)) (places (bad_escape c.ids) n),
      at-append 5 (places (falls c.ids.places) n) (places (bad_code c.ids) (length c.ids.codes)),
      first-append,
      first-append,
      first-place 5 (bad_escape c.ids),
      first-place 5 (bad_code c.ids),
      first-place 5 (falls c.ids.places),
    )

-- The checks of `from_parts` in order.
pub handed-chain : (s : Schema) (p : Parts) (done : List ℕ) → first_of (handed_faults s p) done
    ≡ when_bad 1 (any_of (schema_lengths s ∷ differs (length p.weak_from) (length p.weak_to ∷ []) ∷ []))
    (when_bad 2 (over_limit (objects_of p) s) (lowest_bad 4 (bad_class s) (class_count s)
    (when_bad 8 (over_places (length p.labels)) (first_of (parts_faults s.names p) done))))
unfolding handed_faults
handed-chain s p done =
    rw (
      first-append,
      first-append,
      first-append,
      first-append,
      first-once 8 (over_places (length p.labels)),
      first-place 4 (bad_class s),
      first-once 2 (over_limit (objects_of p) s),
      first-once 1 (any_of (schema_lengths s ∷ differs (length p.weak_from) (length p.weak_to ∷ []) ∷ [])),
    )
