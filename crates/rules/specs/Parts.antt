-- PARTS of document 01, and what `from_parts` answers in its own order. Assumes nothing.
use Rattle.std.specs.Prelude.{ℕ, suc, pred, ◌+◌, ◌-◌, min, Bool, cond, not, List, [], ◌∷◌, ◌++◌, map, eqb, leb, ltb, length}
use Rattle.columns.specs.Lists.{◌!◌, collect, places, all_of, any_of}
use Rattle.rules.specs.Types.{loader_label, array_element_label, is_element}
use Rattle.rules.specs.Input.{Schema, class_count}
use Rattle.rules.specs.Edges.{Parts, Pair, pair_le}
use Rattle.rules.specs.Labels.{expected, own}
use Rattle.rules.specs.Needs.{objects_of, Lent, short_of_parts}
use Rattle.rules.specs.Verdict.{first_of, at, once, differs, schema_lengths, over_limit, bad_class, bad_root, over_places, counts}

-- "10 PARTS | column, position"
unfoldable pub in_column : ℕ → List ℕ → List (List ℕ)
in_column c ps = map (λ p. 10 ∷ c ∷ p ∷ []) ps

abbrev pub degree : List ℕ → ℕ → ℕ
degree offsets o = offsets ! suc o - offsets ! o

-- Column 1. "Offsets start at 0, never fall, end at the label count .. a wrong end at the last offset. An empty offset column is refused at position 0."
abbrev pub below : List ℕ → ℕ → Bool
below xs i = ltb (xs ! i) (xs ! pred i)

unfoldable pub bad_offsets : List ℕ → ℕ → List ℕ
bad_offsets offsets edges =
    let last = length offsets - 1 in
    once (any_of (eqb (length offsets) 0 ∷ not (eqb (offsets ! 0) 0) ∷ []))
    ++ places (below offsets) (length offsets)
    ++ cond (eqb (offsets ! last) edges) [] (last ∷ [])

-- Column 2. "Labels below the name count, `LOADER` or elements." An index has 31 bits, so every label is below 2^32.
abbrev pub is_named : ℕ → ℕ → Bool
is_named names l = all_of (any_of (ltb l names ∷ leb loader_label l ∷ []) ∷ ltb l 4294967296 ∷ [])

-- "Elements strictly rise within an object": the k-th label of one object's.
unfoldable pub bad_label : ℕ → List ℕ → ℕ → Bool
bad_label names ls k =
    let l = ls ! k in
    any_of (not (is_named names l) ∷ all_of (is_element l ∷ ltb (l - array_element_label) (expected ls k) ∷ []) ∷ [])

unfoldable pub bad_labels : ℕ → ℕ → List ℕ → List ℕ → List ℕ
bad_labels n m offsets labels =
    collect (λ o. map (λ k. offsets ! o + k) (places (bad_label n (own offsets labels o)) (degree offsets o))) m

-- Column 3. "As many targets as labels; targets below the object count .. a wrong target count is reported at the shorter length."
abbrev pub no_object : ℕ → List ℕ → ℕ → Bool
no_object m xs e = leb m (xs ! e)

unfoldable pub bad_targets : ℕ → List ℕ → ℕ → List ℕ
bad_targets m targets edges =
    let both = min (length targets) edges in
    places (no_object m targets) both ++ cond (eqb (length targets) edges) [] (both ∷ [])

-- Column 4. "Weak sorted with both ends in range."
abbrev pub pair_at : List ℕ → List ℕ → ℕ → Pair
pair_at from to i = record { object = from ! i; target = to ! i }

abbrev pub unsorted : List ℕ → List ℕ → ℕ → Bool
unsorted from to i = all_of (ltb 0 i ∷ not (pair_le (pair_at from to (pred i)) (pair_at from to i)) ∷ [])

unfoldable pub bad_pair : ℕ → List ℕ → List ℕ → ℕ → Bool
bad_pair m from to i = any_of (leb m (from ! i) ∷ leb m (to ! i) ∷ unsorted from to i ∷ [])

-- Column 5: "roots in range (neither sorted nor merged here)." Faults stand by column, then by position.
unfoldable pub parts_faults : ℕ → Parts → List (List ℕ)
parts_faults names p =
    let m = objects_of p in
    in_column 1 (bad_offsets p.offsets (length p.labels))
    ++ in_column 2 (bad_labels names m p.offsets p.labels)
    ++ in_column 3 (bad_targets m p.targets (length p.labels))
    ++ in_column 4 (places (bad_pair m p.weak_from p.weak_to) (length p.weak_from))
    ++ in_column 5 (places (bad_root m p.roots) (length p.roots))

-- "`from_parts` tests LENGTHS, LIMIT, CLASS without its two causes about found objects (it has no ids), PLACES for the label count, PARTS, then ROOM."
unfoldable pub handed_faults : Schema → Parts → List (List ℕ)
handed_faults s p =
    at 1 (once (any_of (schema_lengths s ∷ differs (length p.weak_from) (length p.weak_to ∷ []) ∷ [])))
    ++ at 2 (once (over_limit (objects_of p) s))
    ++ at 4 (places (bad_class s) (class_count s))
    ++ at 8 (once (over_places (length p.labels)))
    ++ parts_faults s.names p

-- What the checks of `from_parts` answer, and what `from_parts` does.
unfoldable pub handed_says : Schema → Parts → List ℕ
handed_says s p = first_of (handed_faults s p) (0 ∷ length p.labels ∷ [])

unfoldable pub parts_says : Schema → Parts → Lent → List ℕ
parts_says s p l = first_of (handed_faults s p ++ at 9 (short_of_parts s p l)) (counts s p)
