-- The check of dumped classes that are found among the objects, and the marks that say which class is found where: `found_at` and `bad_find` of the rules
-- restated by lookups and by marks. Each comment names the law of `proofs/Marks.antt` that ties the two. Assumes nothing.
use Rattle.std.specs.Prelude.{ℕ, zero, suc, ◌+◌, Bool, cond, not, List, [], ◌∷◌, eqb, ltb, length, set}
use Rattle.columns.specs.Lists.{◌!◌, tab, any, find, or_else, all_of, any_of}
use Rattle.columns.specs.Columns.{zeros}
use Rattle.rules.specs.Input.{Input, object_count, found_at}
use Rattle.rules.specs.Tables.{object_table, class_table}
use Rattle.check_tables.specs.Reads.{own, part_input, no_route}

-- the columns of the check
abbrev pub find_columns : List ℕ → List ℕ → List ℕ → List ℕ → Input
find_columns ids kinds classIds dumped = part_input (object_table own ids kinds [] []) (class_table own classIds [] dumped [] [] [] [] []) no_route

-- the object at which a dumped class is found (rule `found_at`, laws `found-place`, `not_found`, `found_there`), or the number of objects
unfoldable pub place_for : List ℕ → ℕ → ℕ → ℕ
place_for ids id dumped = cond (eqb dumped 1) (or_else (length ids) (find ids id)) (length ids)

unfoldable pub is_dumped : ℕ → ℕ → ℕ → Bool
is_dumped dumped a id = all_of (eqb dumped 1 ∷ eqb a id ∷ [])

abbrev pub dumped_at : List ℕ → List ℕ → ℕ → ℕ → Bool
dumped_at classIds dumped id b = is_dumped (dumped ! b) (classIds ! b) id

-- a class found at o is at fault: the rule `bad_find`, by the law `find_fault_lem`
unfoldable pub find_fault : Input → ℕ → ℕ → Bool
find_fault x o c = all_of (ltb o (object_count x) ∷ any_of (ltb (x.objects.kinds ! o) 3 ∷ any (found_at x o) c ∷ []) ∷ [])

-- the same by marks (law `tells`), and the marks with one more (law `marked_next`)
unfoldable pub mark_fault : List ℕ → List ℕ → ℕ → Bool
mark_fault kinds w o = all_of (ltb o (length kinds) ∷ any_of (ltb (kinds ! o) 3 ∷ ltb 0 (w ! (o + 1)) ∷ []) ∷ [])

unfoldable pub marking : List ℕ → List ℕ → ℕ → ℕ → List ℕ
marking kinds w o c = cond (all_of (ltb o (length kinds) ∷ not (mark_fault kinds w o) ∷ [])) (set w (o + 1) (c + 1)) w

-- The mark of object o after c classes: the last of them that is found there, counted from 1; 0 where none is.
abbrev pub mark_to : Input → ℕ → ℕ → ℕ
mark_to x o zero = 0
mark_to x o (suc c) = cond (found_at x o c) (suc c) (mark_to x o c)

-- It stands behind object o's place.
abbrev pub mark_at : Input → ℕ → ℕ → ℕ
mark_at x c zero = 0
mark_at x c (suc o) = cond (ltb o (object_count x)) (mark_to x o c) 0

unfoldable pub marks : Input → ℕ → ℕ → List ℕ
marks x c m = tab (mark_at x c) m

-- There are marks only where each object has room for one.
unfoldable pub marks_if : Input → ℕ → ℕ → List ℕ
marks_if x c m = cond (ltb (object_count x) m) (marks x c m) (zeros m)
