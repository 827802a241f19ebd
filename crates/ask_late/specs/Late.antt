-- The exact label of a late edge (M-106 of document 02), from columns that may hold anything. Assumes nothing.
use Rattle.std.specs.Prelude.{ℕ, zero, suc, ◌+◌, ◌-◌, cond, List, [], ◌∷◌, eqb, ltb, leb}
use Rattle.columns.specs.Lists.{◌!◌, all_of, total}
use Rattle.rules.specs.Labels.{Coded}
use Rattle.labels.specs.Reading.{element_back, step_back, next_of, onward, exact_back}

-- "Work backwards from the asked edge to the nearest escaped element of the object, or to its first edge": of the object whose edges begin at e, at edge k or
-- before it. An escaped field does not stop.
unfoldable pub nearest : Coded → ℕ → ℕ → ℕ
nearest d e zero = 0
nearest d e (suc k) = cond (eqb (d.codes ! (e + suc k)) 65535) (suc k) (nearest d e k)

-- ".. and come forward from there": an escape says its index by its row, so what stands before it need not be read.
unfoldable pub late_back : Coded → ℕ → ℕ → List ℕ
late_back d e k = exact_back d (e + nearest d e k) (k - nearest d e k)

-- What is expected at edge k, read from the nearest escaped element before it, or from the first edge: nothing where an edge on the way cannot be read.
unfoldable pub late_next : Coded → ℕ → ℕ → List ℕ
late_next d e zero = 0 ∷ []
late_next d e (suc k) = onward (λ n. next_of n (step_back d e k n)) (cond (eqb (d.codes ! (e + k)) 65535) (0 ∷ []) (late_next d e k))

-- An element that is not escaped takes one step more than its gap. Any other code counts as more than 32 of those come to.
unfoldable pub steps_of : ℕ → ℕ
steps_of c = cond (all_of (leb 32768 c ∷ ltb c 65535 ∷ [])) (c - 32767) 67108864

unfoldable pub block_steps : List ℕ → ℕ → ℕ
block_steps codes from = total (λ i. steps_of (codes ! (from + i))) 32

-- Where the index n is expected and s steps follow, the last of them leads to the element n + s - 1.
abbrev pub after_steps : ℕ → List ℕ → List ℕ
after_steps s ns = onward (λ n. element_back (n + s - 1)) ns
