-- "One question for a thousand sessions" (M-104 of document 02): what asking one question of each object of a list answers and leaves, whatever the single
-- question f is. Assumes nothing.
use Rattle.std.specs.Prelude.{ℕ, cond, not, List, [], ◌∷◌, map, eqb, ltb, length}
use Rattle.columns.specs.Lists.{◌!◌, first_place, one, any_of}
use Rattle.columns.specs.Columns.{accepts, leaves}

-- "A target and a found mark per object": of an answer that found something, its value and 1; of one that found nothing, 0 and 0.
abbrev pub target_said : List ℕ → ℕ
target_said says = says ! 1

abbrev pub found_said : List ℕ → ℕ
found_said says = one (eqb (length says) 2)

-- the answer, and the two columns that it leaves
pub record EachLeft : Type 0 where
  pub says : List ℕ
  pub targets : List ℕ
  pub found : List ℕ

module _ (f : ℕ → List ℕ) (os : List ℕ) where
  -- "At the first position refused": the place in the list, not the object.
  unfoldable pub first_refused : ℕ
  first_refused = first_place (λ i. not (accepts (f (os ! i)))) (length os)

  -- "ROOM 12 for outputs shorter than the list, then INDEX or COLUMNS at the first position refused." On acceptance, how many were asked.
  unfoldable pub each_says : ℕ → ℕ → List ℕ
  each_says a b =
      cond (any_of (ltb a (length os) ∷ ltb b (length os) ∷ [])) (9 ∷ 12 ∷ [])
      (cond (ltb first_refused (length os)) (f (os ! first_refused) ! 0 ∷ first_refused ∷ []) (0 ∷ length os ∷ []))

  -- "Each equal to the single question, repeats included"; "each leaves both outputs zero."
  unfoldable pub each_left : ℕ → ℕ → EachLeft
  each_left a b =
      let says = each_says a b in
      record { says = says; targets = leaves says (map (λ o. target_said (f o)) os) a; found = leaves says (map (λ o. found_said (f o)) os) b }
