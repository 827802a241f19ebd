-- The part that a span says: which case of `span_part` holds. Assumes nothing.
use mathlib.Core.Path.{◌≡◌}
use mathlib.Core.Bool.{false}
use mathlib.Core.List.{List, [], ◌∷◌}
use Prim.Native.Nat.{ℕ, ◌≤◌, ◌<◌}
use borrow.Author.Tests.{le-leb, lt-leb}
use lib.ListN.{length}
use Rattle.columns.specs.Lists.{all_of, part}
use Rattle.columns.specs.Columns.{accepts}
use Rattle.ask_part.specs.Part.{span_part}

-- the part that a span says, where it is one of the column's
pub part_falls : {A : Type 0} (xs : List A) (a b : ℕ) → b < a → span_part (0 ∷ a ∷ b ∷ []) xs ≡ []
unfolding span_part accepts all_of
part_falls xs a b l = rw (lt-leb a b l)

pub part_past : {A : Type 0} (xs : List A) (a b : ℕ) → a ≤ b → length xs < b → span_part (0 ∷ a ∷ b ∷ []) xs ≡ []
unfolding span_part accepts all_of
part_past xs a b h l = rw (le-leb a b h, lt-leb b (length xs) l)

pub part_is : {A : Type 0} (xs : List A) (a b : ℕ) → a ≤ b → b ≤ length xs → span_part (0 ∷ a ∷ b ∷ []) xs ≡ part xs a b
unfolding span_part accepts all_of
part_is xs a b h l = rw (le-leb a b h, le-leb b (length xs) l)

-- and of a refusal there is none
pub part_none : {A : Type 0} (says : List ℕ) (xs : List A) → accepts says ≡ false → span_part says xs ≡ []
unfolding span_part all_of
part_none says xs f = rw f
