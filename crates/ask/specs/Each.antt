-- A field asked of each object of a list (M-104), where the columns hold a graph: n objects, of which object o has the edges es o. Assumes nothing.
use Rattle.std.specs.Prelude.{ℕ, ◌<◌, ◌≡◌, true, false, List, ◌∷◌, eqb, length}
use Rattle.columns.specs.Lists.{◌!◌}
use Rattle.columns.specs.Columns.{accepts}
use Rattle.rules.specs.Edges.{Edge}
use Rattle.rules.specs.Questions.{plainly, field_in}
use Rattle.rules.specs.Each.{EachLeft, each_left}

-- the single question, on the plain edges
abbrev pub plain_field : ℕ → (ℕ → List Edge) → ℕ → ℕ → List ℕ
plain_field n es l o = plainly n o (0 ∷ field_in (es o) l)

-- What a call left: what the question on the plain edges leaves. 12 is never given. After an acceptance each row is its object's first target with the label, if
-- it has one, and how many were found: one or none.
pub record EachAnswered (n : ℕ) (es : ℕ → List Edge) (l : ℕ) (os : List ℕ) (a b : ℕ) (left : EachLeft) : Type 0 where
  pub plain : left ≡ each_left (plain_field n es l) os a b
  pub never_12 : eqb (left.says ! 0) 12 ≡ false
  pub exists : accepts left.says ≡ true → (i : ℕ) → i < length os → os ! i < n
  pub target : accepts left.says ≡ true → (i : ℕ) → i < length os → left.targets ! i ≡ field_in (es (os ! i)) l ! 0
  pub found : accepts left.says ≡ true → (i : ℕ) → i < length os → left.found ! i ≡ length (field_in (es (os ! i)) l)
