-- An answer that accepts is none of the refusals that stand before the rest. Assumes nothing.
use mathlib.Core.Path.{◌≡◌, refl, sym, ◌∙◌}
use mathlib.Core.Bool.{Bool, true, false, cond, true≢false}
use mathlib.Core.List.{List, ◌∷◌}
use Prim.Native.Nat.{ℕ, suc}
use native.Mathlib.Omega.{arith}
use borrow.Author.Tests.{ne_eqb}
use Rattle.columns.specs.Columns.{accepts}

-- the refusal's number is k + 1
pub past : (t : Bool) (k : ℕ) (place rest : List ℕ) → accepts (cond t (suc k ∷ place) rest) ≡ true → (t ≡ false) × (accepts rest ≡ true)
unfolding accepts
past true k place rest h = absurd (true≢false (sym h ∙ ne_eqb (suc k) 0 (λ e. omega arith)))
past false k place rest h = (refl, h)

pub accepting : (values : List ℕ) → accepts (0 ∷ values) ≡ true
unfolding accepts
accepting values = refl
