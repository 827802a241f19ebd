-- Whether an object has the edge asked. Assumes nothing.
use Prim.Native.Nat.{ℕ, ◌-◌, ◌≤◌, ◌<◌}
use native.Mathlib.Omega.{arith}
use mathlib.Core.Path.{◌≡◌}
use mathlib.Core.Bool.{false}
use mathlib.Core.List.{List, [], ◌∷◌}
use borrow.Author.Tests.{lt-ltb, le-ltb}
use Rattle.columns.specs.Columns.{accepts}
use Rattle.ask_edge.specs.Edge.{edge_asked}

-- Which case of `edge_asked` holds.
pub no_edge : (a b k : ℕ) → b - a ≤ k → edge_asked (0 ∷ a ∷ b ∷ []) k ≡ 11 ∷ k ∷ []
unfolding edge_asked accepts
no_edge a b k l = rw (le-ltb k (b - a) l)

pub none_at_all : (a b k : ℕ) → b ≤ a → edge_asked (0 ∷ a ∷ b ∷ []) k ≡ 11 ∷ k ∷ []
none_at_all a b k l = no_edge a b k (omega arith)

pub has_edge : (a b k : ℕ) → k < b - a → edge_asked (0 ∷ a ∷ b ∷ []) k ≡ 0 ∷ a ∷ b ∷ []
unfolding edge_asked accepts
has_edge a b k l = rw (lt-ltb k (b - a) l)

-- and of a refusal none is
pub not_asked : (says : List ℕ) (k : ℕ) → accepts says ≡ false → edge_asked says k ≡ says
unfolding edge_asked
not_asked says k f = rw f
