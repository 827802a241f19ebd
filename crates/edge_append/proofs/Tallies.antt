-- The account grows with the pass state, and each row by what references of its kind came to. Assumes nothing.
use Prim.Native.Nat.{ℕ, ◌-◌}
use native.Mathlib.Omega.{arith}
use mathlib.Core.Path.{◌≡◌}
use mathlib.Core.List.{List, [], ◌∷◌}
use lib.ListN.{length}
use Rattle.rules.specs.Edges.{Ref}
use Rattle.edge_append.specs.Append.{edges_among, weak_among, missing_among, Appended}
use Rattle.edge_append.specs.Account.{row_after, row_with, RowIn, Grows}
use Rattle.edge_append.specs.declared.Pass.{Pass}

pub row-later : {r : List ℕ} {s q : Pass} → RowIn r s → Grows s q → RowIn r q
row-later h g = record { edges = omega (arith, h.edges, g.edges); weak = omega (arith, h.weak, g.weak); missing = omega (arith, h.missing, g.missing) }

pub rows_four : {p q r s p' q' r' s' : List ℕ} → p ≡ p' → q ≡ q' → r ≡ r' → s ≡ s' → p ∷ q ∷ r ∷ s ∷ [] ≡ p' ∷ q' ∷ r' ∷ s' ∷ []
rows_four a b c d = rw (a, b, c, d)

module _ {ids : List ℕ} {rs : List Ref} {s q : Pass} {ts ls ws ts' ls' ws' : List ℕ} (a : Appended ids rs s q ts ls ws ts' ls' ws') where
  pub appended_grows : Grows s q
  appended_grows = record { edges = omega (arith, a.next); weak = omega (arith, a.next_weak); missing = omega (arith, a.lost) }

  pub row_as : (r : List ℕ) → row_after r s q ≡ row_with ids r rs
  unfolding row_after row_with
  row_as r =
      let e : q.edges - s.edges ≡ length (edges_among ids rs) = omega (arith, a.next) in
      let w : q.weak - s.weak ≡ length (weak_among ids rs) = omega (arith, a.next_weak) in
      let m : q.missing - s.missing ≡ missing_among ids rs = omega (arith, a.lost) in
      rw (e, w, m)

  pub row-with_in : {r : List ℕ} → RowIn r s → RowIn (row_with ids r rs) q
  unfolding row_with
  row-with_in h = record { edges = omega (arith, h.edges, a.next); weak = omega (arith, h.weak, a.next_weak); missing = omega (arith, h.missing, a.lost) }
