-- The account that a pass over all objects comes to is the account of the rules: each cell counts the references of its kind. Assumes nothing.
use Prim.Native.Nat.{ℕ, ◌+◌, ◌<◌}
use native.Mathlib.Omega.{arith}
use mathlib.Core.Path.{◌≡◌, refl, sym, ap, ap₂, ◌∙◌}
use mathlib.Core.Bool.{Bool, true, false, cond}
use mathlib.Core.List.{List, [], ◌∷◌, ◌++◌}
use lib.ListN.{length}
use Rattle.columns.specs.Lists.{◌!◌, collect, sum}
use Rattle.columns.proofs.Sums.{sum-append, sum-collect, sum_ext, total_ext, length-flat}
use Rattle.rules.specs.Input.{Input, object_count}
use Rattle.rules.specs.Edges.{Kind, slot, element, static, loader, Ref, Outcome, outcome, missing_of, ref_edge, ref_weak, refs}
use Rattle.rules.specs.Account.{of_kind, is_edge, is_weak, cell, account_row, account, no_account}
use Rattle.rules.proofs.Account.{same-edge}
use Rattle.edge_append.specs.Append.{edges_among, weak_among, missing_among}
use Rattle.edge_append.specs.Account.{row}
use Rattle.edge_append.specs.Object.{RefParts, together}
use Rattle.edge_append.specs.declared.Pass.{Pass}
use Rattle.edge_append.proofs.Tallies.{rows_four}
use Rattle.edge_pass.specs.Walk.{cells, RowGrown, Walked}
use Rattle.edge_pass.proofs.Parted.{AllOf, Agrees}

same_kind : (k : Kind) → of_kind k k ≡ true
same_kind slot = refl
same_kind element = refl
same_kind static = refl
same_kind loader = refl

abbrev part_of : Kind → RefParts → List Ref
part_of slot p = p.slots
part_of element p = p.elements
part_of static p = p.statics
part_of loader p = p.loaders

module _ (ids : List ℕ) (is : Outcome → ℕ) where
  abbrev count_of : List Ref → ℕ
  count_of rs = sum (λ r. is (outcome ids r)) rs

  abbrev count_kind : Kind → List Ref → ℕ
  count_kind k rs = sum (λ r. cond (of_kind k r.kind) (is (outcome ids r)) 0) rs

  -- references of the kind all count, references of another kind none
  own : (k : Kind) (rs : List Ref) → AllOf k rs → count_kind k rs ≡ count_of rs
  own k [] e = refl
  own k (r ∷ rs) e = ap₂ (λ (b : Bool) (m : ℕ). cond b (is (outcome ids r)) 0 + m) (ap (of_kind k) e.0 ∙ same_kind k) (own k rs e.1)

  other : (k j : Kind) → of_kind k j ≡ false → (rs : List Ref) → AllOf j rs → count_kind k rs ≡ 0
  other k j f [] e = refl
  other k j f (r ∷ rs) e = ap₂ (λ (b : Bool) (m : ℕ). cond b (is (outcome ids r)) 0 + m) (ap (of_kind k) e.0 ∙ f) (other k j f rs e.1)

  four : (f : Ref → ℕ) (p : RefParts) → sum f (together p) ≡ sum f p.slots + (sum f p.elements + (sum f p.statics + sum f p.loaders))
  unfolding together
  four f p =
      omega (
        arith,
        sum-append f p.slots (p.elements ++ (p.statics ++ p.loaders)),
        sum-append f p.elements (p.statics ++ p.loaders),
        sum-append f p.statics p.loaders,
      )

  module _ (x : Input) (o : ℕ) (p : RefParts) (a : Agrees x o p) where
    together-kind : (k : Kind) → count_kind k (together p) ≡ count_of (part_of k p)
    together-kind slot = omega (arith, four (λ r. cond (of_kind slot r.kind) (is (outcome ids r)) 0) p, own slot p.slots a.slots, other slot element refl p.elements a.elements, other slot static refl p.statics a.statics, other slot loader refl p.loaders a.loaders)
    together-kind element = omega (arith, four (λ r. cond (of_kind element r.kind) (is (outcome ids r)) 0) p, own element p.elements a.elements, other element slot refl p.slots a.slots, other element static refl p.statics a.statics, other element loader refl p.loaders a.loaders)
    together-kind static = omega (arith, four (λ r. cond (of_kind static r.kind) (is (outcome ids r)) 0) p, own static p.statics a.statics, other static slot refl p.slots a.slots, other static element refl p.elements a.elements, other static loader refl p.loaders a.loaders)
    together-kind loader = omega (arith, four (λ r. cond (of_kind loader r.kind) (is (outcome ids r)) 0) p, own loader p.loaders a.loaders, other loader slot refl p.slots a.slots, other loader element refl p.elements a.elements, other loader static refl p.statics a.statics)

    kind-refs : (k : Kind) → count_kind k (refs x o) ≡ count_of (part_of k p)
    kind-refs k = ap (count_kind k) (sym a.references) ∙ together-kind k

module _ (x : Input) (p : ℕ → RefParts) (agree : (i : ℕ) → i < object_count x → Agrees x i (p i)) where
  abbrev n : ℕ
  n = object_count x

  abbrev ids : List ℕ
  ids = x.objects.ids

  cell-counts : (k : Kind) (is : Outcome → ℕ) → cell x k is ≡ count_of ids is (collect (λ i. part_of k (p i)) n)
  unfolding cell
  cell-counts k is = total_ext _ _ n (λ i l. kind-refs ids is x i (p i) (agree i l) k) ∙ sym (sum-collect (λ r. is (outcome ids r)) (λ i. part_of k (p i)) n)

  edge-cell : (k : Kind) → length (edges_among ids (collect (λ i. part_of k (p i)) n)) ≡ cell x k is_edge
  unfolding edges_among
  edge-cell k =
      length-flat (ref_edge ids) (collect (λ i. part_of k (p i)) n)
      ∙ sum_ext _ _ (λ r. sym (same-edge r.label (outcome ids r))) (collect (λ i. part_of k (p i)) n)
      ∙ sym (cell-counts k is_edge)

  weak-cell : (k : Kind) → length (weak_among ids (collect (λ i. part_of k (p i)) n)) ≡ cell x k is_weak
  unfolding weak_among
  weak-cell k = length-flat (ref_weak ids) (collect (λ i. part_of k (p i)) n) ∙ sym (cell-counts k is_weak)

  missing-cell : (k : Kind) → missing_among ids (collect (λ i. part_of k (p i)) n) ≡ cell x k missing_of
  unfolding missing_among
  missing-cell k = sym (cell-counts k missing_of)

  row_is : (k : Kind) (r : List ℕ) → RowGrown ids (0 ∷ 0 ∷ 0 ∷ []) r (collect (λ i. part_of k (p i)) n) → r ! 0 ∷ r ! 1 ∷ r ! 2 ∷ [] ≡ account_row x k
  row_is k r g =
      let a : r ! 0 ≡ cell x k is_edge = omega (arith, g.edges, edge-cell k) in
      let b : r ! 1 ≡ cell x k is_weak = omega (arith, g.weak, weak-cell k) in
      let c : r ! 2 ≡ cell x k missing_of = omega (arith, g.missing, missing-cell k) in
      rw (a, b, c)

  pub all_account : {s q : Pass} {ts ls fs ws wk ts' ls' fs' ws' wk' : List ℕ} {a' : List (List ℕ)} → Walked ids p 0 n s q ts ls fs ws wk no_account ts' ls' fs' ws' wk' a' → a' ≡ account x
  unfolding cells account
  all_account {a' = a'} w =
      w.table refl ∙ rows_four (row_is slot (row a' 0) w.slots) (row_is element (row a' 1) w.elements) (row_is static (row a' 2) w.statics) (row_is loader (row a' 3) w.loaders)
