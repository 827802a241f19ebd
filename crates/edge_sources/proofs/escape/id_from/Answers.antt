-- `edge_sources::escape::id_from` meets its contract: on places that rise the cursor ends where bisection does. Assumes nothing.
use Prim.Native.Nat.{ℕ}
use mathlib.Core.Path.{◌≡◌, sym, ◌∙◌, ap}
use mathlib.Core.Bool.{true, cond}
use mathlib.Core.List.{List, [], ◌∷◌}
use lib.Dec.{ltb, eqb}
use lib.ListN.{length}
use borrow.Author.Tests.{eqb-true, eq-eqb, ne_eqb}
use native.Mathlib.Omega.{arith}
use Rattle.columns.specs.Lists.{◌!◌, all_of}
use Rattle.columns.specs.Columns.{accepts}
use Rattle.columns.specs.Ranks.{Rises, Ranked, bisect}
use Rattle.columns.proofs.Ranks.{bisect-rank}
use Rattle.columns.proofs.Tests.{each_of}
use Rattle.index.specs.Copied.{ids_of, id_back, escape_back}
use Rattle.rules.specs.Input.{copied_id}
use Rattle.edge_sources.proofs.escape.id_from.Goals as goal

abbrev row_id : List ℕ → List ℕ → ℕ → ℕ → ℕ
row_id ps vs i k = cond (accepts (escape_back ps vs i k)) (escape_back ps vs i k ! 1) 0

module _ (codes ps vs : List ℕ) (b i : ℕ) (e : all_of (ltb i (length codes) ∷ eqb (codes ! i) 4294967295 ∷ []) ≡ true) where
  code_is : codes ! i ≡ 4294967295
  code_is = eqb-true _ _ (each_of (ltb i (length codes) ∷ eqb (codes ! i) 4294967295 ∷ []) e 1)

  escaped_id : copied_id (ids_of codes ps vs b) i ≡ row_id ps vs i (bisect ps i)
  unfolding copied_id id_back
  escaped_id =
      let inside : ltb i (length codes) ≡ true = each_of (ltb i (length codes) ∷ eqb (codes ! i) 4294967295 ∷ []) e 0 in
      simp (inside, ne_eqb (codes ! i) 0 (omega (arith, code_is)), eq-eqb (codes ! i) 4294967295 code_is)

  from_row : {k : ℕ} → Rises ps → Ranked ps i k → {id : ℕ} → id ≡ row_id ps vs i k → id ≡ copied_id (ids_of codes ps vs b) i
  from_row {k} rise r e = e ∙ ap (row_id ps vs i) (r.ranked rise ∙ sym (bisect-rank ps i rise)) ∙ sym escaped_id

pub returns-then-is_escaped : goal.returns-then-is_escaped
returns-then-is_escaped c = let a = c.args in
    from_row a.codes.now a.escape_places.now a.escape_ids.now a.base a.place (sym c.is_escaped.ensures ∙ c.if-is_escaped.true) c.requires c.near-near.ensures c.at_row-id.ensures
