-- The escapes and codes of an object that reads back. Assumes nothing.
use Prim.Native.Nat.{ℕ, suc, ◌<◌}
use native.Mathlib.Omega.{arith}
use mathlib.Core.Path.{◌≡◌}
use mathlib.Core.Bool.{true, not}
use mathlib.Core.List.{List}
use borrow.Author.Tests.{lt-ltb, leb-false, eqb-true, not-true, not-false}
use lib.ListN.{length}
use Rattle.columns.specs.Ranks.{Rises}
use Rattle.columns.proofs.Ranks.{steps_rise}
use Rattle.columns.proofs.Tests.{each_of, any_false, second_fails}
use Rattle.rules.specs.Verdict.{falls}
use Rattle.rules.specs.Questions.{Columns, rises, label_reads, reads_back, offset_at, edges_in}

-- a list that is tested to rise does
tested-rises : (xs : List ℕ) → rises xs ≡ true → Rises xs
unfolding rises
tested-rises xs h = steps_rise xs (λ i m. leb-false _ _ (second_fails _ _ (any_false (falls xs) (length xs) (suc i) (not-true _ h) m) (lt-ltb 0 (suc i) (omega arith))))

module _ (c : Columns) (o : ℕ) (h : reads_back c o ≡ true) where
  pub escapes_rising : Rises c.labels.escape_at
  unfolding reads_back
  escapes_rising = tested-rises c.labels.escape_at (each_of _ h 2)

  pub escapes_paired : length c.labels.escape_at ≡ length c.labels.escape_label
  unfolding reads_back
  escapes_paired = eqb-true _ _ (each_of _ h 3)

  pub edge_reads : (k : ℕ) → k < edges_in c o → label_reads c.labels (offset_at c o) k ≡ true
  unfolding reads_back
  edge_reads k l = not-false _ (any_false (λ k. not (label_reads c.labels (offset_at c o) k)) (edges_in c o) k (not-true _ (each_of _ h 10)) l)
