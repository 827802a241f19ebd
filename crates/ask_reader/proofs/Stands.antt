-- What stands at a position of an object's parts, read. Assumes nothing.
use Prim.Native.Nat.{ℕ, ◌≤◌, ◌<◌}
use mathlib.Core.Path.{◌≡◌, sym, ap, ◌∙◌}
use mathlib.Core.List.{List, []}
use Rattle.std.specs.Prelude.{Option, None, Some}
use borrow.Author.Tests.{lt-leb, le-leb}
use Rattle.labels.specs.Reading.{code_back}
use Rattle.ask_reader.specs.declared.Step.{Step}
use Rattle.ask_reader.specs.Read.{with_label, edge_back}

-- What stands there, read: its target is no object; its label; the end.
module _ (objects : ℕ) (f a l : List ℕ) (place n : ℕ) where
  abbrev back : Option Step → List ℕ
  back s = edge_back objects f a l place n s

  pub edge-out : {e : Step} {s : Option Step} → Some e ≡ s → objects ≤ e.target → [] ≡ back s
  unfolding edge_back
  edge-out {e} q h = let none : back (Some e) ≡ [] = rw (le-leb objects e.target h) in sym none ∙ ap back q

  pub edge_is : {e : Step} {s : Option Step} {ls : List ℕ} → Some e ≡ s → e.target < objects → ls ≡ code_back f a l place n e.code → with_label e.target ls ≡ back s
  unfolding edge_back
  edge_is {e} q h r =
      let one : back (Some e) ≡ with_label e.target (code_back f a l place n e.code) = rw (lt-leb objects e.target h) in
      ap (with_label e.target) r ∙ sym one ∙ ap back q

  pub edge_none : {s : Option Step} → None ≡ s → [] ≡ back s
  unfolding edge_back
  edge_none q = ap back q
