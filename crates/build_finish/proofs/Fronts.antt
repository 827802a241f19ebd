-- The used fronts of the work columns, cut at what there is. Assumes nothing.
use Prim.Native.Nat.{ℕ, ◌≤◌, ◌<◌, min}
use native.Mathlib.Omega.{arith}
use mathlib.Core.Path.{◌≡◌, sym, ap, ◌∙◌}
use mathlib.Core.Logic.{◌⊎◌, inl, inr}
use mathlib.Core.List.{List}
use lib.ListN.{length, take}
use lib.Seq.{take_all}
use Rattle.columns.proofs.Lists.{lt_or_ge}
use Rattle.rules.specs.Input.{Schema}
use Rattle.rules.specs.Edges.{Parts}
use Rattle.labels.specs.Fields.{Naming}
use Rattle.code_stages.specs.Stages.{Ready}
use Rattle.code_columns.specs.Finished.{Hands}

-- as many as there are, or all
pub take_least : (xs : List ℕ) (a : ℕ) {r : ℕ} → r ≡ min a (length xs) → take r xs ≡ take a xs
take_least xs a {r} e = go (lt_or_ge a (length xs))
  where
    go : (a < length xs) ⊎ (length xs ≤ a) → take r xs ≡ take a xs
    go (inl h) = let z : r ≡ a = omega (arith, e) in ap (λ (n : ℕ). take n xs) z
    go (inr h) = let z : r ≡ length xs = omega (arith, e) in ap (λ (n : ℕ). take n xs) z ∙ take_all (length xs) xs (omega arith) ∙ sym (take_all a xs h)

pub ready_used : {g : Naming} {classes names : ℕ} (xs ys : List ℕ) (r a q b : ℕ) → take r xs ≡ take a xs → take q ys ≡ take b ys → Ready g classes names (take a xs) (take b ys) → Ready g classes names (take r xs) (take q ys)
ready_used xs ys r a q b e f h = rw (e, f) h

pub hands_used : {s : Schema} {p : Parts} {before : List ℕ} {g : Naming} {classes names : ℕ} (xs ys : List ℕ) (r a q b : ℕ) → take r xs ≡ take a xs → take q ys ≡ take b ys
    → Hands s p before g classes names (take a xs) (take b ys) → Hands s p before g classes names (take r xs) (take q ys)
hands_used xs ys r a q b e f h = record {
  named = h.named;
  class_count = h.class_count;
  name_count = h.name_count;
  laid_out = h.laid_out ∙ sym e;
  labelled = h.labelled ∙ sym f;
  told = h.told;
}
