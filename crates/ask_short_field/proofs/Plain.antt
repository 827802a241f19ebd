-- What a code that says no field by itself, and no element, says without the escapes: nothing. Assumes nothing.
use Prim.Native.Nat.{ℕ, ◌≤◌, ◌<◌}
use native.Mathlib.Omega.{arith}
use mathlib.Core.Path.{◌≡◌, sym}
use mathlib.Core.Logic.{◌⊎◌, inl, inr}
use mathlib.Core.List.{List, []}
use Rattle.columns.specs.Lists.{◌!◌}
use Rattle.columns.specs.Ranks.{bisect}
use Rattle.columns.proofs.Lists.{lt_or_ge}
use Rattle.labels.specs.Reading.{code_back, coarse_back}
use Rattle.ask_field.specs.Sought.{Unsaid}
use Rattle.ask_field.proofs.Placed.{past_says}
use Rattle.ask_short.specs.Lean.{plain_of}
use Rattle.ask_short.proofs.Plain.{no_row}

module _ (codes fields : List ℕ) (e : ℕ) where
  escape_says : codes ! e ≡ 32767 → coarse_back (plain_of codes fields) e ≡ []
  unfolding coarse_back code_back
  escape_says q = rw q (no_row e 32767 (bisect [] e))

  pub unread-says : Unsaid codes fields e → [] ≡ coarse_back (plain_of codes fields) e
  unread-says u = sym (go (lt_or_ge (codes ! e) 32767))
    where
      go : (codes ! e < 32767) ⊎ (32767 ≤ codes ! e) → coarse_back (plain_of codes fields) e ≡ []
      go (inl a) = past_says (plain_of codes fields) e u.no_element (λ q. omega arith) (u.no_field a)
      go (inr a) = escape_says (omega (arith, u.no_element))
