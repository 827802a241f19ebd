-- One entry, case by case. Assumes nothing.
use Prim.Native.Nat.{ℕ, ◌+◌, ◌-◌, ◌≤◌, ◌<◌}
use mathlib.Core.Path.{◌≡◌}
use mathlib.Core.Bool.{false}
use mathlib.Core.List.{List, [], ◌∷◌}
use borrow.Author.Tests.{lt-ltb, le-ltb}
use Rattle.columns.specs.Lists.{◌!◌}
use Rattle.columns.specs.Columns.{accepts}
use Rattle.rules.specs.Incoming.{Incoming}
use Rattle.incoming_ask.specs.Entries.{in_span, in_objects, entry_in, entry_of}

module _ (sources places : List ℕ) (a b objects t k : ℕ) where
  pub no_entry : b - a ≤ k → entry_in sources places a b objects t k ≡ 11 ∷ k ∷ []
  unfolding entry_in
  no_entry l = rw (le-ltb k (b - a) l)

  pub is_entry : k < b - a → sources ! (a + k) < objects → entry_in sources places a b objects t k ≡ 0 ∷ sources ! (a + k) ∷ places ! (a + k) ∷ []
  unfolding entry_in
  is_entry l m = rw (lt-ltb k (b - a) l, lt-ltb (sources ! (a + k)) objects m)

module _ (i : Incoming) (t k : ℕ) where
  pub entry_spanned : {a b : ℕ} → in_span i t ≡ 0 ∷ a ∷ b ∷ [] → entry_of i t k ≡ entry_in i.sources i.places a b (in_objects i) t k
  unfolding entry_of accepts
  entry_spanned e = rw e

  pub entry_refused : {says : List ℕ} → in_span i t ≡ says → accepts says ≡ false → entry_of i t k ≡ says
  unfolding entry_of
  entry_refused e f = rw (e, f)
