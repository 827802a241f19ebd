-- The tests of ROOM, as the code makes them, and the answers that they come to. Assumes nothing.
use Prim.Native.Nat.{ℕ, ◌+◌, ◌/◌, ◌≤◌, ◌<◌}
use native.Mathlib.Omega.{arith}
use mathlib.Core.Path.{◌≡◌, refl, sym, ap, ◌∙◌}
use mathlib.Core.Logic.{◌⊎◌, inl, inr}
use mathlib.Core.Bool.{Bool, true, false}
use mathlib.Core.List.{List, [], ◌∷◌}
use lib.Dec.{ltb}
use borrow.Author.Tests.{lt-ltb, le-ltb}
use Rattle.columns.specs.Lists.{any_of}
use Rattle.columns.specs.Columns.{accepts, cleared, kept}
use Rattle.store.specs.Blocked.{blocks_of}
use Rattle.rules.specs.declared.Refusal.{Refusal}
use Rattle.rules.specs.declared.Counts.{Counts}
use Rattle.std.specs.Prelude.{None, Some, Result, Ok, Err, MatchResult}
use Rattle.rules.specs.Types.{refusal_says, built_says}
use Rattle.rules.specs.Verdict.{first_of, at}
use Rattle.rules.proofs.Types.{refusal_refuses}
use Rattle.build_rooms.specs.Stages.{Early, short_early, first, first_short, room_says}

-- one column of a buffer, a pair, and the blocks with the columns of offsets: short of a need, or none of them
pub single : (b : Bool) → any_of (b ∷ []) ≡ b
unfolding any_of
single true = refl
single false = refl

pub pair_short : {a b n : ℕ} → (a < n) ⊎ ((n ≤ a) × (b < n)) → any_of (ltb a n ∷ ltb b n ∷ []) ≡ true
unfolding any_of
pair_short {a} {b} {n} (inl h) = rw (lt-ltb a n h)
pair_short {a} {b} {n} (inr (h, g)) = rw (le-ltb a n h, lt-ltb b n g)

pub pair_enough : {a b n : ℕ} → n ≤ a → n ≤ b → any_of (ltb a n ∷ ltb b n ∷ []) ≡ false
unfolding any_of
pair_enough {a} {b} {n} h g = rw (le-ltb a n h, le-ltb b n g)

-- "(objects + 1) / 256 rounded up"
blocks_are : (n : ℕ) → blocks_of (n + 1) ≡ n / 256 + 1
blocks_are n = omega arith

pub offsets_short : {b s w n : ℕ} → (b ≤ n / 256) ⊎ (((n / 256 < b) × (s ≤ n)) ⊎ ((n / 256 < b) × (n < s) × (w ≤ n))) → any_of (ltb b (blocks_of (n + 1)) ∷ ltb s (n + 1) ∷ ltb w (n + 1) ∷ []) ≡ true
unfolding any_of
offsets_short {b} {s} {w} {n} (inl h) = rw (blocks_are n, lt-ltb b (n / 256 + 1) (omega arith))
offsets_short {b} {s} {w} {n} (inr (inl (h, g))) = rw (blocks_are n, le-ltb b (n / 256 + 1) (omega arith), lt-ltb s (n + 1) (omega arith))
offsets_short {b} {s} {w} {n} (inr (inr (h, g, f))) = rw (blocks_are n, le-ltb b (n / 256 + 1) (omega arith), le-ltb s (n + 1) (omega arith), lt-ltb w (n + 1) (omega arith))

pub offsets_enough : {b s w n : ℕ} → n / 256 < b → n < s → n < w → any_of (ltb b (blocks_of (n + 1)) ∷ ltb s (n + 1) ∷ ltb w (n + 1) ∷ []) ≡ false
unfolding any_of
offsets_enough {b} {s} {w} {n} h g f = rw (blocks_are n, le-ltb b (n / 256 + 1) (omega arith), le-ltb s (n + 1) (omega arith), le-ltb w (n + 1) (omega arith))

-- the first short buffer is the answer
first_room : (ks done : List ℕ) {k : ℕ} → Some k ≡ first ks → first_of (at 9 ks) done ≡ 9 ∷ k ∷ []
unfolding at
first_room [] done h = cc
first_room (x ∷ ks) done {k} h = let z : x ≡ k = cc in ap (λ (n : ℕ). 9 ∷ n ∷ []) z

none_first : (ks : List ℕ) → None ≡ first ks → ks ≡ []
none_first [] h = refl
none_first (x ∷ ks) h = cc

module _ (places weak roots offsets : ℕ) (e : Early) where
  pub room_short : {k : ℕ} → Some k ≡ first_short places weak roots offsets e → 9 ∷ k ∷ [] ≡ room_says (0 ∷ places ∷ []) weak roots offsets e
  unfolding room_says accepts first_short
  room_short h = sym (first_room (short_early places weak roots offsets e) _ h)

  pub room_enough : None ≡ first_short places weak roots offsets e → 0 ∷ 0 ∷ weak ∷ roots ∷ 0 ∷ 0 ∷ 0 ∷ 0 ∷ [] ≡ room_says (0 ∷ places ∷ []) weak roots offsets e
  unfolding room_says accepts at first_short
  room_enough h =
      sym (ap (λ (ks : List ℕ). first_of (at 9 ks) (0 ∷ 0 ∷ weak ∷ roots ∷ 0 ∷ 0 ∷ 0 ∷ 0 ∷ [])) (none_first (short_early places weak roots offsets e) h))

  pub room_refused : (r : Refusal) → refusal_says r ≡ room_says (refusal_says r) weak roots offsets e
  unfolding room_says
  room_refused r = rw (refusal_refuses r)

pub kept_refused : (i : ℕ) (r : Refusal) → 0 ≡ kept i (refusal_says r)
unfolding kept
kept_refused i r = rw (refusal_refuses r)

-- a number that an acceptance keeps
pub kept_case : (i : ℕ) (f : Counts → ℕ) → ((c : Counts) → f c ≡ kept i (built_says (Ok c))) → (v : Result Counts Refusal) (n : ℕ) → MatchResult v (λ c. n ≡ f c) (λ _. n ≡ 0) → n ≡ kept i (built_says v)
kept_case i f at (Ok c) n h = h ∙ at c
kept_case i f at (Err r) n h = h ∙ kept_refused i r

-- a column cleared from a number on that is another's value
pub cleared-from : (d : List ℕ) {n m : ℕ} {d' : List ℕ} → d' ≡ cleared n d → n ≡ m → d' ≡ cleared m d
cleared-from d e h = e ∙ ap (λ (k : ℕ). cleared k d) h
