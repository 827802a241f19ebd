-- An answer in one number says what was answered: it is 0 only where the whole question is to be asked, and else the values come back from it. Assumes nothing.
use Prim.Native.Nat.{ℕ, ◌+◌, ◌*◌, ◌/◌, ◌%◌, ◌<◌}
use native.Mathlib.Omega.{arith}
use mathlib.Core.Path.{◌≡◌, refl, ◌∙◌}
use mathlib.Core.List.{[], ◌∷◌}
use borrow.Author.Tests.{lt-ltb}
use Rattle.columns.specs.Lists.{all_of}
use Rattle.columns.specs.Columns.{accepts}
use Rattle.answer_replies.specs.Reply.{span_number, reply_of}

-- two numbers come back from their halves
halves : (a b n : ℕ) → b < 4294967296 → n ≡ a * 4294967296 + b → (n / 4294967296 ≡ a) × (n % 4294967296 ≡ b)
halves a b n l e = (omega (arith, e), omega (arith, e))

-- The span of an accepted answer, whose ends have room, comes back.
pub span_number-back : (start end n : ℕ) → start < 4294967296 → end < 4294967295 → n + 1 ≡ span_number (0 ∷ start ∷ end ∷ []) → (n / 4294967296 ≡ start) × (n % 4294967296 ≡ end)
unfolding span_number accepts all_of
span_number-back start end n s l e =
    let is : n + 1 ≡ start * 4294967296 + end + 1 = e ∙ rw (lt-ltb start 4294967296 s, lt-ltb end 4294967295 l) in
    halves start end n (omega arith) (omega (arith, is))

-- A value and nothing are told apart, and from a refusal.
pub reply_value : (v : ℕ) → reply_of (0 ∷ v ∷ []) ≡ v + 2
unfolding reply_of accepts
reply_value v = refl

pub reply_nothing : reply_of (0 ∷ []) ≡ 1
unfolding reply_of accepts
reply_nothing = refl
