-- One object's edges with the answer in one number. Assumes nothing.
use Rattle.std.specs.Prelude.{ℕ, ◌+◌, ◌≡◌, cond, List, ltb}
use Rattle.columns.specs.Columns.{cleared}
use Rattle.rules.specs.Questions.{EdgesLeft}
use Rattle.answer_replies.specs.Reply.{reply_of}

-- What a call left, its answer in one number: 2 more than how many edges there are, 0 after a refusal.
pub record EdgesReplied (left : EdgesLeft) (r : ℕ) (t l : List ℕ) : Type 0 where
  pub reply : r ≡ reply_of left.says
  pub targets : t ≡ left.targets
  pub labels : l ≡ left.labels

-- The end: so many edges are kept, or none where fewer were read.
pub record ShortSettled (count read r : ℕ) (t₀ l₀ t l : List ℕ) : Type 0 where
  pub reply : r ≡ cond (ltb read count) 0 (count + 2)
  pub targets : t ≡ cleared (cond (ltb read count) 0 count) t₀
  pub labels : l ≡ cleared (cond (ltb read count) 0 count) l₀
