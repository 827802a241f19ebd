-- The end of coding: every column cleared behind its used part. Assumes nothing.
use Rattle.std.specs.Prelude.{ℕ, ◌+◌, ◌≡◌, cond, List, length}
use Rattle.columns.specs.Lists.{◌!◌}
use Rattle.columns.specs.Columns.{accepts, cleared}
use Rattle.rules.specs.Built.{CodedLeft}

-- Where clearing starts: behind the used part where the answer accepts, else at the front.
abbrev pub used_to : List ℕ → ℕ → ℕ
used_to says n = cond (accepts says) n 0

-- The columns set right: each is cleared behind its used part, or whole. The blocks have zeros behind them already.
pub record CodingSettled (says : List ℕ) (names edges : ℕ) (l₀ : CodedLeft) (l : CodedLeft) : Type 0 where
  pub bases : l.bases ≡ cleared (used_to says (length l₀.bases)) l₀.bases
  pub short : l.short ≡ cleared (used_to says (length l₀.short)) l₀.short
  pub long_at : l.long_at ≡ cleared (used_to says (length l₀.long_at)) l₀.long_at
  pub long_value : l.long_value ≡ cleared (used_to says (length l₀.long_value)) l₀.long_value
  pub fields : l.fields ≡ cleared (used_to says (says ! 5)) l₀.fields
  pub table : l.table ≡ cleared (used_to says (names + 2)) l₀.table
  pub escape_at : l.escape_at ≡ cleared (used_to says (says ! 6)) l₀.escape_at
  pub escape_label : l.escape_label ≡ cleared (used_to says (says ! 6)) l₀.escape_label
  pub codes : l.codes ≡ cleared (used_to says edges) l₀.codes
  pub counting : l.counting ≡ cleared 0 l₀.counting
  pub ranking : l.ranking ≡ cleared 0 l₀.ranking
