-- What the programs write, in bytes. An answer has 64 bits, so a sum of bytes counts modulo 2^64. Assumes nothing.
use Rattle.std.specs.Prelude.{ℕ, zero, suc, ◌+◌, ◌/◌, ◌%◌, ◌^◌, cond, List, length, nat_lt}
use Rattle.columns.specs.Lists.{sum}

-- The decimal digits of n: one where n is below 10, else one more than n / 10 has. The first argument bounds the divisions.
unfoldable pub digits_by : ℕ → ℕ → ℕ
digits_by zero n = 1
digits_by (suc k) n = cond (nat_lt n 10) 1 (1 + digits_by k (n / 10))

-- how many decimal digits n has
unfoldable pub digit_count : ℕ → ℕ
digit_count n = digits_by n n

-- a number of a column: a space and its digits
abbrev pub spaced_bytes : ℕ → ℕ
spaced_bytes n = (1 + digit_count n) % 2 ^ 64

-- a line: the text, the digits of n, and the line's end
abbrev pub line_bytes : List ℕ → ℕ → ℕ
line_bytes text n = (length text + digit_count n + 1) % 2 ^ 64

-- a column: the text, its numbers, and the line's end
abbrev pub column_bytes : List ℕ → List ℕ → ℕ
column_bytes text xs = (length text + sum spaced_bytes xs + 1) % 2 ^ 64
